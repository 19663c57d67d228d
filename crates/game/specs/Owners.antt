-- The number of each owner, and the word that is printed for it.
use Rattle.std.specs.Prelude.{◌≡◌, ◌≢◌, ℕ, List, codes, MatchResult, Result}
use Rattle.game.specs.declared.Owner.{Owner}
use Rattle.game.specs.declared.UnknownOwner.{UnknownOwner}
use Rattle.game.specs.declared.Owner.TheVariants.{Ours, Theirs}

-- the number by which a line file names an owner: 0 ours, 1 theirs
abbrev pub owner_number : Owner → ℕ
owner_number Ours = 0
owner_number Theirs = 1

-- what a number names: the owner with that number, or the number back where no owner has it
abbrev pub NamesOwner : ℕ → Result Owner UnknownOwner → Type 0
NamesOwner n r = MatchResult r (λ o. owner_number o ≡ n) (λ e. (e.0 ≡ n) × ((o : Owner) → owner_number o ≢ n))

-- the word that is printed for an owner
abbrev pub owner_text : Owner → List ℕ
owner_text Ours = codes "ours"
owner_text Theirs = codes "theirs"
