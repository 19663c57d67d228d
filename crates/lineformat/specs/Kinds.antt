-- The number of each kind of vessel.
use Rattle.std.specs.Prelude.{◌≡◌, ◌≢◌, ℕ, Result, MatchResult}
use Rattle.lineformat.specs.declared.Kind.{Kind}
use Rattle.lineformat.specs.declared.Kind.TheVariants.{Lip, Closed, Drawn}
use Rattle.lineformat.specs.declared.UnknownKind.{UnknownKind}

-- the number by which a line file names a kind of vessel: 0 lip, 1 closed, 2 drawn
abbrev pub kind_number : Kind → ℕ
kind_number Lip = 0
kind_number Closed = 1
kind_number Drawn = 2

-- what a number names: the kind with that number, or the number back where no kind has it
abbrev pub NamesKind : ℕ → Result Kind UnknownKind → Type 0
NamesKind n r = MatchResult r (λ k. kind_number k ≡ n) (λ e. (e.0 ≡ n) × ((k : Kind) → kind_number k ≢ n))
