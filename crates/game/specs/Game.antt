-- A game: places with an owner each, moves with a target and an amount.
use Rattle.std.specs.Prelude.{◌≡◌, ℕ, suc, ◌<◌, ◌≤◌, max, List, [], ◌∷◌, map, length, ℤ, pos, negsuc, Some, None, Option, unsigned_abs}
use Rattle.std.specs.List.{slice_get, sum, range_with_len}
use Rattle.game.specs.Limits.{most_places, most_moves, most_amount}
pub use Rattle.game.specs.declared.Edge.{Edge}
pub use Rattle.game.specs.declared.Owner.{Owner}
pub use Rattle.game.specs.declared.Owner.TheVariants.{Ours, Theirs}

-- a place: who chooses there, and the moves to choose from, numbered in the order of the list
pub record Place : Type 0 where
  pub owner : Owner
  pub moves : List Edge

-- a game: how many places there are, and what each number below that names
pub record Game : Type 0 where
  pub places : ℕ
  pub at : ℕ → Option Place

-- the amount may be poured
abbrev pub InLimits : ℤ → Type 0
InLimits a = unsigned_abs a ≤ most_amount

-- of the moves of a place there is at least one, there are few enough, and each leads to one of so many places
pub record SoundMoves {M : Type 0} (target : M → ℕ) (places : ℕ) (moves : List M) : Type 0 where
  pub some_move : 1 ≤ length moves
  pub few_moves : length moves ≤ most_moves
  pub targets : (m : ℕ) (e : M) → slice_get moves m ≡ Some e → target e < places

-- the moves of a place of the game are sound, and pour amounts that may be poured
pub record SoundPlace (g : Game) (q : Place) : Type 0 where
  pub sound : SoundMoves (λ (e : Edge). e.target) g.places q.moves
  pub amounts : (m : ℕ) (e : Edge) → slice_get q.moves m ≡ Some e → InLimits e.amount

-- each number below the number of places names a sound place, any other names none
pub record WellFormed (g : Game) : Type 0 where
  pub some_place : 1 ≤ g.places
  pub few_places : g.places ≤ most_places
  pub here : (p : ℕ) → p < g.places → (q : Place) × (g.at p ≡ Some q) × SoundPlace g q
  pub gone : (p : ℕ) → g.places ≤ p → g.at p ≡ None

-- what a move of this amount takes out, nothing where it pours in
abbrev pub fall_of : ℤ → ℕ
fall_of (pos n) = 0
fall_of (negsuc n) = suc n

-- the most that one of the moves takes out: the drop of their place
abbrev pub drop_of : List Edge → ℕ
drop_of [] = 0
drop_of (e ∷ es) = max (fall_of e.amount) (drop_of es)

-- the drop of what stands at a place number
abbrev pub drop_at : Option Place → ℕ
drop_at None = 0
drop_at (Some q) = drop_of q.moves

-- the drops of all the places together
abbrev pub drop_sum : Game → ℕ
drop_sum g = sum (map (λ p. drop_at (g.at p)) (range_with_len 0 g.places))
