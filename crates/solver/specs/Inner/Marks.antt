-- What one round of marks does, when marks settle, and the number of the spill.
use Rattle.std.specs.Bool.{Decides}
use Rattle.std.specs.Prelude.{◌≡◌, ℕ, ◌<◌, ◌≤◌, Bool, ◌⊎◌, List, Some, nat_le, slice_index, ◌+◌, min, ◌↔◌, cond}
use Rattle.game.specs.declared.Edge.{Edge}
use Rattle.game.specs.Game.{Game}
use Rattle.game.specs.Forced.{ForcesInto, spill}
use Rattle.hopper.specs.Boards.{step_at}
use Rattle.solver.specs.Entries.{never}
use Rattle.game.specs.Limits.{most_fills}

-- the place has a mark below the round
abbrev pub MarkedBelow : List ℕ → ℕ → ℕ → Type 0
MarkedBelow marks round p = slice_index marks p < round

-- the place's move m leads into P
abbrev pub LeadsTo : Game → (ℕ → Type 0) → ℕ → ℕ → Type 0
LeadsTo g P p m = (e : Edge) × (step_at (g.at p) m ≡ Some e) × P e.target

-- the round has come to the first n places: those with a mark keep it, the others get the round as mark where the other side can force
-- them into the places marked before, and fresh tells whether there was such a place
pub record RoundDone (g : Game) (n : ℕ) (old new : List ℕ) (round : ℕ) (fresh : Bool) : Type 0 where
  pub rest : (k : ℕ) → n ≤ k → slice_index new k ≡ slice_index old k
  pub kept : (k : ℕ) → k < n → slice_index old k < never → slice_index new k ≡ slice_index old k
  pub marked : (k : ℕ) → k < n → slice_index old k ≡ never
      → ((slice_index new k ≡ round) × ForcesInto g (MarkedBelow old round) k) ⊎ ((slice_index new k ≡ never) × ¬ ForcesInto g (MarkedBelow old round) k)
  pub news : Decides fresh ((k : ℕ) × (k < n) × (slice_index old k ≡ never) × (slice_index new k ≡ round))

-- the place's move m leads to a place with this mark
abbrev pub LeadsToMark : Game → List ℕ → ℕ → ℕ → ℕ → Type 0
LeadsToMark g marks p m n = LeadsTo g (λ q. slice_index marks q ≡ n) p m

-- the best mark that the other side can have the place's next move lead to: one below each number above it, and below no other
abbrev pub IsBest : Game → List ℕ → ℕ → ℕ → Type 0
IsBest g marks p best = (r : ℕ) → (best < r) ↔ ForcesInto g (MarkedBelow marks r) p

-- the mark that is due at a place: 0 at the target, anywhere else one more than the best mark, and never where that is never
pub record IsDue (g : Game) (marks : List ℕ) (target p mark : ℕ) : Type 0 where
  pub at_target : p ≡ target → mark ≡ 0
  pub elsewhere : ¬ (p ≡ target) → (best : ℕ) × IsBest g marks p best × (mark ≡ min (best + 1) never)

-- the first n places have the marks that are due, and of those that are numbers the largest is the rounds, which are 0 before there is one
pub record Settled (g : Game) (target n : ℕ) (marks : List ℕ) (rounds : ℕ) : Type 0 where
  pub due : (p : ℕ) → p < n → IsDue g marks target p (slice_index marks p)
  pub most : (p : ℕ) → p < n → (slice_index marks p ≡ never) ⊎ (slice_index marks p ≤ rounds)
  pub attained : (rounds ≡ 0) ⊎ ((p : ℕ) × (p < n) × (slice_index marks p ≡ rounds))

-- the number of the spill: how many fills there are, or 0 where they are too many and the spill is the whole board
abbrev pub spill_number : Game → ℕ → ℕ
spill_number g top = cond (nat_le (spill g top) most_fills) (spill g top) 0
