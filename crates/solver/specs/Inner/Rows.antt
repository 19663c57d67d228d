-- What each move needs, in a table beside that of the moves, and rows made from the one before.
use Rattle.std.specs.Prelude.{◌≡◌, ℕ, ◌<◌, ◌≤◌, List, Ok, Err, Some, Result, slice_index}
use Rattle.std.specs.List.{slice_get}
use Rattle.game.specs.declared.Edge.{Edge}
use Rattle.game.specs.declared.Owner.{Owner}
use Rattle.game.specs.declared.Owner.TheVariants.{Ours, Theirs}
use Rattle.game.specs.Game.{Game}
use Rattle.game.specs.Vessel.{Hopper}
use Rattle.game.specs.Rows.{Need}
use Rattle.game.proofs.RowMaking.{serves, next_row}
use Rattle.hopper.specs.Boards.{step_at}
use Rattle.hopper.specs.Faults.{fault}
use Rattle.hopper.specs.declared.Fault.{Fault}
use Rattle.hopper.specs.declared.Layer.TheVariants.{Rest}
use Rattle.hopper.specs.declared.Refusal.TheVariants.{RowsKeepChanging}
use Rattle.solver.specs.Entries.{as_entry, entries}
use Rattle.solver.specs.Least.{FirstRepeatedRow, StillChanging, RowTells}
use Rattle.solver.specs.Inner.Moves.{IsArc}

-- of two numbers the one who chooses would have the first: we want them low, the other side wants them high
abbrev pub Prefers : Owner → ℕ → ℕ → Type 0
Prefers Ours a b = a ≤ b
Prefers Theirs a b = b ≤ a

-- the number is what the place's move m needs for its target's entry
abbrev pub NeededFor : Game → Need → List ℕ → ℕ → ℕ → ℕ → Type 0
NeededFor g need row p m n = (e : Edge) × (step_at (g.at p) m ≡ Some e) × (as_entry n ≡ serves need (entries row) e)

-- the number is the place's entry in the row after this one
abbrev pub IsNext : Game → Need → List ℕ → ℕ → ℕ → Type 0
IsNext g need row p n = as_entry n ≡ next_row g need (entries row) p

-- the first n entries of next are those of the row after this one; the others are as they were
pub record NextRow (g : Game) (need : Need) (n : ℕ) (row old next : List ℕ) : Type 0 where
  pub front : (p : ℕ) → p < n → IsNext g need row p (slice_index next p)
  pub rest : (k : ℕ) → n ≤ k → slice_index next k ≡ slice_index old k

-- what is answered, and left of buffers with room for all places, where rows are made until one repeats or the budget is used up
abbrev pub RowsAnswer : Game → Hopper → List ℕ → List ℕ → List ℕ → List ℕ → ℕ → Result ℕ Fault → Type 0
RowsAnswer g v row row' next next' budget (Ok j) =
    (j ≤ budget) × FirstRepeatedRow g v row row' next next' j × RowTells g v row'
RowsAnswer g v row row' next next' budget (Err e) = (e ≡ fault RowsKeepChanging Rest budget) × StillChanging g v row row' next next' budget

-- beside each move stands the entry of its target
abbrev pub AreWanted : List ℕ → List Edge → List ℕ → Type 0
AreWanted row edges wanted = (k : ℕ) (e : Edge) → slice_get edges k ≡ Some e → slice_index wanted k ≡ slice_index row e.target

-- the need with this number is what that move needs for its target's entry
abbrev pub RightNeed : Need → List ℕ → List Edge → List ℕ → ℕ → Type 0
RightNeed need row edges needs k = (e : Edge) → slice_get edges k ≡ Some e → entries needs k ≡ serves need (entries row) e

-- the needs of all moves are right
abbrev pub RightNeeds : Need → List ℕ → List Edge → List ℕ → Type 0
RightNeeds need row edges needs = (k : ℕ) → RightNeed need row edges needs k

-- the needs of the moves in q's part that lead to q are right
abbrev pub RefreshesPart : Need → List ℕ → List Edge → List ℕ → List ℕ → List ℕ → ℕ → List ℕ → Type 0
RefreshesPart need row edges begins numbers slots q needs =
    (k : ℕ) (e : Edge) → IsArc begins numbers slots q k → slice_get edges k ≡ Some e → e.target ≡ q → entries needs k ≡ serves need (entries row) e
