-- What `least` answers, and what its rows tell.
use Rattle.std.specs.Prelude.{◌≡◌, ℕ, suc, ◌+◌, ◌*◌, ◌<◌, ◌≤◌, Bool, true, false, ◌||◌, ◌↔◌, List, [], ◌∷◌, length, Ok, Err, Result, IfOk, nat_lt, slice_index}
use Rattle.game.specs.Game.{Game, drop_sum}
use Rattle.game.specs.Vessel.{Hopper, lip, unlimited}
use Rattle.game.specs.Fill.{Good, IsLeast, AtMostOne, Row, IsRow, LeastGood, Repeats, FirstRepeat}
use Rattle.game.specs.Rows.{Parts}
use Rattle.game.specs.Published.{LowerWeakUpperBound, LowerBound}
use Rattle.hopper.specs.Faults.{Check, check}
use Rattle.hopper.specs.declared.Fault.{Fault}
use Rattle.hopper.specs.declared.Layer.TheVariants.{Rest}
use Rattle.hopper.specs.declared.Refusal.TheVariants.{RowTooShort, RowsKeepChanging}
use Rattle.hopper.specs.Refusing.{verdict}
use Rattle.solver.specs.Entries.{entries, KeptFrom}

-- one of the buffers, with these lengths, has no room for all places
abbrev pub too_short : Game → ℕ → ℕ → Bool
too_short g room spare = nat_lt room g.places || nat_lt spare g.places

-- both buffers have room, and the rows up to the budget do not all change: the last check fails where `changing` says so
abbrev pub least_checks : Game → ℕ → ℕ → ℕ → Bool → List Check
least_checks g room spare budget changing =
    check (too_short g room spare) RowTooShort Rest g.places ∷ check changing RowsKeepChanging Rest budget ∷ []

-- j is the first row that repeats, both buffers hold it, and the rest of them is as it was
pub record FirstRepeatedRow (g : Game) (v : Hopper) (row row' next next' : List ℕ) (j : ℕ) : Type 0 where
  pub rounds : FirstRepeat g v j
  pub row_held : IsRow g v j (entries row')
  pub next_held : IsRow g v j (entries next')
  pub row_kept : KeptFrom g.places row row'
  pub next_kept : KeptFrom g.places next next'

-- no row up to row budget repeats, the buffers hold that row and the one after it, and the rest of them is as it was
pub record StillChanging (g : Game) (v : Hopper) (row row' next next' : List ℕ) (budget : ℕ) : Type 0 where
  pub changing : (i : ℕ) → i ≤ budget → ¬ Repeats g v i
  pub row_held : IsRow g v budget (entries row')
  pub next_held : IsRow g v (suc budget) (entries next')
  pub row_kept : KeptFrom g.places row row'
  pub next_kept : KeptFrom g.places next next'

-- refused by the first check that fails: before any row is made where a buffer is too short, else with rows that still change
pub record LeastRefuses (g : Game) (v : Hopper) (row row' next next' : List ℕ) (budget : ℕ) (e : Fault) : Type 0 where
  pub refused : verdict (least_checks g (length row) (length next) budget true) ≡ Err e
  pub untouched : too_short g (length row) (length next) ≡ true → (row' ≡ row) × (next' ≡ next)
  pub changing : too_short g (length row) (length next) ≡ false → StillChanging g v row row' next next' budget

-- what `least` answers, and leaves of its buffers
abbrev pub LeastAnswers : Game → Hopper → List ℕ → List ℕ → List ℕ → List ℕ → ℕ → Result ℕ Fault → Type 0
LeastAnswers g v row row' next next' budget (Ok j) =
    (verdict (least_checks g (length row) (length next) budget false) ≡ Ok tt) × (j ≤ budget) × FirstRepeatedRow g v row row' next next' j
LeastAnswers g v row row' next next' budget (Err e) = LeastRefuses g v row row' next next' budget e

-- the entries are the least good fills
abbrev pub HoldsLeastGood : Game → Hopper → List ℕ → Type 0
HoldsLeastGood g v row = (p : ℕ) → p < g.places → LeastGood g v.table p (entries row p)

-- of the fills up to the top, those from the entry on are good and those below it bad; all are bad where the entry is none
abbrev pub GoodFrom : Game → Hopper → List ℕ → Type 0
GoodFrom g v row = (p : ℕ) → p < g.places → Parts v.top (Good g v.table p) (entries row p)

-- what the row of an accepted `least` tells
pub record RowTells (g : Game) (v : Hopper) (row : List ℕ) : Type 0 where
  pub good : HoldsLeastGood g v row
  pub parted : GoodFrom g v row
  -- over a lip the fills from the entry on are the credits that win the lower-weak-upper-bound problem
  pub over_lip : (b : ℕ) → v.table ≡ (lip b).table → (p c : ℕ) → p < g.places → c ≤ b → (slice_index row p ≤ c) ↔ LowerWeakUpperBound g b p c
  -- over a lip no lower than the drop sum the entries are the least good fills of the hopper without a lip
  pub without_lip : (b : ℕ) → v.table ≡ (lip b).table → drop_sum g ≤ b → (p : ℕ) → p < g.places → LeastGood g unlimited p (entries row p)
  -- and the least credits that win the lower-bound problem
  pub lower_bound : (b : ℕ) → v.table ≡ (lip b).table → drop_sum g ≤ b → (p : ℕ) → p < g.places → IsLeast (LowerBound g p) (entries row p)

-- a budget of places × (top + 1) or more is never too small
abbrev pub NeverGivesUp : Game → Hopper → ℕ → Result ℕ Fault → Type 0
NeverGivesUp g v budget (Ok j) = Unit {0}
NeverGivesUp g v budget (Err e) = g.places * (v.top + 1) ≤ budget → ¬ (e.refusal ≡ RowsKeepChanging)

-- there is one row of each number, and one least good fill of each place
pub record RowsUnique (g : Game) (v : Hopper) : Type 0 where
  pub row : (j : ℕ) (r s : Row) → IsRow g v j r → IsRow g v j s → (p : ℕ) → p < g.places → r p ≡ s p
  pub least : (p : ℕ) → AtMostOne (LeastGood g v.table p)

-- all that `least` promises of its answer and its buffers
pub record LeastPromises (g : Game) (v : Hopper) (row row' next next' : List ℕ) (budget : ℕ) (r : Result ℕ Fault) : Type 0 where
  pub answer : LeastAnswers g v row row' next next' budget r
  pub tells : IfOk r (λ _. RowTells g v row')
  pub soon : NeverGivesUp g v budget r
  pub unique : RowsUnique g v
