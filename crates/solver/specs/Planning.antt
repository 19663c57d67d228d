-- What `plan` answers, and what becomes of runs that follow it.
use Rattle.std.specs.Prelude.{◌≡◌, ℕ, ◌<◌, ◌≤◌, Bool, true, false, List, [], ◌∷◌, length, is_ok, Some, Ok, Err, Result, nat_le, nat_lt, slice_index}
use Rattle.game.specs.declared.Edge.{Edge}
use Rattle.game.specs.declared.Owner.TheVariants.{Ours, Theirs}
use Rattle.game.specs.Game.{Game}
use Rattle.game.specs.Vessel.{Hopper}
use Rattle.game.specs.Fill.{Row}
use Rattle.game.specs.Play.{Run, IsMove, Leads, Poured}
use Rattle.game.specs.Rows.{IsNeed}
use Rattle.hopper.specs.Faults.{Check, check}
use Rattle.hopper.specs.declared.Fault.{Fault}
use Rattle.hopper.specs.declared.Layer.TheVariants.{Rest}
use Rattle.hopper.specs.declared.Refusal.TheVariants.{NoSuchPlace, RowTooShort, PlanAtTheirs, NoMoveServes}
use Rattle.hopper.specs.Boards.{owner_at, is_owner, step_at}
use Rattle.hopper.specs.Refusing.{verdict}
use Rattle.solver.specs.Entries.{never, entries}
use Rattle.solver.specs.Least.{GoodFrom}

-- the place is there, the row has an entry for each place, the place is ours, and some move serves: the last of them fails where `unserved` says so
abbrev pub plan_checks : Game → ℕ → ℕ → Bool → List Check
plan_checks g room p unserved =
    check (nat_le g.places p) NoSuchPlace Rest p ∷ check (nat_lt room g.places) RowTooShort Rest g.places
    ∷ check (is_owner Theirs (owner_at (g.at p))) PlanAtTheirs Rest p ∷ check unserved NoMoveServes Rest p ∷ []

-- move m of the place p needs no more than the place's entry for its target's entry, and both entries are numbers
pub record NeedsNoMore (g : Game) (v : Hopper) (row : Row) (p m : ℕ) : Type 0 where
  pub move : Edge
  pub has : ℕ
  pub wanted : ℕ
  pub needed : ℕ
  pub is_move : step_at (g.at p) m ≡ Some move
  pub entry : row p ≡ Some has
  pub target : row move.target ≡ Some wanted
  pub need : IsNeed v wanted move.amount (Some needed)
  pub enough : needed ≤ has

-- m is the planned move: the first of the place that needs no more than the place's entry
pub record Planned (g : Game) (v : Hopper) (row : List ℕ) (p m : ℕ) : Type 0 where
  pub serves : NeedsNoMore g v (entries row) p m
  pub first : (k : ℕ) → k < m → ¬ NeedsNoMore g v (entries row) p k

-- what `plan` answers: the planned move, or the first check that fails, the last of them where no move serves
abbrev pub PlanAnswers : Game → Hopper → List ℕ → ℕ → Result ℕ Fault → Type 0
PlanAnswers g v row p (Ok m) = (verdict (plan_checks g (length row) p false) ≡ Ok tt) × Planned g v row p m
PlanAnswers g v row p (Err e) =
    (verdict (plan_checks g (length row) p true) ≡ Err e)
    × (verdict (plan_checks g (length row) p false) ≡ Ok tt → (m : ℕ) → ¬ NeedsNoMore g v (entries row) p m)

-- on a row that parts good fills from bad ones, as an accepted `least` leaves it, each place of ours whose entry is a number has a planned move
abbrev pub AnswersWhereGood : Game → Hopper → List ℕ → ℕ → Result ℕ Fault → Type 0
AnswersWhereGood g v row p r =
    GoodFrom g v row → g.places ≤ length row → owner_at (g.at p) ≡ Some Ours → slice_index row p < never → is_ok r ≡ true

-- at each place of ours that the run comes to it makes the planned move
abbrev pub FollowsPlan : Game → Hopper → List ℕ → ℕ → Run → Type 0
FollowsPlan g v row p [] = Unit {0}
FollowsPlan g v row p (m ∷ run) =
    (owner_at (g.at p) ≡ Some Ours → Planned g v row p m)
    × ((e : Edge) → IsMove g p m e → FollowsPlan g v row e.target run)

-- the level is at least the place's entry
abbrev pub Enough : List ℕ → ℕ → ℕ → Type 0
Enough row p c = slice_index row p ≤ c

-- on a row that parts good fills from bad ones a run that begins at a level up to the top, at or above the entry, and follows the plan is poured move
-- for move, whatever the other side does, and stays at or above the entries
abbrev pub PlannedRunsArePoured : Game → Hopper → List ℕ → Type 0
PlannedRunsArePoured g v row =
    GoodFrom g v row → (p c : ℕ) → p < g.places → Enough row p c → c ≤ v.top
    → (run : Run) (p' : ℕ) → Leads g p run p' → FollowsPlan g v row p run
    → (c' : ℕ) × Poured g v.table p c run p' c' × Enough row p' c' × (c' ≤ v.top)

-- all that `plan` promises of its answer, and of the runs that follow the plan
pub record PlanPromises (g : Game) (v : Hopper) (row : List ℕ) (p : ℕ) (r : Result ℕ Fault) : Type 0 where
  pub answer : PlanAnswers g v row p r
  pub served : AnswersWhereGood g v row p r
  pub runs : PlannedRunsArePoured g v row
