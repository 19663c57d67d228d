-- What each call answers, and the shift after it.
use Rattle.std.specs.Prelude.{◌≡◌, ℕ, List, Some, None, Ok, Err, Option, Result, MatchResult, ⊤}
use Rattle.std.specs.Option.{option_map_or}
use Rattle.game.specs.declared.Edge.{Edge}
use Rattle.game.specs.Game.{Game}
use Rattle.game.specs.Vessel.{Hopper, Table}
use Rattle.hopper.specs.Faults.{Check}
use Rattle.hopper.specs.declared.Fault.{Fault}
use Rattle.hopper.specs.Boards.{step_at}
use Rattle.hopper.specs.Refusing.{verdict, Answers}
use Rattle.shift.specs.declared.Order.{Order}
use Rattle.shift.specs.declared.Returned.{Returned}
use Rattle.shift.specs.declared.Shift.{Shift}
use Rattle.shift.specs.declared.StillOpen.{StillOpen}
use Rattle.shift.specs.Good.{FirstGoodMove}
use Rattle.shift.specs.Checks.{open_checks, order_checks, done_checks, withdrawn_checks, arrived_checks, close_checks}

-- the shift where it stands, with the order for this move open, or with none
abbrev pub with_order : Shift → Option ℕ → Shift
with_order s o = record { number = s.number; place = s.place; level = s.level; opened = o }

-- the shift of this number at place p and level c, with no order open
abbrev pub opened_at : ℕ → ℕ → ℕ → Shift
opened_at number p c = record { number = number; place = p; level = c; opened = None }

-- the shift once this move is made: at its target and the poured level; as it was where there is no move, or the vessel refuses it
abbrev pub moved : Table → Shift → Option Edge → Shift
moved t s move = option_map_or (λ e. option_map_or (opened_at s.number e.target) (t s.level e.amount) s) move s

-- what `open` answers: the shift that was just opened at place p and fill c, or the first check that fails
abbrev pub OpenAnswers : Game → Hopper → List ℕ → ℕ → ℕ → ℕ → Result Shift Fault → Type 0
OpenAnswers g v marks number p c =
    Answers (open_checks g v marks p c) (λ s. s ≡ opened_at number p c) ⊤

-- the order for move m of the place where the shift stands
abbrev pub order_for : Shift → ℕ → Order
order_for s m = record { shift = s.number; place = s.place; mv = m }

-- what `order` answers: an order for the first good move, then the open one of the shift s'; where it is refused the shift is as it was
abbrev pub OrderAnswers : Game → Hopper → List ℕ → Shift → Shift → Result Order Fault → Type 0
OrderAnswers g v marks s s' =
    Answers (order_checks g v marks s)
    (λ o. FirstGoodMove v marks s.level (g.at s.place) o.mv × (o ≡ order_for s o.mv) × (s' ≡ with_order s (Some o.mv)))
    (s' ≡ s)

-- what a report of the order o answers: the shift is then as told, or the order is handed back with the fault and the shift is as it was
abbrev pub ReportAnswers : List Check → Order → Shift → Shift → Shift → Result ⊤ Returned → Type 0
ReportAnswers checks o s told s' r =
    MatchResult r (λ _. (verdict checks ≡ Ok tt) × (s' ≡ told)) (λ x. (verdict checks ≡ Err x.fault) × (x.order ≡ o) × (s' ≡ s))

-- what `done` answers: the shift makes the move of the order o, or the order is handed back
abbrev pub DoneAnswers : Game → Hopper → Order → Shift → Shift → Result ⊤ Returned → Type 0
DoneAnswers g v o s = ReportAnswers (done_checks g v s o) o s (moved v.table s (step_at (g.at s.place) o.mv))

-- what `withdrawn` answers: the order o is taken out and nothing is moved, or it is handed back
abbrev pub WithdrawnAnswers : Order → Shift → Shift → Result ⊤ Returned → Type 0
WithdrawnAnswers o s = ReportAnswers (withdrawn_checks s o) o s (with_order s None)

-- what `arrived` answers: the shift makes their move m; where it is refused the shift is as it was
abbrev pub ArrivedAnswers : Game → Hopper → ℕ → Shift → Shift → Result ⊤ Fault → Type 0
ArrivedAnswers g v m s s' =
    Answers (arrived_checks g v s m) (λ _. s' ≡ moved v.table s (step_at (g.at s.place) m)) (s' ≡ s)

-- what `close` answers: place and level of the shift, or the shift handed back with the fault
abbrev pub CloseAnswers : Shift → Result (ℕ × ℕ) StillOpen → Type 0
CloseAnswers s r =
    MatchResult r
    (λ at. (verdict (close_checks s) ≡ Ok tt) × (at.0 ≡ s.place) × (at.1 ≡ s.level))
    (λ x. (verdict (close_checks s) ≡ Err x.fault) × (x.shift ≡ s))
