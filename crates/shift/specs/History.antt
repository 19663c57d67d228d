-- Histories: lists of calls on a shift with what they answered, and the moves made in them.
use Rattle.std.specs.Prelude.{◌≡◌, ℕ, List, [], ◌∷◌, is_ok, cond, Option, Result, ⊤}
use Rattle.std.specs.List.{flat_map}
use Rattle.std.specs.Option.{option_map}
use Rattle.std.specs.Result.{result_err}
use Rattle.game.specs.Game.{Game}
use Rattle.game.specs.Vessel.{Hopper}
use Rattle.game.specs.Play.{Run}
use Rattle.hopper.specs.declared.Fault.{Fault}
use Rattle.shift.specs.declared.Order.{Order}
use Rattle.shift.specs.declared.Returned.{Returned}
use Rattle.shift.specs.declared.Shift.{Shift}
use Rattle.shift.specs.Answers.{OrderAnswers, DoneAnswers, WithdrawnAnswers, ArrivedAnswers}

-- a call on a shift; a report may name any shift, place and move
pub data Call : Type 0 where
  AskOrder : Call
  ReportDone : Order → Call
  ReportWithdrawn : Order → Call
  ReportArrived : ℕ → Call

-- a call on a shift, with what it answered
pub data Event : Type 0 where
  Ordered : Result Order Fault → Event
  Done : Order → Result ⊤ Returned → Event
  Withdrawn : Order → Result ⊤ Returned → Event
  Arrived : ℕ → Result ⊤ Fault → Event

-- the call that was made in an event
abbrev pub call_of : Event → Call
call_of (Ordered r) = AskOrder
call_of (Done o r) = ReportDone o
call_of (Withdrawn o r) = ReportWithdrawn o
call_of (Arrived m r) = ReportArrived m

-- the fault that the call of an event was refused with, None where it was accepted
abbrev pub refused_with : Event → Option Fault
refused_with (Ordered r) = result_err r
refused_with (Done o r) = option_map (λ x. x.fault) (result_err r)
refused_with (Withdrawn o r) = option_map (λ x. x.fault) (result_err r)
refused_with (Arrived m r) = result_err r

-- the run of an event: one move where it takes the shift along, else none
abbrev pub move_made : Event → Run
move_made (Ordered r) = []
move_made (Done o r) = cond (is_ok r) (o.mv ∷ []) []
move_made (Withdrawn o r) = []
move_made (Arrived m r) = cond (is_ok r) (m ∷ []) []

-- the run of all events of the list
abbrev pub moves_made : List Event → Run
moves_made = flat_map move_made

-- the event can happen to the shift s: its call answers as it must, and leaves the shift s'
abbrev pub Happens : Game → Hopper → List ℕ → Shift → Event → Shift → Type 0
Happens g v marks s (Ordered r) s' = OrderAnswers g v marks s s' r
Happens g v marks s (Done o r) s' = DoneAnswers g v o s s' r
Happens g v marks s (Withdrawn o r) s' = WithdrawnAnswers o s s' r
Happens g v marks s (Arrived m r) s' = ArrivedAnswers g v m s s' r

-- the events, one after another, lead from the shift s to the shift s'
abbrev pub History : Game → Hopper → List ℕ → Shift → List Event → Shift → Type 0
History g v marks s [] s' = s ≡ s'
History g v marks s (e ∷ es) s' = (next : Shift) × Happens g v marks s e next × History g v marks next es s'
