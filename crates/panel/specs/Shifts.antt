-- The numbers of a shift, and what the calls on them answer.
use Rattle.std.specs.Prelude.{◌≡◌, ℕ, ◌==◌, cond, is_some, List, Some, None, Option, Result, ⊤}
use Rattle.std.specs.Option.{unwrap_or}
use Rattle.std.specs.Result.{result_map_both}
use Rattle.hopper.specs.declared.Fault.{Fault}
use Rattle.hopper.specs.Refusing.{if_accepted, Answers}
use Rattle.lineformat.specs.Games.{game_of, hopper_of}
use Rattle.shift.specs.declared.Order.{Order}
use Rattle.shift.specs.declared.Returned.{Returned}
use Rattle.shift.specs.declared.Shift.{Shift}
use Rattle.shift.specs.declared.StillOpen.{StillOpen}
use Rattle.shift.specs.Checks.{open_checks}
use Rattle.shift.specs.Answers.{opened_at, order_for, OrderAnswers, DoneAnswers, WithdrawnAnswers, ArrivedAnswers, CloseAnswers}
use Rattle.panel.specs.declared.shifts.ShiftNumbers.{ShiftNumbers}
use Rattle.panel.specs.Told.{OnFile}

-- the order that is open by two numbers: none where the first is 0, else the second
abbrev pub open_move : ℕ → ℕ → Option ℕ
open_move ordered m = cond (ordered == 0) None (Some m)

-- the shift that numbers name
abbrev pub shift_named : ShiftNumbers → Shift
shift_named x = record { number = x.number; place = x.place; level = x.level; opened = open_move x.ordered x.mv }

-- the numbers that a shift is written down by
abbrev pub shift_numbers : Shift → ShiftNumbers
shift_numbers s = record { number = s.number; place = s.place; level = s.level; ordered = cond (is_some s.opened) 1 0; mv = unwrap_or s.opened 0 }

-- the order that names the shift of this number, place p and move m
abbrev pub order_named : ℕ → ℕ → ℕ → Order
order_named number p m = record { shift = number; place = p; mv = m }

-- an answer of `order` by the number of the move, as an answer by the order that the shift gave out
abbrev pub given_out : Shift → Result ℕ Fault → Result Order Fault
given_out s = result_map_both (order_for s) (λ f. f)

-- an answer to a report without the order, as one that hands the order back where it is refused
abbrev pub handed_back : Order → Result ⊤ Fault → Result ⊤ Returned
handed_back o = result_map_both (λ u. u) (λ f. record { fault = f; order = o })

-- an answer of `close` without the shift, as one that hands the shift back where it is refused
abbrev pub left_open : Shift → Result (ℕ × ℕ) Fault → Result (ℕ × ℕ) StillOpen
left_open s = result_map_both (λ at. at) (λ f. record { fault = f; shift = s })

-- a call on the shift that numbers name: P of it, of the one after the call and of the answer; the one after is written down where it accepts
abbrev pub OnShift : {A : Type 0} → (Shift → Shift → Result A Fault → Type 0) → ShiftNumbers → ShiftNumbers → Result A Fault → Type 0
OnShift P old new r = (s' : Shift) × P (shift_named old) s' r × (new ≡ if_accepted r (shift_numbers s') old)

-- what opening a shift on the line of a file answers: its numbers are written where it accepts
abbrev pub FileOpened : List ℕ → List ℕ → ℕ → ℕ → ℕ → ShiftNumbers → ShiftNumbers → Result ⊤ Fault → Type 0
FileOpened file marks number p c old new =
    OnFile file
    (λ l. Answers (open_checks (game_of l) (hopper_of l) marks p c) (λ _. new ≡ shift_numbers (opened_at number p c)) (new ≡ old))
    (new ≡ old)

-- what an order on the line of a file answers
abbrev pub FileOrdered : List ℕ → List ℕ → ShiftNumbers → ShiftNumbers → Result ℕ Fault → Type 0
FileOrdered file marks old new =
    OnFile file (λ l. OnShift (λ s s' r. OrderAnswers (game_of l) (hopper_of l) marks s s' (given_out s r)) old new) (new ≡ old)

-- what a report of the order named so answers on the line of a file
abbrev pub FileDone : List ℕ → ℕ → ℕ → ℕ → ShiftNumbers → ShiftNumbers → Result ⊤ Fault → Type 0
FileDone file number p m old new =
    OnFile file
    (λ l. OnShift (λ s s' r. DoneAnswers (game_of l) (hopper_of l) (order_named number p m) s s' (handed_back (order_named number p m) r)) old new)
    (new ≡ old)

-- what taking back the order named so answers
abbrev pub NumbersWithdrawn : ℕ → ℕ → ℕ → ShiftNumbers → ShiftNumbers → Result ⊤ Fault → Type 0
NumbersWithdrawn number p m =
    OnShift (λ s s' r. WithdrawnAnswers (order_named number p m) s s' (handed_back (order_named number p m) r))

-- what a report of their move answers on the line of a file
abbrev pub FileArrived : List ℕ → ℕ → ShiftNumbers → ShiftNumbers → Result ⊤ Fault → Type 0
FileArrived file m old new =
    OnFile file (λ l. OnShift (λ s s' r. ArrivedAnswers (game_of l) (hopper_of l) m s s' r) old new) (new ≡ old)

-- what ending a shift by its numbers answers
abbrev pub NumbersClosed : ShiftNumbers → Result (ℕ × ℕ) Fault → Type 0
NumbersClosed x r = CloseAnswers (shift_named x) (left_open (shift_named x) r)
