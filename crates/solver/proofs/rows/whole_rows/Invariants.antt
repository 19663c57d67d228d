use Rattle.std.proofs.Common.{◌-◌, ◌≤◌}
use Rattle.solver.proofs.RowByRow.{Running}
use Rattle.solver.proofs.rows.whole_rows.Given as goal

abbrev pub invariant-loop-budget : goal.invariant-loop-budget
invariant-loop-budget g l =
    (l.rounds ≤ l.budget)
    × Running (g.B.Board.game l.board) (g.V.Vessel.hopper l.vessel) (g.V.Graded.need l.vessel) l.fn.row l.fn.next l.row l.next l.rounds

abbrev pub decreases-loop-budget : goal.decreases-loop-budget
decreases-loop-budget g l = l.budget - l.rounds
