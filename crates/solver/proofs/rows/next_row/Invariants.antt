use Rattle.solver.specs.Inner.Rows.{NextRow}
use Rattle.solver.proofs.rows.next_row.Given as goal

abbrev pub invariant-loop-place : goal.invariant-loop-place
invariant-loop-place g l =
    NextRow (g.B.Board.game l.fn.board) (g.V.Graded.need l.vessel) l.place l.fn.row l.initial.entry-items l.entry-items
