use Rattle.solver.specs.Inner.Marks.{RoundDone}
use Rattle.solver.proofs.forcing.mark_round.Given as goal

abbrev pub invariant-loop-place : goal.invariant-loop-place
invariant-loop-place g l = RoundDone (g.B.Board.game l.board) l.place l.initial.marks l.marks l.round l.fresh
