use Rattle.solver.specs.Inner.Marks.{Settled}
use Rattle.solver.proofs.buffer.Entries.settled.Given as goal

abbrev pub invariant-loop-place : goal.invariant-loop-place
invariant-loop-place g l = Settled (g.B.Board.game l.self.board.now) l.target l.place l.self.entries.now l.rounds
