use Rattle.std.proofs.Common.{◌-◌}
use Rattle.solver.proofs.Attraction.{AfterRounds}
use Rattle.solver.proofs.forcing.rounds_within.Given as goal

abbrev pub invariant-loop-budget : goal.invariant-loop-budget
invariant-loop-budget g l = AfterRounds (g.B.Board.game l.board) l.target l.initial.marks l.marks l.rounds

abbrev pub decreases-loop-budget : goal.decreases-loop-budget
decreases-loop-budget g l = l.places - l.rounds
