use Rattle.std.proofs.Common.{arith}
use Rattle.solver.proofs.origins.Origins.add_all_sources.Goals as goal

pub returns-clause-flagged : goal.returns-clause-flagged
returns-clause-flagged g c = λ i lt. c.loop-i.invariant.1 i (omega arith)
