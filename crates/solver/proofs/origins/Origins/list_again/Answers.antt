use Rattle.solver.proofs.origins.Origins.list_again.Goals as goal

pub returns-clause-flagged : goal.returns-clause-flagged
returns-clause-flagged g c = λ i p lt less source. c.in-Some.ensures.flagged i lt p source
