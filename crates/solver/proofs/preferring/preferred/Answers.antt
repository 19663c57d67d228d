use Rattle.solver.proofs.preferring.preferred.Goals as goal

pub returns-in-Ours-clause-all : goal.returns-in-Ours-clause-all
returns-in-Ours-clause-all g c = rw c.in-Ours.is c.preferred_by.ensures.all

pub returns-in-Theirs-clause-all : goal.returns-in-Theirs-clause-all
returns-in-Theirs-clause-all g c = rw c.in-Theirs.is c.preferred_by-in-Theirs.ensures.all
