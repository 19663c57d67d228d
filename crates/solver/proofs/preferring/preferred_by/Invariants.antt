use Rattle.std.proofs.Common.{ℕ, ◌<◌, ◌≤◌}
use Rattle.solver.specs.Entries.{never}
use Rattle.solver.specs.Inner.Rows.{Prefers}
use Rattle.solver.proofs.preferring.preferred_by.Given as goal

abbrev pub invariant-loop-m : goal.invariant-loop-m
invariant-loop-m g l =
    ((m : ℕ) → m < l.m → (n : ℕ) × (n ≤ never) × goal.F-post g l.number m n × Prefers l.owner l.best n)
    × ((m : ℕ) × (m < l.count) × goal.F-post g l.number m l.best)
