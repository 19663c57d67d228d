use Rattle.std.proofs.Common.{◌≡◌, drop}
use Rattle.hopper.specs.Refusing.{verdict}
use Rattle.hopper.proofs.pass.Given as goal

-- the checks so far have passed
abbrev pub invariant-loop-check : goal.invariant-loop-check
invariant-loop-check l = verdict l.checks ≡ verdict (drop l.check-index l.checks)
