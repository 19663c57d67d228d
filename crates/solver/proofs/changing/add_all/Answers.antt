use Rattle.std.proofs.Common.{arith}
use Rattle.solver.proofs.Remaking.{flagged_inside}
use Rattle.solver.proofs.changing.add_all.Goals as goal

pub returns-clause-after : goal.returns-clause-after
returns-clause-after c =
    let inv = c.loop-place.invariant in
    let flags = c.loop-place.flags in
    record {
      room = omega arith;
      inside = λ i lt. (let e = inv.0 i (omega arith) in omega arith);
      listed = λ p f. (let lt = flagged_inside flags p f in record { index = p; below = lt; is = inv.0 p (omega arith) });
    }
