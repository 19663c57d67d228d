use Rattle.std.proofs.Common.{◌*◌, arith}
use Rattle.std.proofs.lemmas.Nat.{mul-le}
use Rattle.gauge.specs.Gauge.{most_height}
use Rattle.gauge.proofs.litres_at.Goals as goal

-- the cube of a height is at most that of the greatest
pub overflow_mul-result-2 : goal.overflow_mul-result-2
overflow_mul-result-2 c =
    let h = c.args.h in
    omega (arith, mul-le (h * h) h (most_height * most_height) most_height (mul-le h h most_height most_height c.requires c.requires) c.requires)
