use Rattle.std.proofs.Common.{◌+◌, ◌/◌, arith}
use Rattle.gauge.proofs.Rising.{rising}
use Rattle.gauge.proofs.height.Goals as goal

pub loop-low-preserved-then-litres_at-wanted : goal.loop-low-preserved-then-litres_at-wanted
loop-low-preserved-then-litres_at-wanted c = (
  omega arith,
  c.loop-low.invariant.1,
  c.loop-low.invariant.2,
  λ k h. omega (arith, rising k ((c.loop-low.low + c.loop-low.high) / 2) (omega arith), c.litres_at.ensures),
)
