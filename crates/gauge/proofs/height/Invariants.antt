use Rattle.std.proofs.Common.{ℕ, ◌-◌, ◌<◌, ◌≤◌}
use Rattle.gauge.specs.Gauge.{most_height, litres}
use Rattle.gauge.proofs.height.Given as goal

-- the least height lies between low and high
abbrev pub invariant-loop-low : goal.invariant-loop-low
invariant-loop-low l = (l.low ≤ l.high) × (l.high ≤ most_height) × (l.wanted ≤ litres l.high) × ((k : ℕ) → k < l.low → litres k < l.wanted)

abbrev pub decreases-loop-low : goal.decreases-loop-low
decreases-loop-low l = l.high - l.low
