-- A greater height holds no fewer litres.
use Rattle.std.proofs.Common.{ℕ, ◌*◌, ◌≤◌, arith}
use Rattle.std.proofs.lemmas.Nat.{mul-le}
use Rattle.gauge.specs.Gauge.{litres}

pub rising : (a b : ℕ) → a ≤ b → litres a ≤ litres b
rising a b h = let m = mul-le (a * a) a (b * b) b (mul-le a a b b h h) h in omega arith
