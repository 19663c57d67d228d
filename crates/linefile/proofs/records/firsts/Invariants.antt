use Rattle.std.proofs.Common.{◌≡◌, ℕ, ◌<◌, length, get_or}
use Rattle.lineformat.specs.WellFormed.{moves_before}
use Rattle.linefile.proofs.records.firsts.Given as goal

-- the first moves of the first p places are known, and so is the next
abbrev pub invariant-loop-p : goal.invariant-loop-p
invariant-loop-p g l =
    (l.moves ≡ moves_before (g.R.Records.line l.records) l.p)
    × ((q : ℕ) → q < l.p → get_or l.first-items q 0 ≡ moves_before (g.R.Records.line l.records) q)
    × (length l.first-items ≡ length (g.R.Records.line l.records).places)
