use Rattle.std.proofs.Common.{◌≡◌, ◌++◌, drop}
use Rattle.lineformat.specs.Format.{records_at}
use Rattle.linefile.proofs.trailed.Trailed.fill.Given as goal

-- the first i entries are filled
abbrev pub invariant-loop-i : goal.invariant-loop-i
invariant-loop-i g l = l.record-items ≡ records_at g.R.Record.at l.self.bytes.now l.from l.i ++ drop l.i l.initial.record-items
