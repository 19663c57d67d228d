use Rattle.std.proofs.Common.{◌+◌, ◌*◌, take, arith}
use Rattle.lineformat.specs.Limits.{record_size}
use Rattle.lineformat.proofs.Tables.{fill_step}
use Rattle.linefile.proofs.trailed.Trailed.fill.Goals as goal

pub loop-i-preserved : goal.loop-i-preserved
loop-i-preserved g c =
    let e1 = c.loop-i.invariant in
    let e2 = c.read_at.ensures in
    let s = fill_step (λ i. g.R.Record.at c.args.self.now.bytes.now (c.part-from.result.0 + i * record_size)) (take c.part-from.result.1 c.args.table.now) c.loop-i.i (omega arith) in
    cc
