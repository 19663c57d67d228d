use Rattle.std.proofs.Common.{sym, ap, ◌∙◌, rules}
use Rattle.lineformat.specs.Format.{line_of, records_at}
use Rattle.lineformat.proofs.Spelt.{read_record}
use Rattle.linefile.proofs.trailed.Trailed.get.Goals as goal

pub returns : goal.returns
returns g c =
    let bs = c.args.self.now.bytes.now in
    let xs = g.R.Record.list (line_of bs) in
    let p = c.part-from.ensures in
    let e = g.met.R.Record.spelt bs in
    read_record g.R.Record.at bs c.part-from.result.0 c.part-from.result.1 c.args.i xs
    (e ∙ ap (records_at g.R.Record.at bs (g.R.Record.from bs)) (sym p.count) ∙ ap (λ o. records_at g.R.Record.at bs o c.part-from.result.1) (sym p.begin))
    p.count (λ r k. search rules) c.then.result c.then.ensures.variant c.then.ensures.some
