use Rattle.std.proofs.Common.{◌≡◌, ℕ, Option, slice_index, unwrap_or, w32, SFits, sym, ap, ◌∙◌, rules}
use Rattle.std.proofs.lemmas.Int.{to_z-of_z}
use Rattle.solver.specs.Entries.{never, as_entry}
use Rattle.solver.proofs.Serving.{need_written, need_read}
use Rattle.solver.proofs.buffer.Entries.needed.Goals as goal

pub returns : goal.returns
returns g c =
    let vessel = c.args.vessel.now in
    let v = g.V.Vessel.hopper vessel in
    let keeps = g.V.Vessel.keeps vessel in
    let need = g.V.Graded.need vessel in
    let graded = g.met.V.Graded.graded vessel in
    let e = c.move_at-edge.result in
    let wanted = slice_index c.args.self.now.entries.now e.target in
    let f : SFits w32 e.amount = search rules in
    let is : c.need.result ≡ need wanted e.amount = simp to_z-of_z at c.need.ensures in (
      e,
      c.move_at-edge.ensures.answered,
      rw c.unwrap_or.ensures
          (ap (λ (o : Option ℕ). as_entry (unwrap_or o never)) is ∙ (need_written v keeps need graded wanted e.amount ∙ sym (need_read v keeps need graded wanted e.amount))),
    )
