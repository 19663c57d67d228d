use Rattle.std.proofs.Common.{ℕ, slice_index, sym, ap, ◌∙◌}
use Rattle.solver.proofs.Serving.{need_read}
use Rattle.solver.proofs.needs.fill_needs.Goals as goal

pub returns : goal.returns
returns g c = λ k e is.
    let vessel = c.args.vessel.now in
    let need = g.V.Graded.need vessel in
    c.put_needs.ensures k e is
    ∙ (ap (λ (n : ℕ). need n e.amount) (c.put_wanted.ensures k e is)
    ∙ sym (need_read (g.V.Vessel.hopper vessel) (g.V.Vessel.keeps vessel) need (g.met.V.Graded.graded vessel) (slice_index c.args.row.now e.target) e.amount))
