use Rattle.std.proofs.Common.{◌≡◌, ℕ, Option, unwrap_or, w32, SFits, ap, ◌∙◌, rules}
use Rattle.std.proofs.lemmas.Int.{to_z-of_z}
use Rattle.solver.specs.Entries.{never, as_entry}
use Rattle.solver.proofs.Serving.{need_written}
use Rattle.solver.proofs.needs.need_of.Goals as goal

pub returns : goal.returns
returns g c =
    let vessel = c.args.vessel.now in
    let need = g.V.Graded.need vessel in
    let a = c.args.edge.amount in
    let f : SFits w32 a = search rules in
    let is : c.need.result ≡ need c.args.wanted a = simp to_z-of_z at c.need.ensures in
    rw c.unwrap_or.ensures
    (ap (λ (o : Option ℕ). as_entry (unwrap_or o never)) is ∙ need_written (g.V.Vessel.hopper vessel) (g.V.Vessel.keeps vessel) need (g.met.V.Graded.graded vessel) c.args.wanted a)
