use Rattle.std.proofs.Common.{◌≡◌, ℕ, sym, ap, ◌∙◌, arith}
use Rattle.solver.proofs.Serving.{need_above}
use Rattle.solver.proofs.needs.need_of_any.Goals as goal

pub returns-then-wanted-top : goal.returns-then-wanted-top
returns-then-wanted-top g c =
    let vessel = c.args.vessel.now in
    sym (need_above (g.V.Vessel.hopper vessel) (g.V.Vessel.keeps vessel) (g.V.Graded.need vessel) (g.met.V.Graded.graded vessel) c.args.wanted c.args.edge.amount (omega (arith, c.top-top.ensures)))

pub returns-else-wanted-top : goal.returns-else-wanted-top
returns-else-wanted-top g c =
    let same : c.min.result ≡ c.args.wanted = omega arith in
    c.need_of-need.ensures ∙ ap (λ (n : ℕ). g.V.Graded.need c.args.vessel.now n c.args.edge.amount) same
