use Rattle.std.proofs.Common.{◌≡◌, ℕ, ◌<◌, ◌⊎◌, slice_index}
use Rattle.solver.specs.Inner.Rows.{RightNeed, RefreshesPart}
use Rattle.solver.proofs.origins.Origins.refresh_all.Given as goal

abbrev pub invariant-loop-i : goal.invariant-loop-i
invariant-loop-i g l =
    let need = g.V.Graded.need l.fn.vessel in
    let arcs = l.fn.self.arcs in
    ((i : ℕ) → i < l.i → RefreshesPart need l.fn.row l.fn.self.table.edges.items arcs.begins.items arcs.numbers.items arcs.slots.items (slice_index l.changed i) l.needs)
    × ((k : ℕ) → (slice_index l.needs k ≡ slice_index l.initial.needs k) ⊎ RightNeed need l.fn.row l.fn.self.table.edges.items l.needs k)
