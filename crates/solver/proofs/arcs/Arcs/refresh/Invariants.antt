use Rattle.std.proofs.Common.{◌≡◌, ℕ, ◌<◌, ◌≤◌, ◌⊎◌, slice_index}
use Rattle.solver.specs.Inner.Rows.{RightNeed}
use Rattle.solver.proofs.arcs.Arcs.refresh.Given as goal

abbrev pub invariant-loop-slot : goal.invariant-loop-slot
invariant-loop-slot g l =
    let need = g.V.Graded.need l.fn.vessel in
    ((i : ℕ) → l.begin ≤ i → i < l.slot → RightNeed need l.fn.row l.edges l.needs (slice_index l.fn.self.numbers.items i))
    × ((k : ℕ) → (slice_index l.needs k ≡ slice_index l.initial.needs k) ⊎ RightNeed need l.fn.row l.edges l.needs k)
