use Rattle.std.proofs.Common.{ℕ, ◌<◌, ◌≤◌, slice_index}
use Rattle.solver.specs.Inner.Changing.{Flagged, IsWorklist, KeepsFlags}
use Rattle.solver.proofs.origins.Origins.add_sources.Given as goal

abbrev pub invariant-loop-slot : goal.invariant-loop-slot
invariant-loop-slot g l =
    IsWorklist l.list l.count l.flags
    × ((i : ℕ) → l.begin ≤ i → i < l.slot → Flagged l.flags (slice_index l.sources.places.items i))
    × KeepsFlags l.initial.flags l.flags
