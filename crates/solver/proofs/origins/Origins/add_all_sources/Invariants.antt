use Rattle.std.proofs.Common.{ℕ, ◌<◌, slice_index}
use Rattle.solver.specs.Inner.Changing.{IsWorklist}
use Rattle.solver.specs.Inner.Moves.{FlagsSources}
use Rattle.solver.proofs.origins.Origins.add_all_sources.Given as goal

abbrev pub invariant-loop-i : goal.invariant-loop-i
invariant-loop-i g l =
    IsWorklist l.list l.count l.flags
    × ((i : ℕ) → i < l.i
    → FlagsSources l.fn.self.sources.begins.items l.fn.self.sources.ends.items l.fn.self.sources.places.items l.flags (slice_index l.changed i))
