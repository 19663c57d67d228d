use Rattle.std.proofs.Common.{◌≡◌, ℕ, ◌<◌, slice_index}
use Rattle.solver.specs.Inner.Changing.{Listed}
use Rattle.solver.proofs.changing.take_over.Given as goal

abbrev pub invariant-loop-i : goal.invariant-loop-i
invariant-loop-i l =
    ((i : ℕ) → i < l.i → slice_index l.row (slice_index l.list i) ≡ slice_index l.next (slice_index l.list i))
    × ((k : ℕ) → ¬ Listed l.list l.i k → slice_index l.row k ≡ slice_index l.initial.row k)
