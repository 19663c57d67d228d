use Rattle.std.proofs.Common.{◌≡◌, ℕ, ◌<◌, slice_index}
use Rattle.solver.specs.Inner.Changing.{Flagged}
use Rattle.solver.proofs.changing.add_all.Given as goal

abbrev pub invariant-loop-place : goal.invariant-loop-place
invariant-loop-place l =
    ((i : ℕ) → i < l.place → slice_index l.list i ≡ i) × ((p : ℕ) → p < l.place → Flagged l.flags p)
