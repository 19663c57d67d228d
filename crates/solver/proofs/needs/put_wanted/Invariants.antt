use Rattle.std.proofs.Common.{◌≡◌, ℕ, ◌<◌, Some, slice_index}
use Rattle.std.specs.List.{slice_get}
use Rattle.game.specs.declared.Edge.{Edge}
use Rattle.solver.proofs.needs.put_wanted.Given as goal

abbrev pub invariant-loop-k : goal.invariant-loop-k
invariant-loop-k l = (k : ℕ) → k < l.k → (e : Edge) → slice_get l.edges k ≡ Some e → slice_index l.wanted k ≡ slice_index l.row e.target
