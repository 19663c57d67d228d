use Rattle.std.proofs.Common.{◌≡◌, ℕ, ◌<◌, ◌≤◌, Some, slice_index}
use Rattle.std.specs.List.{slice_get}
use Rattle.game.specs.declared.Edge.{Edge}
use Rattle.solver.specs.Entries.{entries}
use Rattle.solver.proofs.needs.put_needs.Given as goal

abbrev pub invariant-loop-k : goal.invariant-loop-k
invariant-loop-k g l =
    ((k : ℕ) → k < l.k → (e : Edge) → slice_get l.edges k ≡ Some e → entries l.needs k ≡ g.V.Graded.need l.vessel (slice_index l.initial.needs k) e.amount)
    × ((k : ℕ) → l.k ≤ k → slice_index l.needs k ≡ slice_index l.initial.needs k)
