use Rattle.std.proofs.Common.{◌≡◌, ℕ, ◌+◌, ◌<◌}
use Rattle.std.specs.List.{slice_get}
use Rattle.hopper.specs.Boards.{step_at}
use Rattle.solver.proofs.edge_table.lay_place.Given as goal

abbrev pub invariant-loop-m : goal.invariant-loop-m
invariant-loop-m g l =
    ((m : ℕ) → m < l.m → step_at ((g.B.Board.game l.fn.board).at l.place) m ≡ slice_get l.edges (l.first + m))
    × ((k : ℕ) → k < l.first → slice_get l.edges k ≡ slice_get l.initial.edges k)
