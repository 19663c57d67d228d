use Rattle.std.proofs.Common.{ℕ, ◌≤◌, length, slice_index}
use Rattle.solver.specs.Inner.Moves.{Laid}
use Rattle.solver.proofs.edge_table.lay_places.Given as goal

abbrev pub invariant-loop-place : goal.invariant-loop-place
invariant-loop-place g l =
    Laid (g.B.Board.game l.fn.board) l.place l.firsts l.edges
    × (slice_index l.firsts l.place ≤ length l.edges)
    × ((p : ℕ) → p ≤ l.place → slice_index l.firsts p ≤ slice_index l.firsts l.place)
