use Rattle.std.proofs.Common.{ℕ, ◌-◌, ◌≤◌}
use Rattle.solver.specs.Inner.Changing.{Flagged, ListsChanges}
use Rattle.solver.specs.Inner.Rows.{RightNeeds}
use Rattle.solver.proofs.RowByRow.{Running}
use Rattle.solver.proofs.rows.changed_rows.Given as goal

abbrev pub invariant-loop-changes : goal.invariant-loop-changes
invariant-loop-changes g l =
    let board = l.fn.origins.table.board.now in
    let game = g.B.Board.game board in
    (l.rounds ≤ l.budget)
    × Running game (g.V.Vessel.hopper l.vessel) (g.V.Graded.need l.vessel) l.fn.row l.fn.next l.row l.next l.rounds
    × ListsChanges game.places l.row l.next l.changed l.changes
    × ((p : ℕ) → ¬ Flagged l.flags p)
    × RightNeeds (g.V.Graded.need l.vessel) l.row l.fn.origins.table.edges.items l.needs

abbrev pub decreases-loop-changes : goal.decreases-loop-changes
decreases-loop-changes g l = l.budget - l.rounds
