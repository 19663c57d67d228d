use Rattle.solver.specs.Inner.Rows.{IsNext}
use Rattle.solver.proofs.Remaking.{Remade}
use Rattle.solver.proofs.needing.RowNeeds.remake.Given as goal

abbrev pub invariant-loop-i : goal.invariant-loop-i
invariant-loop-i g l =
    let game = g.B.Board.game l.fn.self.table.now.board.now in
    Remade game.places (IsNext game (g.V.Graded.need l.fn.self.vessel.now) l.fn.self.row.now) l.fn.self.row.now l.list l.initial.next l.initial.flags l.i l.next l.flags l.changed l.kept
