use Rattle.std.proofs.Common.{◌≡◌, ◌+◌, ◌/◌, ◌<◌, ◌∙◌}
use Rattle.hopper.specs.Boards.{moves_at}
use Rattle.solver.specs.Inner.Marks.{spill_number}
use Rattle.solver.proofs.Unfolds.{moves_fill}
use Rattle.solver.proofs.unfolded.UnfoldedBoard.moves.Goals as goal

pub returns-then-place-spill : goal.returns-then-place-spill
returns-then-place-spill g c =
    let u = c.args.self.now in
    let game = g.B.Board.game u.board.now in
    let top = (g.V.Vessel.hopper u.vessel.now).top in
    let inside : c.args.place < spill_number game top = rw c.spill-spill.ensures at c.if-place-spill.true in
    let answer : c.moves.result ≡ moves_at (game.at (c.args.place / (top + 1))) = rw c.top.ensures at c.moves.ensures in
    answer ∙ moves_fill game (g.V.Vessel.hopper u.vessel.now) c.args.place inside
