use Rattle.std.proofs.Common.{sym, ◌∙◌}
use Rattle.hopper.proofs.Boards.{step_inside}
use Rattle.solver.proofs.buffer.Entries.move_at.Goals as goal

pub returns-clause-inside : goal.returns-clause-inside
returns-clause-inside g c =
    let board = c.args.self.now.board.now in
    step_inside (g.B.Board.game board) (g.B.Board.formed board) c.args.place c.args.m c.unwrap.result (sym c.step.ensures ∙ c.unwrap.ensures)
