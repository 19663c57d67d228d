use Rattle.std.proofs.Common.{is_some, sym, ap, ◌∙◌}
use Rattle.hopper.proofs.Boards.{moves_there}
use Rattle.solver.proofs.Choosing.{some_there}
use Rattle.solver.proofs.buffer.Entries.move_count.Goals as goal

pub unwrap-requires : goal.unwrap-requires
unwrap-requires g c =
    let board = c.args.self.now.board.now in
    ap is_some (some_there c.moves.result (λ none. moves_there (g.B.Board.game board) (g.B.Board.formed board) c.args.place c.requires (sym c.moves.ensures ∙ none))).1
