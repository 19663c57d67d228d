use Rattle.std.proofs.Common.{is_some, sym, ap, ◌∙◌}
use Rattle.hopper.proofs.Boards.{moves_there}
use Rattle.solver.proofs.Choosing.{some_there}
use Rattle.solver.proofs.edge_table.lay_place.Goals as goal

pub unwrap-count-requires : goal.unwrap-count-requires
unwrap-count-requires g c =
    let board = c.args.board.now in
    ap is_some (some_there c.moves.result (λ none. moves_there (g.B.Board.game board) (g.B.Board.formed board) c.args.place c.requires.place (sym c.moves.ensures ∙ none))).1
