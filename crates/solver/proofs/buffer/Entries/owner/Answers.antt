use Rattle.std.proofs.Common.{is_some, sym, ap, ◌∙◌}
use Rattle.hopper.proofs.Boards.{owner_there}
use Rattle.solver.proofs.Choosing.{some_there}
use Rattle.solver.proofs.buffer.Entries.owner.Goals as goal

pub unwrap-requires : goal.unwrap-requires
unwrap-requires g c =
    let board = c.args.self.now.board.now in
    ap is_some (some_there c.owner.result (λ none. owner_there (g.B.Board.game board) (g.B.Board.formed board) c.args.place c.requires (sym c.owner.ensures ∙ none))).1
