use Rattle.std.proofs.Common.{◌≡◌, ◌+◌, slice_index, arith}
use Rattle.std.proofs.lemmas.List.{get_or_read}
use Rattle.solver.proofs.Choosing.{few_moves}
use Rattle.solver.proofs.edge_table.EdgeTable.move_count.Goals as goal

pub overflow_cast-result : goal.overflow_cast-result
overflow_cast-result g c =
    let table = c.args.self.now in
    let p = c.args.place in
    let few = few_moves (g.B.Board.game table.board.now) (g.B.Board.formed table.board.now) p c.requires in
    let end : c.index.result.now ≡ slice_index table.firsts.items (p + 1) = get_or_read table.firsts.items _ _ (omega arith) c.index.ensures 0 in
    let first : c.index-2.result.now ≡ slice_index table.firsts.items p = get_or_read table.firsts.items _ _ (omega arith) c.index-2.ensures 0 in
    omega (arith, end, first, table.counted p c.requires)
