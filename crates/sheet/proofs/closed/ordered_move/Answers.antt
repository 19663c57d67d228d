use Rattle.std.proofs.Common.{rules}
use Rattle.sheet.specs.Fills.{OrderedMove}
use Rattle.sheet.proofs.Orders.{ordered_where_good}
use Rattle.sheet.proofs.closed.ordered_move.Goals as goal

pub returns-in_err-shift-clause-good : goal.returns-in_err-shift-clause-good
returns-in_err-shift-clause-good g c =
    let game = g.B.Board.game c.args.board.now in
    let v = g.V.Vessel.hopper c.args.vessel.now in
    let r = c.from_residual.result in
    let unordered : OrderedMove game v c.args.marks.now c.args.place c.args.fill r = search rules in
    ordered_where_good game (g.B.Board.formed c.args.board.now) v (g.V.Vessel.keeps c.args.vessel.now) c.args.marks.now c.args.place c.args.fill r unordered

pub returns-in_err-order-clause-good : goal.returns-in_err-order-clause-good
returns-in_err-order-clause-good g c =
    let game = g.B.Board.game c.args.board.now in
    let v = g.V.Vessel.hopper c.args.vessel.now in
    let r = c.from_residual-in_err-order.result in
    let unordered : OrderedMove game v c.args.marks.now c.args.place c.args.fill r = search rules in
    ordered_where_good game (g.B.Board.formed c.args.board.now) v (g.V.Vessel.keeps c.args.vessel.now) c.args.marks.now c.args.place c.args.fill r unordered
