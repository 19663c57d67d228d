use Rattle.std.proofs.Common.{rules}
use Rattle.solver.specs.Least.{LeastAnswers}
use Rattle.solver.proofs.RowByRow.{answer_soon, rows_unique}
use Rattle.solver.proofs.rows.least.Goals as goal

pub returns-in_err-pass : goal.returns-in_err-pass
returns-in_err-pass g c =
    let board = c.args.board.now in
    let vessel = c.args.vessel.now in
    let game = g.B.Board.game board in
    let v = g.V.Vessel.hopper vessel in
    let row = c.args.row.now in
    let next = c.args.next.now in
    let answer : LeastAnswers game v row row next next c.args.budget c.from_residual.result = search rules in
    record {
      answer = answer;
      tells = search rules;
      soon = answer_soon game v row row next next c.args.budget c.from_residual.result answer;
      unique = rows_unique game v;
    }

pub returns : goal.returns
returns g c =
    let board = c.args.board.now in
    let vessel = c.args.vessel.now in
    let game = g.B.Board.game board in
    let v = g.V.Vessel.hopper vessel in
    let row = c.args.row.now in
    let next = c.args.next.now in
    let made = c.made_rows in
    let answer : LeastAnswers game v row made.new.row next made.new.next c.args.budget made.result = search rules in
    record {
      answer = answer;
      tells = search rules;
      soon = answer_soon game v row made.new.row next made.new.next c.args.budget made.result answer;
      unique = rows_unique game v;
    }
