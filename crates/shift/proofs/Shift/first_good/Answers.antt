use Rattle.std.proofs.Common.{◌≡◌, true, false, Some, None, Ok, arith, rules}
use Rattle.hopper.specs.Boards.{step_at}
use Rattle.hopper.specs.Refusing.{verdict}
use Rattle.hopper.proofs.Boards.{step_below}
use Rattle.shift.specs.Good.{pours_good}
use Rattle.shift.proofs.Search.{passed_more, some_found, none_found}
use Rattle.shift.proofs.Ordered.{asked, decided, few}
use Rattle.shift.proofs.Shift.first_good.Goals as goal

pub returns-in_default : goal.returns-in_default
returns-in_default g c =
    let game = g.B.Board.game c.args.board.now in
    let v = g.V.Vessel.hopper c.args.vessel.now in
    let marks = c.args.marks.now in
    let s = c.args.self.now in
    let at = game.at s.place in
    let is : step_at at c.loop-edge.m ≡ None = cc in
    let u = c.in_ok-pass.field-0 in
    let passed : Ok u ≡ verdict (asked game v marks s) = search rules in
    (decided game v marks s u passed false (none_found (pours_good v marks s.level) at c.loop-edge.m c.loop-edge.invariant is), tt)

pub overflow_add-m : goal.overflow_add-m
overflow_add-m g c =
    let game = g.B.Board.game c.args.board.now in
    let p = c.args.self.now.place in
    let is : step_at (game.at p) c.loop-edge.m ≡ Some c.in-Some.edge = cc in
    omega (arith, few game (g.B.Board.formed c.args.board.now) p c.loop-edge.m c.in-Some.edge is)

pub loop-edge-smaller : goal.loop-edge-smaller
loop-edge-smaller g c =
    let at = (g.B.Board.game c.args.board.now).at c.args.self.now.place in
    let is : step_at at c.loop-edge.m ≡ Some c.in-Some.edge = cc in
    omega (arith, step_below at c.loop-edge.m c.in-Some.edge is)

pub loop-edge-preserved : goal.loop-edge-preserved
loop-edge-preserved g c =
    let v = g.V.Vessel.hopper c.args.vessel.now in
    let test = pours_good v c.args.marks.now c.args.self.now.level in
    let at = (g.B.Board.game c.args.board.now).at c.args.self.now.place in
    let is : step_at at c.loop-edge.m ≡ Some c.in-Some.edge = cc in
    let bad : test c.in-Some.edge ≡ false = cc in
    passed_more test at c.loop-edge.m c.loop-edge.invariant c.in-Some.edge is bad

pub returns : goal.returns
returns g c =
    let game = g.B.Board.game c.args.board.now in
    let v = g.V.Vessel.hopper c.args.vessel.now in
    let marks = c.args.marks.now in
    let s = c.args.self.now in
    let at = game.at s.place in
    let test = pours_good v marks s.level in
    let is : step_at at c.loop-edge.m ≡ Some c.in-Some.edge = cc in
    let good : test c.in-Some.edge ≡ true = cc in
    let u = c.in_ok-pass.field-0 in
    let passed : Ok u ≡ verdict (asked game v marks s) = search rules in (
      decided game v marks s u passed true (some_found test at c.loop-edge.m c.in-Some.edge is good),
      record { move = c.in-Some.edge; is_move = is; good = good; first = c.loop-edge.invariant },
    )
