use Rattle.std.proofs.Common.{◌≡◌, ◌≤◌, length, Ok, rules}
use Rattle.game.specs.Limits.{most_fills}
use Rattle.game.specs.Forced.{spill, unfolded}
use Rattle.hopper.specs.Refusing.{verdict}
use Rattle.solver.specs.Forcing.{ForcedMarks}
use Rattle.solver.specs.Marking.{MarkAnswers, mark_checks}
use Rattle.solver.proofs.Marks.{fill_marks, marks_tell, fills_tell}
use Rattle.solver.proofs.marking.mark.Goals as goal

pub returns-in_err-pass : goal.returns-in_err-pass
returns-in_err-pass g c =
    let board = c.args.board.now in
    let vessel = c.args.vessel.now in
    let game = g.B.Board.game board in
    let v = g.V.Vessel.hopper vessel in
    let answer : MarkAnswers game v c.args.marks.now c.args.marks.now c.from_residual.result = search rules in
    record { answer = answer; tells = search rules; fills = fills_tell game (g.B.Board.formed board) v (g.V.Vessel.keeps vessel) }

pub returns : goal.returns
returns g c =
    let board = c.args.board.now in
    let vessel = c.args.vessel.now in
    let game = g.B.Board.game board in
    let v = g.V.Vessel.hopper vessel in
    let formed = g.B.Board.formed board in
    let keeps = g.V.Vessel.keeps vessel in
    let old = c.args.marks.now in
    let new = c.fill_marks.new.marks in
    let rounds = c.fill_marks.result in
    let small : spill game v.top ≤ most_fills = search rules in
    let marked : ForcedMarks (unfolded game v) (spill game v.top) old new rounds = rw c.fills-count.ensures at c.fill_marks.ensures in
    let passed : verdict (mark_checks game v.top (length old)) ≡ Ok tt = search rules in
    let exact = fill_marks game formed v keeps small old new rounds marked in
    record { answer = (passed, exact); tells = marks_tell game formed v keeps old new rounds exact marked; fills = fills_tell game formed v keeps }
