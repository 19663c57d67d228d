use Rattle.hopper.specs.Any.{any_hopper}
use Rattle.lineformat.specs.Games.{game_of}
use Rattle.linefile.specs.Held.{line_held}
use Rattle.shift.specs.Answers.{OrderAnswers}
use Rattle.panel.specs.Shifts.{given_out}
use Rattle.panel.proofs.OnLines.{shift_on_file}
use Rattle.panel.proofs.Tokens.{order_by_number}
use Rattle.panel.proofs.shifts.order_file.Goals as goal

pub returns : goal.returns
returns c =
    let g = game_of (line_held c.in_ok-line.line) in
    let v = any_hopper c.vessel.result in
    shift_on_file (λ g v s s' r. OrderAnswers g v c.args.marks.now s s' (given_out s r))
    c.args.file.now c.in_ok-line.line v c.args.shift.now c.keep.new.self c.shift-after.result
    c.order.new.self c.by_number-answer.result c.keep.result
    c.in_ok-line.ensures c.vessel.ensures.hopper c.shift-after.ensures
    (order_by_number g v c.shift-after.result c.order.new.self c.args.marks.now c.order.result c.by_number-answer.result c.order.ensures.answer c.by_number-answer.ensures)
    c.keep.ensures.answer c.keep.ensures.kept
