use Rattle.std.proofs.Common.{subst}
use Rattle.hopper.specs.Any.{any_hopper}
use Rattle.lineformat.specs.Games.{game_of}
use Rattle.linefile.specs.Held.{line_held}
use Rattle.shift.specs.declared.Order.{Order}
use Rattle.shift.specs.Answers.{DoneAnswers}
use Rattle.panel.specs.Shifts.{order_named, handed_back}
use Rattle.panel.proofs.OnLines.{shift_on_file}
use Rattle.panel.proofs.Tokens.{done_without_order}
use Rattle.panel.proofs.shifts.done_file.Goals as goal

pub returns : goal.returns
returns c =
    let o = order_named c.args.number c.args.place c.args.mv in
    let g = game_of (line_held c.in_ok-line.line) in
    let v = any_hopper c.vessel.result in
    let done : DoneAnswers g v o c.shift-after.result c.done.new.self c.done.result =
    subst (λ (x : Order). DoneAnswers g v x c.shift-after.result c.done.new.self c.done.result) c.order_named-order.ensures c.done.ensures in
    shift_on_file (λ g v s s' r. DoneAnswers g v o s s' (handed_back o r))
    c.args.file.now c.in_ok-line.line v c.args.shift.now c.keep.new.self c.shift-after.result
    c.done.new.self c.without_order-answer.result c.keep.result
    c.in_ok-line.ensures c.vessel.ensures.hopper c.shift-after.ensures
    (done_without_order g v c.shift-after.result c.done.new.self o c.done.result c.without_order-answer.result done c.without_order-answer.ensures)
    c.keep.ensures.answer c.keep.ensures.kept
