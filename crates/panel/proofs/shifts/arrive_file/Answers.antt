use Rattle.hopper.specs.Any.{any_hopper}
use Rattle.shift.specs.Answers.{ArrivedAnswers}
use Rattle.panel.proofs.OnLines.{shift_on_file}
use Rattle.panel.proofs.shifts.arrive_file.Goals as goal

pub returns : goal.returns
returns c =
    shift_on_file (λ g v s s' r. ArrivedAnswers g v c.args.mv s s' r)
    c.args.file.now c.in_ok-line.line (any_hopper c.vessel.result) c.args.shift.now c.keep.new.self c.shift-after.result
    c.arrived-answer.new.self c.arrived-answer.result c.keep.result
    c.in_ok-line.ensures c.vessel.ensures.hopper c.shift-after.ensures c.arrived-answer.ensures c.keep.ensures.answer c.keep.ensures.kept
