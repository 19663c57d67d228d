use Rattle.shift.proofs.StartingFill.{starting_fills_decide}
use Rattle.shift.proofs.Shift.open.Goals as goal

pub returns-in_err-check_open-clause-decides : goal.returns-in_err-check_open-clause-decides
returns-in_err-check_open-clause-decides g c = starting_fills_decide

pub returns-clause-decides : goal.returns-clause-decides
returns-clause-decides g c = starting_fills_decide
