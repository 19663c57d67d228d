-- On the marks of an accepted `mark` a move is ordered at each good fill of a place of ours.
use Rattle.std.proofs.Common.{◌≡◌, ℕ, true, List, is_ok, Option, ap, ◌∙◌}
use Rattle.std.proofs.lemmas.Bool.{and_from}
use Rattle.game.specs.declared.Owner.TheVariants.{Ours}
use Rattle.game.specs.Game.{Game, WellFormed}
use Rattle.game.specs.Vessel.{Hopper, Keeps}
use Rattle.hopper.proofs.Boards.{owner_some}
use Rattle.hopper.specs.Refusing.{passes}
use Rattle.shift.specs.Answers.{opened_at}
use Rattle.shift.specs.Checks.{open_checks, order_checks}
use Rattle.shift.proofs.StartingFill.{good_is_ordered, starting_fills_decide}
use Rattle.sheet.specs.Fills.{gives_order, OrderedMove, OrderedWhereGood}

pub ordered_where_good : (g : Game) → WellFormed g → (v : Hopper) → Keeps v → (marks : List ℕ) (p c : ℕ) (r : Option ℕ)
    → OrderedMove g v marks p c r → OrderedWhereGood g v marks p c r
ordered_where_good g wf v keeps marks p c r ordered old rounds marked ours good =
    let opens = (starting_fills_decide g wf v keeps).good_start_is_opened old marks rounds marked 0 p c (owner_some g wf p Ours ours) good in
    let gives : gives_order g v marks p c ≡ true =
    and_from (passes (open_checks g v marks p c)) (passes (order_checks g v marks (opened_at 0 p c))) (ap is_ok opens.0)
    (good_is_ordered g wf v keeps old marks rounds marked 0 p c ours good) in
    ordered.0 ∙ gives
