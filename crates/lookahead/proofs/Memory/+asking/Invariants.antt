use Rattle.std.proofs.Common.{◌≡◌, ℕ, ◌+◌, ◌*◌, ◌<◌}
use Rattle.lookahead.specs.Inner.Asking.{LeadsOn}
use Rattle.lookahead.proofs.Memory.+asking.Given as goal

abbrev pub decreases-is_settled_by_one : goal.decreases-is_settled_by_one
decreases-is_settled_by_one l = 4 * l.turn.question.moves

abbrev pub decreases-is_settled_first : goal.decreases-is_settled_first
decreases-is_settled_first l = 4 * l.turn.question.moves + 1

abbrev pub decreases-leads_on : goal.decreases-leads_on
decreases-leads_on l = 4 * l.turn.question.moves

abbrev pub decreases-some_move : goal.decreases-some_move
decreases-some_move l = 4 * l.turn.question.moves + 2

abbrev pub decreases-every_move : goal.decreases-every_move
decreases-every_move l = 4 * l.turn.question.moves + 2

abbrev pub decreases-holds : goal.decreases-holds
decreases-holds l = 4 * l.question.moves + 3

abbrev pub invariant-is_settled_by_one-loop-place : goal.invariant-is_settled_by_one-loop-place
invariant-is_settled_by_one-loop-place l = l.self.outlook ≡ l.fn.self.outlook

abbrev pub invariant-some_move-loop-mv : goal.invariant-some_move-loop-mv
invariant-some_move-loop-mv l = (l.self.outlook ≡ l.fn.self.outlook) × ((m : ℕ) → m < l.mv → LeadsOn l.fn.self.outlook l.turn.question m → ⊥)

abbrev pub invariant-every_move-loop-mv : goal.invariant-every_move-loop-mv
invariant-every_move-loop-mv l = (l.self.outlook ≡ l.fn.self.outlook) × ((m : ℕ) → m < l.mv → LeadsOn l.fn.self.outlook l.turn.question m)
