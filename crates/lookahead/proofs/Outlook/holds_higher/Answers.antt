use Rattle.std.proofs.Common.{sym, ◌∙◌, leb-true}
use Rattle.lookahead.proofs.Turns.{holds_higher}
use Rattle.lookahead.proofs.Outlook.holds_higher.Goals as goal

pub returns-then-is_ordered : goal.returns-then-is_ordered
returns-then-is_ordered c = λ e. holds_higher c.args.self.now c.args.low c.args.high (sym c.is_ordered.ensures ∙ c.if-is_ordered.true) (leb-true c.args.low c.args.high e)
