use Rattle.lookahead.proofs.Turns.{settles_held, settles_beaten}
use Rattle.lookahead.proofs.Outlook.settles.Goals as goal

pub returns-then-question-known : goal.returns-then-question-known
returns-then-question-known c = λ e.
    settles_held c.args.self.now c.args.known c.args.question c.if-known-question.false c.if-known.true c.if-question-known.true c.requires (c.holds_higher.ensures e)

pub returns-then-known-question-2 : goal.returns-then-known-question-2
returns-then-known-question-2 c = λ e.
    settles_beaten c.args.self.now c.args.known c.args.question c.if-known-question.false c.if-known.false c.if-known-question-2.true (c.holds_higher-then-known-question-2.ensures e)
