use Rattle.lookahead.specs.Inner.Asking.{AllLed}
use Rattle.lookahead.proofs.Outlook.first_questions.Given as goal

abbrev pub invariant-loop-mv : goal.invariant-loop-mv
invariant-loop-mv l = AllLed l.self l.turn.question l.fn.firsts → AllLed l.self l.turn.question l.firsts
