use Rattle.std.proofs.Common.{◌+◌, ◌*◌, ◌≤◌, sym, subst, arith, leb-true}
use Rattle.game.specs.Fill.{Holds}
use Rattle.lineformat.specs.Limits.{most_amount}
use Rattle.hopper.specs.declared.any.AnyVessel.{AnyVessel}
use Rattle.hopper.specs.Any.{any_hopper}
use Rattle.lookahead.specs.Inner.Remembering.{game_in}
use Rattle.lineformat.proofs.Formed.{file_amounts}
use Rattle.linefile.specs.Held.{file_of}
use Rattle.lookahead.proofs.Far.{far_holds}
use Rattle.lookahead.proofs.Turns.{formed}
use Rattle.lookahead.proofs.Outlook.is_far_from_edges.Goals as goal

pub returns-then-reach-question : goal.returns-then-reach-question
returns-then-reach-question c = λ e.
    let o = c.args.self.now in
    let q = c.args.question in
    let top = c.in-OfClosed.closed.top.litres in
    let below = leb-true q.level c.saturating_sub.result e in
    let low : q.moves * most_amount ≤ q.level = omega (arith, c.if-reach-question.true, c.from.ensures) in
    let high : q.level + q.moves * most_amount ≤ top = omega (arith, below, c.saturating_sub.ensures, c.top.ensures, c.from.ensures, c.if-reach-question.true) in
    subst (λ (v : AnyVessel). Holds (game_in o) (any_hopper v).table q.moves q.place q.level) (sym c.in-OfClosed.is) (far_holds (game_in o) (formed o) top most_amount (file_amounts (file_of o.line.now) o.line.now.accepted) q.moves q.place q.level c.requires.place low high)
