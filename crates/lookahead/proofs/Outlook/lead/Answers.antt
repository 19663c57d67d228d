use Rattle.std.proofs.Common.{ℤ, sym, refl, ap, ◌∙◌, w32, SFits, rules}
use Rattle.std.proofs.lemmas.Int.{to_z-of_z}
use Rattle.hopper.specs.Any.{any_keeps}
use Rattle.hopper.proofs.Boards.{step_inside}
use Rattle.lookahead.specs.Inner.Remembering.{game_in, hopper_in}
use Rattle.lookahead.proofs.Turns.{formed}
use Rattle.lookahead.proofs.Outlook.lead.Goals as goal

pub returns : goal.returns
returns c =
    let o = c.args.self.now in
    let q = c.args.turn.question in
    let edge = c.unwrap-edge.result in
    let fits : SFits w32 edge.amount = search rules in
    let there = sym c.step.ensures ∙ c.unwrap-edge.ensures in
    let poured = ap (λ (a : ℤ). (hopper_in o).table q.level a) (sym (to_z-of_z w32 edge.amount fits)) ∙ sym c.pour.ensures ∙ c.in_ok-level.was in
    record {
      edge = edge;
      is = there;
      to = refl;
      poured = poured;
      moves = refl;
      there = record {
        place = step_inside (game_in o) (formed o) q.place c.args.mv edge there;
        level = (any_keeps o.vessel).within q.level edge.amount c.in_ok-level.level poured;
      };
    }
