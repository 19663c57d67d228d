use Rattle.std.proofs.Math.Logic.{∥∥₁_map}
use Rattle.std.proofs.lemmas.List.Elements.{All-set}
use Rattle.lookahead.specs.Inner.Remembering.{Right}
use Rattle.lookahead.proofs.Memory.remember.Goals as goal

pub invariant_of-self : goal.invariant_of-self
invariant_of-self c =
    let m = c.args.self.now in
    record { right = ∥∥₁_map m.right (All-set (Right m.outlook) m.known.items c.slot.result _ (c.requires.level, c.requires.answer)) }
