use Rattle.std.proofs.Common.{◌*◌, true, sym, refl, subst, arith}
use Rattle.std.proofs.lemmas.List.Elements.{All-replicate}
use Rattle.lookahead.specs.declared.Remembered.{Remembered}
use Rattle.lookahead.specs.Inner.Remembering.{Right, AllRight}
use Rattle.lookahead.proofs.Memory.new.Goals as goal

-- any fill holds for no moves
abbrev nothing_asked : Remembered
nothing_asked = record { place = 0; level = 0; moves = 0; held = true }

pub invariant_of-result-2 : goal.invariant_of-result-2
invariant_of-result-2 c =
    let o = c.args.outlook in
    let right : Right o nothing_asked = (omega arith, ((λ _. tt), (λ _. refl))) in
    record { right = subst (AllRight o) (sym (c.in-Ok.ensures.items_if_clones_equal (λ y e. e))) ∣ All-replicate (Right o) (o.slots * 7) nothing_asked right ∣₁ }
