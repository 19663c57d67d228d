use Rattle.std.proofs.Common.{◌≡◌, Bool, true, false, Option, IfSome, Decides, sym, refl, subst}
use Rattle.std.proofs.Math.Logic.{∥∥₁_map}
use Rattle.std.specs.Bool.{then_some}
use Rattle.lookahead.specs.declared.Outlook.{Outlook}
use Rattle.lookahead.specs.declared.Question.{Question}
use Rattle.lookahead.specs.declared.Remembered.{Remembered}
use Rattle.lookahead.specs.Inner.Remembering.{Held, Right, Settles, AllRight}
use Rattle.lookahead.proofs.Turns.{told}
use Rattle.lookahead.proofs.Memory.read_slot.Goals as goal

-- a right answer that settles the question is told
if_settled : (o : Outlook) (q : Question) (a : Remembered) (b : Bool) → (b ≡ true → Settles o a q) → ∥ Right o a ∥₁ → IfSome (then_some b a.held) (λ h. Decides h (Held o q))
if_settled o q a true settles right = told o q a.held (∥∥₁_map right (settles refl))
if_settled o q a false settles right = tt

pub returns : goal.returns
returns c =
    let m = c.args.self.now in
    let o = m.outlook in
    let q = c.args.question in
    let a = c.in_ok-known.field-0.now in
    let found = c.in_ok-known.ensures.lookup in
    let right = ∥∥₁_map (subst (AllRight o) (sym c.deref.ensures.value) m.right) (λ all. subst (Right o) (sym found.1) (all c.slot.result a found.3.0)) in
    subst (λ (r : Option Bool). IfSome r (λ h. Decides h (Held o q))) (sym c.then_some.ensures) (if_settled o q a c.settles.result c.settles.ensures right)
