use Rattle.std.proofs.Common.{◌≡◌, ℕ, Bool, true, ◌&&◌, eqb, refl, ap, ◌∙◌}
use Rattle.std.proofs.lemmas.Bool.{eq-eqb}
use Rattle.shift.proofs.Shift.order.Goals as goal

-- three numbers are the same as themselves
same_three : (n p m : ℕ) → (eqb n n && (eqb p p && eqb m m)) ≡ true
same_three n p m =
    ap (λ (b : Bool). b && (eqb p p && eqb m m)) (eq-eqb n n refl) ∙ ap (λ (b : Bool). b && eqb m m) (eq-eqb p p refl) ∙ eq-eqb m m refl

pub returns-clause-open : goal.returns-clause-open
returns-clause-open g c = same_three c.args.self.now.number c.args.self.now.place c.in_ok-mv.mv
