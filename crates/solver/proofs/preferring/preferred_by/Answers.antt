use Rattle.std.proofs.Common.{ℕ, ◌≤◌, subst, sym, inl, inr, arith, rules, below_more}
use Rattle.game.specs.declared.Owner.{Owner}
use Rattle.game.specs.declared.Owner.TheVariants.{Ours, Theirs}
use Rattle.solver.specs.Entries.{never}
use Rattle.solver.specs.Inner.Rows.{Prefers}
use Rattle.solver.proofs.preferring.preferred_by.Goals as goal

on : (o : Owner) (a b c : ℕ) → Prefers o a b → Prefers o b c → Prefers o a c
on Ours a b c first then = omega arith
on Theirs a b c first then = omega arith

pub loop-m-preserved : goal.loop-m-preserved
loop-m-preserved g c =
    let o = c.args.owner in
    let l = c.loop-m in
    let z = c.better-best.result in
    let better = c.better-best.ensures in
    let small : c.number.result ≤ never = search rules in (
      below_more _ l.m (λ m lt. (let w = l.invariant.0 m lt in (w.0, w.1, w.2, on o z l.best w.0 better.first w.3))) (c.number.result, small, c.number.ensures, better.second),
      elim better.one [
        | inl e ↦ (let w = l.invariant.1 in (w.0, w.1, subst (goal.F-post g c.args.number w.0) (sym e) w.2))
        | inr e ↦ (l.m, c.loop-m-test.true, subst (goal.F-post g c.args.number l.m) (sym e) c.number.ensures)
      ],
    )

pub returns-clause-all : goal.returns-clause-all
returns-clause-all g c = λ m lt. c.loop-m.invariant.0 m (omega (arith, c.loop-m-test.false))
