use Rattle.std.proofs.Common.{◌≡◌, ℕ, pos, Some, slice_index, ap, ◌∙◌, arith, below_more, get_or-set_other, get_or-set_same}
use Rattle.std.specs.List.{slice_get}
use Rattle.std.proofs.lemmas.Option.{get_or_from_slice_get}
use Rattle.game.specs.declared.Edge.{Edge}
use Rattle.hopper.proofs.Boards.{nth_below}
use Rattle.solver.specs.Entries.{as_entry}
use Rattle.solver.proofs.needs.put_needs.Goals as goal

pub loop-k-preserved : goal.loop-k-preserved
loop-k-preserved g c =
    let need = g.V.Graded.need c.args.vessel.now in
    let edges = c.args.edges.now in
    let old = c.args.needs.now in
    let l = c.loop-k in
    let x = c.need_of_any.result in
    let none : Edge = record { target = 0; amount = pos 0 } in
    let new : (e : Edge) → slice_get edges l.k ≡ Some e → as_entry x ≡ need (slice_index old l.k) e.amount = λ e is.
    c.need_of_any.ensures
    ∙ (ap (λ (y : Edge). need (slice_index l.needs l.k) y.amount) (get_or_from_slice_get edges l.k e none is)
    ∙ ap (λ (n : ℕ). need n e.amount) (l.invariant.1 l.k (omega arith))) in (
      below_more _ l.k
          (λ k lt e is. ap as_entry (get_or-set_other l.needs l.k k x 0 (omega arith)) ∙ l.invariant.0 k lt e is)
          (λ e is. ap as_entry (get_or-set_same l.needs l.k x 0 (omega arith)) ∙ new e is),
      λ k le. get_or-set_other l.needs l.k k x 0 (omega arith) ∙ l.invariant.1 k (omega arith),
    )

pub returns : goal.returns
returns g c = λ k e is. c.loop-k.invariant.0 k (omega (arith, nth_below c.args.edges.now k e is)) e is
