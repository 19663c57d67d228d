use Rattle.std.proofs.Common.{◌≡◌, ℕ, ◌⊎◌, List, slice_index, sym, subst, arith, below_more}
use Rattle.game.specs.declared.Edge.{Edge}
use Rattle.solver.specs.Inner.Rows.{RightNeed, RightNeeds, RefreshesPart}
use Rattle.solver.specs.Inner.Moves.{PartLeads}
use Rattle.solver.proofs.Refreshing.{part_still, rest_on}
use Rattle.solver.proofs.origins.Origins.refresh_all.Goals as goal

pub loop-i-preserved : goal.loop-i-preserved
loop-i-preserved g c =
    let need = g.V.Graded.need c.args.vessel.now in
    let row = c.args.row.now in
    let edges = c.args.self.now.table.edges.items in
    let arcs = c.args.self.now.arcs in
    let q = λ (i : ℕ). slice_index c.args.changed.now i in
    let l = c.loop-i in
    let new = c.refresh.new.needs in
    let rest : (k : ℕ) → (slice_index new k ≡ slice_index l.needs k) ⊎ RightNeed need row edges new k =
    subst (λ (xs : List Edge). (k : ℕ) → (slice_index new k ≡ slice_index l.needs k) ⊎ RightNeed need row xs new k) c.as_slice-edges.ensures.value c.refresh.ensures.rest in
    let part : RefreshesPart need row edges arcs.begins.items arcs.numbers.items arcs.slots.items (q l.i) new =
    subst (λ (xs : List Edge). RefreshesPart need row xs arcs.begins.items arcs.numbers.items arcs.slots.items (q l.i) new) c.as_slice-edges.ensures.value c.refresh.ensures.part in (
      below_more _ l.i (λ i lt. part_still need row edges arcs.begins.items arcs.numbers.items arcs.slots.items (q i) l.needs new rest (l.invariant.0 i lt)) part,
      rest_on need row edges c.args.needs.now l.needs new l.invariant.1 rest,
    )

pub returns-clause-parts : goal.returns-clause-parts
returns-clause-parts g c = λ i lt. c.loop-i.invariant.0 i (omega arith)

pub returns-then-most-clause-parts : goal.returns-then-most-clause-parts
returns-then-most-clause-parts g c = λ i lt k e arc is leads.
    let need = g.V.Graded.need c.args.vessel.now in
    subst (λ (xs : List Edge). RightNeeds need c.args.row.now xs c.fill_needs.new.needs) c.as_slice-edges.ensures.value c.fill_needs.ensures k e is

pub refresh-requires-clause-led : goal.refresh-requires-clause-led
refresh-requires-clause-led g c =
    let arcs = c.args.self.now.arcs in
    let q = slice_index c.args.changed.now c.loop-i.i in
    subst (λ (xs : List Edge). PartLeads xs arcs.begins.items arcs.numbers.items arcs.amounts.items q) (sym c.as_slice-edges.ensures.value)
    (c.args.self.now.led q (c.requires.inside c.loop-i.i c.loop-i-test.true))
