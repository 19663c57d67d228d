use Rattle.std.proofs.Common.{◌≡◌, ℕ, ℤ, ◌+◌, ◌<◌, ◌≤◌, List, length, pos, set, Some, slice_index, slice_index_or, w32, SFits, rules, sym, ap, ◌∙◌, subst, inl, inr, arith}
use Rattle.std.specs.List.{slice_get}
use Rattle.std.proofs.lemmas.Bool.{cases_lt}
use Rattle.std.proofs.lemmas.List.{get_or_read}
use Rattle.std.proofs.lemmas.Option.{get_or_from_slice_get}
use Rattle.std.proofs.lemmas.Int.{to_z-of_z}
use Rattle.game.specs.declared.Edge.{Edge}
use Rattle.game.proofs.RowMaking.{need_if, serves}
use Rattle.solver.specs.Entries.{as_entry, entries}
use Rattle.solver.specs.Inner.Rows.{RightNeed}
use Rattle.solver.specs.Inner.Moves.{HasMoveTo}
use Rattle.solver.proofs.Serving.{need_read}
use Rattle.solver.proofs.Refreshing.{right_here, right_still, rest_still}
use Rattle.solver.proofs.arcs.Arcs.refresh.Goals as goal

pub loop-slot-preserved : goal.loop-slot-preserved
loop-slot-preserved g c =
    let vessel = c.args.vessel.now in
    let need = g.V.Graded.need vessel in
    let row = c.args.row.now in
    let edges = c.args.edges.now in
    let arcs = c.args.self.now in
    let numbers = arcs.numbers.items in
    let q = c.args.target in
    let l = c.loop-slot in
    let k = slice_index c.as_slice-numbers.result.now l.slot in
    let x = c.need_of.result in
    let here : k ≡ slice_index numbers l.slot = ap (λ (xs : List ℕ). slice_index xs l.slot) c.as_slice-numbers.ensures.value in
    let begin : c.index-begin.result.now ≡ slice_index arcs.begins.items q = get_or_read arcs.begins.items _ _ (omega arith) c.index-begin.ensures 0 in
    let end : c.index-end.result.now ≡ slice_index arcs.begins.items (q + 1) = get_or_read arcs.begins.items _ _ (omega arith) c.index-end.ensures 0 in
    let from : slice_index arcs.begins.items q ≤ l.slot = omega (arith, begin) in
    let below : l.slot < slice_index arcs.begins.items (q + 1) = omega (arith, end) in
    let move : HasMoveTo edges numbers arcs.amounts.items q l.slot = c.requires.led l.slot from below in
    let inside = move.inside in
    let room : k < length l.needs = omega (arith, here) in
    let a = slice_index_or c.as_slice-amounts.result.now l.slot (pos 0) in
    let fits : SFits w32 a = search rules in
    let needed : as_entry x ≡ need (slice_index row q) a = simp to_z-of_z at c.need_of.ensures in
    let poured : (e : Edge) → slice_get edges (slice_index numbers l.slot) ≡ Some e → a ≡ e.amount = λ e is.
    get_or_from_slice_get c.as_slice-amounts.result.now l.slot e.amount (pos 0)
    (subst (λ (xs : List ℤ). slice_get xs l.slot ≡ Some e.amount) (sym c.as_slice-amounts.ensures.value) (move.pours e is)) in
    let new : (e : Edge) → slice_get edges k ≡ Some e → as_entry x ≡ serves need (entries row) e = λ e is.
    let is' = subst (λ (n : ℕ). slice_get edges n ≡ Some e) here is in
    needed
    ∙ (ap (need (slice_index row q)) (poured e is')
    ∙ (sym (need_read (g.V.Vessel.hopper vessel) (g.V.Vessel.keeps vessel) need (g.met.V.Graded.graded vessel) (slice_index row q) e.amount)
    ∙ ap (λ (n : ℕ). need_if need e.amount (entries row n)) (sym (move.leads e is')))) in (
      λ i from' lt. elim (cases_lt i l.slot) [
        | inl less ↦ right_still need row edges l.needs k x (slice_index numbers i) room new (l.invariant.0 i from' less)
        | inr le ↦ (
            let same : i ≡ l.slot = omega arith in
            subst (RightNeed need row edges (set l.needs k x)) (here ∙ ap (slice_index numbers) (sym same)) (right_here need row edges l.needs k x room new))
      ],
      rest_still need row edges c.args.needs.now l.needs k x room new l.invariant.1,
    )

pub returns-clause-part : goal.returns-clause-part
returns-clause-part g c = λ k e arc is leads.
    let edges = c.args.edges.now in
    let arcs = c.args.self.now in
    let l = c.loop-slot in
    let begin : c.index-begin.result.now ≡ slice_index arcs.begins.items c.args.target = get_or_read arcs.begins.items _ _ (omega arith) c.index-begin.ensures 0 in
    let end : c.index-end.result.now ≡ slice_index arcs.begins.items (c.args.target + 1) = get_or_read arcs.begins.items _ _ (omega arith) c.index-end.ensures 0 in
    let from : c.index-begin.result.now ≤ slice_index arcs.slots.items k = omega (arith, begin, arc.from) in
    let below : slice_index arcs.slots.items k < l.slot = omega (arith, end, arc.below, arc.from, begin) in
    let is' : slice_get edges (slice_index arcs.numbers.items (slice_index arcs.slots.items k)) ≡ Some e = subst (λ (n : ℕ). slice_get edges n ≡ Some e) (sym arc.is) is in
    ap (entries l.needs) (sym arc.is) ∙ (l.invariant.0 (slice_index arcs.slots.items k) from below e is')
