use Rattle.std.proofs.Common.{◌≡◌, ℕ, ◌<◌, List, ◌++◌, length, take, drop, replicate, slice_index, sym, ap, ◌∙◌, subst, add-one, arith, rules}
use Rattle.std.proofs.lemmas.List.{length-replicate}
use Rattle.game.specs.declared.Edge.{Edge}
use Rattle.solver.specs.Entries.{as_entry, entries, KeptFrom}
use Rattle.solver.specs.Inner.Changing.{Flagged}
use Rattle.solver.specs.Inner.Rows.{IsNext, RightNeeds}
use Rattle.solver.proofs.Entries.{front_kept, filled_front}
use Rattle.solver.proofs.Refreshing.{refreshed}
use Rattle.solver.proofs.Serving.{same_next}
use Rattle.solver.proofs.RowByRow.{Running, started, gone_on, next_made, first_repeated, repeated_tells, still_changing}
use Rattle.solver.proofs.ByChange.{all_right, none_changed, some_changed, taken_over, moved, left_over, targets_same}
use Rattle.solver.proofs.rows.changed_rows.Goals as goal

pub loop-changes-init : goal.loop-changes-init
loop-changes-init g c =
    let board = c.args.origins.now.table.board.now in
    let vessel = c.args.vessel.now in
    let game = g.B.Board.game board in
    let need = g.V.Graded.need vessel in
    let n = length c.as_mut_slice-flags.result.now in
    let old = c.args.row.now in
    let spare = c.args.next.now in
    let zeros : c.fill.new.self ≡ replicate n 0 = search rules in
    let zeros' : c.fill-2.new.self ≡ replicate n 0 = search rules in
    let row : List ℕ = c.fill.new.self ++ drop n old in
    let begun : List ℕ = c.fill-2.new.self ++ drop n spare in
    let next = c.remake-changes.new.next in
    let zero : (p : ℕ) → p < game.places → slice_index row p ≡ 0 = λ p lt. rw zeros (filled_front n p 0 (drop n old) (omega arith)) in
    let kept : KeptFrom n old row = rw zeros (front_kept n (replicate n 0) old (length-replicate n 0) (omega arith)) in
    let kept' : KeptFrom n spare begun = rw zeros' (front_kept n (replicate n 0) spare (length-replicate n 0) (omega arith)) in
    let right = all_right game.places (IsNext game need row) c.add_all-all.new.list c.add_all-all.result c.add_all-all.new.flags row next c.add_all-all.ensures.after c.remake-changes.ensures.made
    c.remake-changes.ensures.others (λ p lt no_flag. absurd (no_flag (c.add_all-all.ensures.flagged p (omega arith)))) in
    let rest : KeptFrom game.places spare next = record { same_length = search rules; same_rest = λ k le. c.remake-changes.ensures.past k le ∙ kept'.same_rest k (omega arith) } in (
      omega arith,
      started game (g.B.Board.formed board) (g.V.Vessel.hopper vessel) (g.V.Vessel.keeps vessel) need (g.met.V.Graded.graded vessel) old spare row next zero
          (record { same_length = kept.same_length; same_rest = λ k le. kept.same_rest k (omega arith) }) rest (record { front = right; rest = rest.same_rest }) (search rules) (search rules),
      c.remake-changes.ensures.changes,
      λ p f. (let w = c.remake-changes.ensures.unflagged p f in w.1 (c.add_all-all.ensures.after.listed p w.0)),
      subst (λ (xs : List Edge). RightNeeds need row xs c.fill_needs.new.needs) c.deref.ensures.value c.fill_needs.ensures,
    )

pub returns-then-rounds-budget : goal.returns-then-rounds-budget
returns-then-rounds-budget g c =
    let board = c.args.origins.now.table.board.now in
    let vessel = c.args.vessel.now in
    let game = g.B.Board.game board in
    let v = g.V.Vessel.hopper vessel in
    let need = g.V.Graded.need vessel in
    let old = c.args.row.now in
    let spare = c.args.next.now in
    let l = c.loop-changes in
    let other : ¬ (take game.places l.row ≡ take game.places l.next) = some_changed game.places l.row l.next l.changed l.changes l.invariant.2 c.loop-changes-test.true in
    let ended : Running game v need old spare l.row l.next c.args.budget = subst (λ (j : ℕ). Running game v need old spare l.row l.next j) c.if-rounds-budget.true l.invariant.1 in
    (search rules, still_changing game (g.B.Board.formed board) v (g.V.Vessel.keeps vessel) need (g.met.V.Graded.graded vessel) old spare l.row l.next c.args.budget ended other)

pub returns : goal.returns
returns g c =
    let board = c.args.origins.now.table.board.now in
    let vessel = c.args.vessel.now in
    let game = g.B.Board.game board in
    let formed = g.B.Board.formed board in
    let v = g.V.Vessel.hopper vessel in
    let keeps = g.V.Vessel.keeps vessel in
    let need = g.V.Graded.need vessel in
    let graded = g.met.V.Graded.graded vessel in
    let old = c.args.row.now in
    let spare = c.args.next.now in
    let l = c.loop-changes in
    let run = l.invariant.1 in
    let same : take game.places l.row ≡ take game.places l.next =
    none_changed game.places l.row l.next l.changed l.changes l.invariant.2 (omega arith) run.room_one run.room_two in (
      l.invariant.0,
      first_repeated game formed v keeps need graded old spare l.row l.next l.rounds run same,
      repeated_tells game formed v keeps need graded old spare l.row l.next l.rounds run same,
    )

pub take_over-requires-clause-row_room : goal.take_over-requires-clause-row_room
take_over-requires-clause-row_room g c = λ i lt.
    let inv = c.loop-changes.invariant in
    let inside = inv.2.inside i lt in
    let room = inv.1.room_one in
    omega arith

pub take_over-requires-clause-next_room : goal.take_over-requires-clause-next_room
take_over-requires-clause-next_room g c = λ i lt.
    let inv = c.loop-changes.invariant in
    let inside = inv.2.inside i lt in
    let room = inv.1.room_two in
    omega arith

pub list_again-again-requires-clause-before : goal.list_again-again-requires-clause-before
list_again-again-requires-clause-before g c =
    record { room = omega arith; inside = λ i lt. absurd (omega arith); listed = λ p f. absurd (c.loop-changes.invariant.3 p f) }

pub remake-changes-requires-in-loop-changes-clause-same :
    goal.remake-changes-requires-in-loop-changes-clause-same
remake-changes-requires-in-loop-changes-clause-same g c = λ k lt.
    let game = g.B.Board.game c.args.origins.now.table.board.now in
    let l = c.loop-changes in
    sym (taken_over game.places l.row l.next l.changed l.changes l.invariant.2 c.take_over.new.row c.take_over.ensures.taken c.take_over.ensures.rest k lt)

pub loop-changes-preserved : goal.loop-changes-preserved
loop-changes-preserved g c =
    let origins = c.args.origins.now in
    let board = origins.table.board.now in
    let vessel = c.args.vessel.now in
    let game = g.B.Board.game board in
    let formed = g.B.Board.formed board in
    let v = g.V.Vessel.hopper vessel in
    let keeps = g.V.Vessel.keeps vessel in
    let need = g.V.Graded.need vessel in
    let graded = g.met.V.Graded.graded vessel in
    let old = c.args.row.now in
    let spare = c.args.next.now in
    let l = c.loop-changes in
    let run = l.invariant.1 in
    let lists = l.invariant.2 in
    let row = c.take_over.new.row in
    let again = c.list_again-again in
    let made = c.remake-changes-in-loop-changes in
    let next = made.new.next in
    let taken : (p : ℕ) → p < game.places → slice_index row p ≡ slice_index l.next p =
    taken_over game.places l.row l.next l.changed l.changes lists row c.take_over.ensures.taken c.take_over.ensures.rest in
    let kept : KeptFrom game.places l.row row =
    record { same_length = search rules; same_rest = left_over game.places l.row l.next l.changed l.changes lists row c.take_over.ensures.taken c.take_over.ensures.rest } in
    let other : ¬ (take game.places l.row ≡ take game.places l.next) = some_changed game.places l.row l.next l.changed l.changes lists c.loop-changes-test.true in
    let P : ℕ → ℕ → Type 0 = IsNext game need row in
    let rest : (p : ℕ) → p < game.places → ¬ Flagged again.new.flags p → P p (slice_index row p) = λ p lt no_flag.
    let same = targets_same game.places l.row l.next l.changed l.changes lists row c.take_over.ensures.taken c.take_over.ensures.rest game formed (search rules)
    origins.sources.begins.items origins.sources.ends.items origins.sources.places.items origins.all again.new.flags
    (λ i q lt less source. again.ensures.flagged i q lt (omega arith) source) p lt no_flag in
    ap as_entry (taken p lt)
    ∙ (next_made game formed v keeps need graded old spare l.row l.next l.rounds run p lt
    ∙ same_next game need (entries l.row) (entries row) p (λ m e is. ap as_entry (sym (same m e is)))) in
    let right = all_right game.places P again.new.list again.result again.new.flags row next again.ensures.after made.ensures.made made.ensures.others rest in
    let kept' : KeptFrom game.places l.next next = record { same_length = search rules; same_rest = made.ensures.past } in (
      omega arith,
      rw (add-one l.rounds)
          (gone_on game formed v keeps need graded old spare l.row l.next l.rounds run other row next taken kept kept' (record { front = right; rest = made.ensures.past })),
      made.ensures.changes,
      λ p f. (let w = made.ensures.unflagged p f in w.1 (again.ensures.after.listed p w.0)),
      refreshed need l.row row origins.table.edges.items origins.arcs.begins.items origins.arcs.numbers.items origins.arcs.slots.items l.needs c.refresh_all.new.needs l.changed
          l.changes game.places origins.targets origins.numbered
          (moved game.places l.row l.next l.changed l.changes lists row c.take_over.ensures.taken c.take_over.ensures.rest) l.invariant.4 c.refresh_all.ensures.parts
          c.refresh_all.ensures.rest,
    )

pub invariant_of-begun-clause-right : goal.invariant_of-begun-clause-right
invariant_of-begun-clause-right g c =
    let need = g.V.Graded.need c.args.vessel.now in
    let row : List ℕ = c.fill.new.self ++ drop (length c.as_mut_slice-flags.result.now) c.args.row.now in
    subst (λ (xs : List Edge). RightNeeds need row xs c.fill_needs.new.needs) c.deref.ensures.value c.fill_needs.ensures

pub invariant_of-reached-clause-right : goal.invariant_of-reached-clause-right
invariant_of-reached-clause-right g c =
    let origins = c.args.origins.now in
    let game = g.B.Board.game origins.table.board.now in
    let arcs = origins.arcs in
    let l = c.loop-changes in
    refreshed (g.V.Graded.need c.args.vessel.now) l.row c.take_over.new.row origins.table.edges.items arcs.begins.items arcs.numbers.items
    arcs.slots.items l.needs c.refresh_all.new.needs l.changed l.changes game.places origins.targets origins.numbered
    (moved game.places l.row l.next l.changed l.changes l.invariant.2 c.take_over.new.row c.take_over.ensures.taken c.take_over.ensures.rest)
    l.invariant.4 c.refresh_all.ensures.parts c.refresh_all.ensures.rest
