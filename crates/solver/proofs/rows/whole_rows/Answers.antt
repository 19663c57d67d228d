use Rattle.std.proofs.Common.{◌≡◌, ℕ, ◌<◌, ◌≤◌, List, ◌++◌, length, length-take-le, slice_index, take, drop, replicate, subst, add-one, arith, rules}
use Rattle.std.proofs.lemmas.List.{length-replicate}
use Rattle.solver.specs.Entries.{KeptFrom}
use Rattle.solver.proofs.Entries.{front_kept, filled_front, copied_front}
use Rattle.solver.proofs.RowByRow.{Running, started, gone_on, first_repeated, repeated_tells, still_changing}
use Rattle.solver.proofs.rows.whole_rows.Goals as goal

pub loop-budget-init : goal.loop-budget-init
loop-budget-init g c =
    let board = c.args.board.now in
    let vessel = c.args.vessel.now in
    let game = g.B.Board.game board in
    let old = c.args.row.now in
    let spare = c.args.next.now in
    let n = game.places in
    let room : n ≤ length old = search rules in
    let zeros : c.fill.new.self ≡ replicate n 0 = search rules in
    let begun : List ℕ = c.fill.new.self ++ drop c.places-count.result old in
    let is : begun ≡ replicate n 0 ++ drop n old = rw (zeros, c.places-count.ensures) in
    let zero : (p : ℕ) → p < n → slice_index begun p ≡ 0 = λ p lt. rw is (filled_front n p 0 (drop n old) lt) in
    let kept : KeptFrom n old begun = rw is (front_kept n (replicate n 0) old (length-replicate n 0) room) in
    let kept' : KeptFrom n spare c.next_row.new.next = record { same_length = search rules; same_rest = c.next_row.ensures.rest } in (
      omega arith,
      started game (g.B.Board.formed board) (g.V.Vessel.hopper vessel) (g.V.Vessel.keeps vessel) (g.V.Graded.need vessel) (g.met.V.Graded.graded vessel) old spare begun
          c.next_row.new.next zero kept kept' c.next_row.ensures (search rules) (search rules),
    )

pub loop-budget-preserved : goal.loop-budget-preserved
loop-budget-preserved g c =
    let board = c.args.board.now in
    let vessel = c.args.vessel.now in
    let game = g.B.Board.game board in
    let n = game.places in
    let l = c.loop-budget in
    let row = l.row in
    let next = l.next in
    let run = l.invariant.1 in
    let other : ¬ (take n row ≡ take n next) = search rules in
    let copied : List ℕ = c.copy_from_slice.new.self ++ drop c.places-count.result row in
    let is : copied ≡ take n next ++ drop n row = rw (c.copy_from_slice.ensures.after, c.places-count.ensures) in
    let taken : (p : ℕ) → p < n → slice_index copied p ≡ slice_index next p = λ p lt. rw is (copied_front n p next (drop n row) lt run.room_two) in
    let kept : KeptFrom n row copied = rw is (front_kept n (take n next) row (length-take-le n next run.room_two) run.room_one) in
    let made = c.next_row-in-loop-budget in
    let kept' : KeptFrom n next made.new.next = record { same_length = search rules; same_rest = made.ensures.rest } in (
      (let h = l.invariant.0 in omega arith),
      rw (add-one l.rounds)
          (gone_on game (g.B.Board.formed board) (g.V.Vessel.hopper vessel) (g.V.Vessel.keeps vessel) (g.V.Graded.need vessel) (g.met.V.Graded.graded vessel) c.args.row.now c.args.next.now
          row next l.rounds run other copied made.new.next taken kept kept' made.ensures),
    )

pub returns-then-rounds-budget : goal.returns-then-rounds-budget
returns-then-rounds-budget g c =
    let board = c.args.board.now in
    let vessel = c.args.vessel.now in
    let game = g.B.Board.game board in
    let v = g.V.Vessel.hopper vessel in
    let need = g.V.Graded.need vessel in
    let old = c.args.row.now in
    let spare = c.args.next.now in
    let l = c.loop-budget in
    let other : ¬ (take game.places l.row ≡ take game.places l.next) = search rules in
    let ended : Running game v need old spare l.row l.next c.args.budget = subst (λ (j : ℕ). Running game v need old spare l.row l.next j) c.if-rounds-budget.true l.invariant.1 in
    (search rules, still_changing game (g.B.Board.formed board) v (g.V.Vessel.keeps vessel) need (g.met.V.Graded.graded vessel) old spare l.row l.next c.args.budget ended other)

pub returns : goal.returns
returns g c =
    let board = c.args.board.now in
    let vessel = c.args.vessel.now in
    let game = g.B.Board.game board in
    let formed = g.B.Board.formed board in
    let v = g.V.Vessel.hopper vessel in
    let keeps = g.V.Vessel.keeps vessel in
    let need = g.V.Graded.need vessel in
    let graded = g.met.V.Graded.graded vessel in
    let old = c.args.row.now in
    let spare = c.args.next.now in
    let l = c.loop-budget in
    let run = l.invariant.1 in
    let same : take game.places l.row ≡ take game.places l.next = search rules in (
      l.invariant.0,
      first_repeated game formed v keeps need graded old spare l.row l.next l.rounds run same,
      repeated_tells game formed v keeps need graded old spare l.row l.next l.rounds run same,
    )
