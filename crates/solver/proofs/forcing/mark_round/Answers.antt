use Rattle.std.proofs.Common.{ℕ, ◌≡◌, ◌<◌, ◌≤◌, length, get_or, subst, arith, rules}
use Rattle.std.proofs.lemmas.Bool.{false≢true}
use Rattle.solver.specs.Entries.{never}
use Rattle.solver.specs.Inner.Marks.{RoundDone}
use Rattle.solver.proofs.Rounds.{round_set, round_old, round_not, round_kept}
use Rattle.solver.proofs.forcing.mark_round.Goals as goal
use Rattle.solver.proofs.forcing.mark_round.Goals.{then-marks-place+in_ok-spend-2+then-forced, then-marks-place+in_ok-spend-2+else-forced, else-marks-place}

pub loop-place-preserved : goal.loop-place-preserved
loop-place-preserved g c =
    let game = g.B.Board.game c.args.board.now in
    let formed = g.B.Board.formed c.args.board.now in
    let old = c.args.marks.now in
    let new = c.loop-place.marks in
    let round = c.args.round in
    let n = c.loop-place.place in
    let fresh = c.loop-place.fresh in
    let small : round < never = omega arith in
    let fits : (k : ℕ) → get_or old k 0 ≤ never = λ k. search rules in
    let room : n < length new = omega arith in
    let value : get_or new n 0 ≤ never = search rules in
    elim c.if-marks-place.branch [
      | then-marks-place+in_ok-spend-2+then-forced w ↦ simp (w.marks-is, w.fresh-is)
          (round_set game formed old round small fits n new fresh c.loop-place.invariant room w.if-marks-place.true (w.can_force-forced.ensures.0 w.if-forced.true))
      | then-marks-place+in_ok-spend-2+else-forced w ↦ simp (w.marks-is, w.fresh-is)
          (round_not game formed old round small fits n new fresh c.loop-place.invariant w.if-marks-place.true (λ p. false≢true (search rules)))
      | else-marks-place w ↦ simp (w.marks-is, w.fresh-is) (round_old game formed old round small fits n new fresh c.loop-place.invariant (let no = w.if-marks-place.false in omega arith))
    ]

pub returns-in_err-spend-2-clause-kept : goal.returns-in_err-spend-2-clause-kept
returns-in_err-spend-2-clause-kept g c =
    let game = g.B.Board.game c.args.board.now in
    let inside : c.loop-place.place ≤ game.places = search rules in
    round_kept game c.loop-place.place c.args.marks.now c.loop-place.marks c.args.round c.loop-place.fresh c.loop-place.invariant inside (search rules)

pub returns-clause-done : goal.returns-clause-done
returns-clause-done g c =
    let game = g.B.Board.game c.args.board.now in
    let all : c.loop-place.place ≡ game.places = search rules in
    subst (λ (n : ℕ). RoundDone game n c.args.marks.now c.loop-place.marks c.args.round c.loop-place.fresh) all c.loop-place.invariant

pub returns-clause-kept : goal.returns-clause-kept
returns-clause-kept g c =
    let game = g.B.Board.game c.args.board.now in
    let inside : c.loop-place.place ≤ game.places = search rules in
    round_kept game c.loop-place.place c.args.marks.now c.loop-place.marks c.args.round c.loop-place.fresh c.loop-place.invariant inside (search rules)
