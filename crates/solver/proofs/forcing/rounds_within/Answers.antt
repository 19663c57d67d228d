use Rattle.std.proofs.Common.{◌≡◌, suc, true, false, List, ℕ, ◌++◌, length, set, drop, replicate, add-one, arith, rules}
use Rattle.solver.specs.Entries.{never}
use Rattle.solver.specs.Inner.Marks.{RoundDone}
use Rattle.solver.proofs.Attraction.{started, started_rest, gone_on, stopped, rounds_kept}
use Rattle.solver.proofs.forcing.rounds_within.Goals as goal

pub loop-budget-init : goal.loop-budget-init
loop-budget-init g c =
    let game = g.B.Board.game c.args.board.now in
    let old = c.args.marks.now in
    let t = c.args.target in
    let inside = c.requires.target in
    let begun : List ℕ = set (c.fill.new.self ++ drop c.places-places.result old) t 0 in
    let room = c.requires.room in
    let filled : c.fill.new.self ≡ replicate game.places never = search rules in
    let is : begun ≡ set (replicate game.places never ++ drop game.places old) t 0 = rw (filled, c.places-places.ensures) in
    started game (g.B.Board.formed c.args.board.now) t inside begun (drop game.places old) is

pub loop-budget-preserved : goal.loop-budget-preserved
loop-budget-preserved g c =
    let game = g.B.Board.game c.args.board.now in
    let t = c.args.target in
    let inside = c.requires.target in
    let begun : List ℕ = set (c.fill.new.self ++ drop c.places-places.result c.args.marks.now) t 0 in
    let done : RoundDone game game.places c.loop-budget.marks c.mark_round.new.marks (suc c.loop-budget.rounds) true = rw (add-one c.loop-budget.rounds, c.if-branch.true) at c.in_ok-mark_round.ensures.done in
    rw (add-one c.loop-budget.rounds) (gone_on game (g.B.Board.formed c.args.board.now) t inside begun c.loop-budget.marks c.mark_round.new.marks c.loop-budget.rounds c.loop-budget.invariant done)

pub loop-budget-smaller : goal.loop-budget-smaller
loop-budget-smaller g c = let next = loop-budget-preserved g c in omega (arith, next.left)

pub returns-in_err-mark_round-clause-kept : goal.returns-in_err-mark_round-clause-kept
returns-in_err-mark_round-clause-kept g c =
    let game = g.B.Board.game c.args.board.now in
    let old = c.args.marks.now in
    let t = c.args.target in
    let new = c.mark_round.new.marks in
    let inside = c.requires.target in
    let begun : List ℕ = set (c.fill.new.self ++ drop c.places-places.result old) t 0 in
    let room = c.requires.room in
    let filled : c.fill.new.self ≡ replicate game.places never = search rules in
    let is : begun ≡ set (replicate game.places never ++ drop game.places old) t 0 = rw (filled, c.places-places.ensures) in
    let size : length new ≡ length old = search rules in
    rounds_kept game (g.B.Board.formed c.args.board.now) t inside begun c.loop-budget.marks new c.loop-budget.rounds c.loop-budget.invariant old (started_rest game (g.B.Board.formed c.args.board.now) t inside begun old is) c.mark_round.ensures.kept size

pub returns-clause-marked : goal.returns-clause-marked
returns-clause-marked g c =
    let game = g.B.Board.game c.args.board.now in
    let formed = g.B.Board.formed c.args.board.now in
    let old = c.args.marks.now in
    let t = c.args.target in
    let new = c.mark_round.new.marks in
    let rounds = c.loop-budget.rounds in
    let inside = c.requires.target in
    let begun : List ℕ = set (c.fill.new.self ++ drop c.places-places.result old) t 0 in
    let room = c.requires.room in
    let filled : c.fill.new.self ≡ replicate game.places never = search rules in
    let is : begun ≡ set (replicate game.places never ++ drop game.places old) t 0 = rw (filled, c.places-places.ensures) in
    let done : RoundDone game game.places c.loop-budget.marks new (suc rounds) false = rw (add-one rounds, c.if-branch.false) at c.in_ok-mark_round.ensures.done in
    let size : length new ≡ length old = search rules in
    stopped game formed t inside begun c.loop-budget.marks new rounds c.loop-budget.invariant done old (started_rest game formed t inside begun old is) size

pub returns-clause-kept : goal.returns-clause-kept
returns-clause-kept g c = let marked = returns-clause-marked g c in marked.kept
