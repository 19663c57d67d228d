use Rattle.std.proofs.Common.{ℕ, ◌<◌, ◌≤◌, slice_index, refl, subst, arith, rules}
use Rattle.game.specs.declared.Owner.{Owner}
use Rattle.game.specs.Forced.{foe}
use Rattle.hopper.specs.Boards.{step_at, count_at}
use Rattle.hopper.proofs.Boards.{step_there}
use Rattle.solver.specs.Entries.{never}
use Rattle.solver.specs.Inner.Marks.{LeadsToMark}
use Rattle.solver.specs.Inner.Rows.{Prefers}
use Rattle.solver.proofs.Choosing.{some_there, some_move}
use Rattle.solver.proofs.Best.{preferred_is_best}
use Rattle.solver.proofs.buffer.Entries.best.Goals as goal

pub preferred-requires-clause-some : goal.preferred-requires-clause-some
preferred-requires-clause-some g c =
    let board = c.args.self.now.board.now in
    let some = some_move (g.B.Board.game board) (g.B.Board.formed board) c.args.place c.requires in
    omega (arith, c.move_count.ensures)

pub returns : goal.returns
returns g c =
    let game = g.B.Board.game c.args.self.now.board.now in
    let marks = c.args.self.now.entries.now in
    let p = c.args.place in
    let z = c.preferred.result in
    let all : (m : ℕ) → m < count_at (game.at p) → (n : ℕ) × LeadsToMark game marks p m n × Prefers (foe c.owner.result) z n = λ m lt.
    let w = c.preferred.ensures.all m (omega (arith, c.move_count.ensures)) in
    let led : LeadsToMark game marks p m w.0 = search rules in
    (w.0, led, subst (λ (o : Owner). Prefers o z w.0) c.foe-chooser.ensures w.3) in
    let one : (m : ℕ) × LeadsToMark game marks p m z = search rules in
    preferred_is_best game marks p c.owner.result z c.owner.ensures all one

pub returns-then-finds : goal.returns-then-finds
returns-then-finds g c =
    let game = g.B.Board.game c.args.self.now.board.now in
    let marks = c.args.self.now.entries.now in
    let p = c.args.place in
    let z = c.last-end.result in
    let fits : (k : ℕ) → slice_index marks k ≤ never = λ k. search rules in
    let all : (m : ℕ) → m < count_at (game.at p) → (n : ℕ) × LeadsToMark game marks p m n × Prefers (foe c.owner.result) z n = λ m lt.
    let there = some_there (step_at (game.at p) m) (step_there (game.at p) m lt) in
    let n = slice_index marks there.0.target in
    let small : n ≤ never = fits there.0.target in
    (n, (there.0, there.1, refl), subst (λ (o : Owner). Prefers o z n) c.foe-chooser.ensures (c.last-end.ensures n small)) in
    let one : (m : ℕ) × LeadsToMark game marks p m z = search rules in
    preferred_is_best game marks p c.owner.result z c.owner.ensures all one
