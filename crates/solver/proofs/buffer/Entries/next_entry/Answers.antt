use Rattle.std.proofs.Common.{ℕ, ◌<◌, ◌≤◌, arith, rules}
use Rattle.solver.specs.Entries.{never}
use Rattle.solver.specs.Inner.Rows.{Prefers, NeededFor}
use Rattle.hopper.specs.Boards.{count_at}
use Rattle.solver.proofs.Choosing.{some_move}
use Rattle.solver.proofs.Serving.{preferred_is_next}
use Rattle.solver.proofs.buffer.Entries.next_entry.Goals as goal

pub preferred-requires-clause-some : goal.preferred-requires-clause-some
preferred-requires-clause-some g c =
    let board = c.args.self.now.board.now in
    let some = some_move (g.B.Board.game board) (g.B.Board.formed board) c.args.place c.requires in
    omega (arith, c.move_count.ensures)

pub returns : goal.returns
returns g c =
    let game = g.B.Board.game c.args.self.now.board.now in
    let need = g.V.Graded.need c.args.vessel.now in
    let row = c.args.self.now.entries.now in
    let p = c.args.place in
    let o = c.owner.result in
    let z = c.preferred.result in
    let all : (m : ℕ) → m < count_at (game.at p) → (n : ℕ) × (n ≤ never) × NeededFor game need row p m n × Prefers o z n = λ m lt.
    let w = c.preferred.ensures.all m (omega (arith, c.move_count.ensures)) in
    let asked : NeededFor game need row p m w.0 = search rules in
    (w.0, w.1, asked, w.3) in
    let one : (m : ℕ) × NeededFor game need row p m z = search rules in
    preferred_is_next game need row p o z c.owner.ensures (search rules) all one
