use Rattle.std.proofs.Common.{◌≡◌, ℕ, ◌<◌, subst, rules}
use Rattle.std.proofs.Math.Dec.{ltb}
use Rattle.std.proofs.lemmas.Bool.{ltb-true}
use Rattle.solver.specs.Forcing.{ForcedMarks}
use Rattle.solver.specs.Inner.Marks.{Settled}
use Rattle.solver.proofs.Passing.{settled_never, settled_number, if_then_some}
use Rattle.solver.proofs.Settled.{settled_marks}
use Rattle.solver.proofs.buffer.Entries.settled.Goals as goal
use Rattle.solver.proofs.buffer.Entries.settled.Goals.{then-mark, else-mark}

pub loop-place-preserved : goal.loop-place-preserved
loop-place-preserved g c =
    let game = g.B.Board.game c.args.self.now.board.now in
    let marks = c.args.self.now.entries.now in
    elim c.if-mark.branch [
      | then-mark w ↦ rw w.rounds-is (settled_number game c.args.target c.loop-place.place marks c.loop-place.rounds c.loop-place.invariant (search rules) w.max-rounds.result (search rules))
      | else-mark w ↦ rw w.rounds-is (settled_never game c.args.target c.loop-place.place marks c.loop-place.rounds c.loop-place.invariant (search rules) (search rules))
    ]

pub returns : goal.returns
returns g c = λ old kept.
    let board = c.args.self.now.board.now in
    let game = g.B.Board.game board in
    let marks = c.args.self.now.entries.now in
    let rounds = c.loop-place.rounds in
    let all : c.loop-place.place ≡ game.places = search rules in
    let settles : Settled game c.args.target game.places marks rounds = subst (λ (n : ℕ). Settled game c.args.target n marks rounds) all c.loop-place.invariant in
    rw c.then_some.ensures (if_then_some (ltb rounds c.places-places.result) rounds (ForcedMarks game c.args.target old marks) (λ is.
    let less = ltb-true rounds c.places-places.result is in
    let few : rounds < game.places = search rules in
    settled_marks game (g.B.Board.formed board) c.args.target c.requires marks rounds few settles old kept))
