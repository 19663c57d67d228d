use Rattle.std.proofs.Common.{ℕ, ◌<◌, length, slice_index, refl, arith}
use Rattle.solver.specs.Inner.Rows.{IsNext}
use Rattle.solver.proofs.Remaking.{remade_same, remade_other}
use Rattle.solver.proofs.needing.RowNeeds.remake.Goals as goal
use Rattle.solver.proofs.needing.RowNeeds.remake.Goals.{then-entry-self, else-entry-self}

pub loop-i-preserved : goal.loop-i-preserved
loop-i-preserved g c =
    let game = g.B.Board.game c.args.self.now.table.now.board.now in
    let row = c.args.self.now.row.now in
    let l = c.loop-i in
    let q = slice_index c.args.list.now l.i in
    let P : ℕ → ℕ → Type 0 = IsNext game (g.V.Graded.need c.args.self.now.vessel.now) row in
    let inside : q < game.places = c.requires.inside l.i c.loop-i-test.true in
    let few = l.invariant.few in
    let tall : q < length l.flags = omega arith in
    elim c.if-entry-self.branch [
      | then-entry-self w ↦ simp (w.next-is, w.changed-is, w.kept-is)
          (remade_other game.places P row c.args.list.now c.args.next.now c.args.flags.now l.i l.next l.flags l.changed l.kept l.invariant q refl inside tall
          c.next_entry-entry.result c.next_entry-entry.ensures (omega arith) (omega arith) w.if-entry-self.true)
      | else-entry-self w ↦ simp (w.next-is, w.changed-is, w.kept-is)
          (remade_same game.places P row c.args.list.now c.args.next.now c.args.flags.now l.i l.next l.flags l.changed l.kept l.invariant q refl inside tall
          c.next_entry-entry.result c.next_entry-entry.ensures w.if-entry-self.false)
    ]
