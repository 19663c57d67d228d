use Rattle.std.proofs.Common.{◌≤◌, ◌<◌, slice_index, arith, rules}
use Rattle.std.proofs.lemmas.Bool.{leb-true, le-leb}
use Rattle.solver.specs.Entries.{never}
use Rattle.solver.proofs.Following.{needs, needed_low}
use Rattle.solver.proofs.planning.needs_no_more.Goals as goal

pub returns-then-entry : goal.returns-then-entry
returns-then-entry g c =
    let board = c.args.row.now.board.now in
    let game = g.B.Board.game board in
    let vessel = c.args.vessel.now in
    let v = g.V.Vessel.hopper vessel in
    let need = g.V.Graded.need vessel in
    let graded = g.met.V.Graded.graded vessel in
    let row = c.args.row.now.entries.now in
    let p = c.args.place in
    let n = c.needed.result in
    let x = slice_index row p in
    let value : x ≤ never = search rules in
    let number : x < never = omega (arith, c.if-entry.true) in (
      λ le. needs game (g.B.Board.formed board) v (g.V.Vessel.keeps vessel) need graded row p c.args.m n c.needed.ensures (leb-true n x le) number,
      λ s. le-leb n x (needed_low game (g.B.Board.formed board) v (g.V.Vessel.keeps vessel) need graded row p c.args.m n c.needed.ensures s),
    )
