use Rattle.std.proofs.Common.{◌≡◌, ℕ, ◌+◌, slice_index, Some, sym, ◌∙◌, subst, arith}
use Rattle.std.proofs.lemmas.List.{get_or_read}
use Rattle.game.specs.declared.Edge.{Edge}
use Rattle.hopper.specs.Boards.{step_at}
use Rattle.hopper.proofs.Boards.{step_there}
use Rattle.solver.specs.Inner.Rows.{NeededFor}
use Rattle.solver.proofs.Choosing.{some_there}
use Rattle.solver.proofs.needing.RowNeeds.needed.Goals as goal

pub returns : goal.returns
returns g c =
    let table = c.args.self.now.table.now in
    let game = g.B.Board.game table.board.now in
    let p = c.args.place in
    let m = c.args.m in
    let there : (e : Edge) × (step_at (game.at p) m ≡ Some e) = some_there (step_at (game.at p) m) (step_there (game.at p) m c.requires.m) in
    let k = slice_index table.firsts.items p + m in
    let need = g.V.Graded.need c.args.self.now.vessel.now in
    let row = c.args.self.now.row.now in
    let needs = c.args.self.now.needs.now in
    let first : c.index.result.now ≡ slice_index table.firsts.items p = get_or_read table.firsts.items _ _ (omega arith) c.index.ensures 0 in
    let this : NeededFor game need row p m (slice_index needs k) =
    (there.0, there.1, c.args.self.now.right k there.0 (sym (table.held p c.requires.place m c.requires.m) ∙ there.1)) in
    subst (λ (n : ℕ). NeededFor game need row p m (slice_index needs (n + m))) (sym first) this
