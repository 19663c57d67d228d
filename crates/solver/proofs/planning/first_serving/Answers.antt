use Rattle.std.proofs.Common.{ℕ, rules, tests}
use Rattle.std.proofs.lemmas.Iterator.{first_from_Range}
use Rattle.solver.specs.Entries.{entries}
use Rattle.solver.specs.Planning.{NeedsNoMore}
use Rattle.solver.proofs.Following.{first_found}
use Rattle.solver.proofs.planning.first_serving.Goals as goal

pub returns : goal.returns
returns g c =
    let row = c.args.row.now in
    let game = g.B.Board.game row.board.now in
    let v = g.V.Vessel.hopper c.args.vessel.now in
    let p = c.args.place in
    let P : ℕ → Type 0 = NeedsNoMore game v (entries row.entries.now) p in
    first_found game v row.entries.now p _ c.move_count.result c.find.result (search rules) c.move_count.ensures
    (first_from_Range _ _ _ _ P (λ m. ¬ P m) c.find.ensures.ran
    (λ x q k. search (rules, tests))
    (λ x q k. (search rules, search (rules, tests))))
