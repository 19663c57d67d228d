use Rattle.std.proofs.Common.{◌≡◌, ℕ, ◌+◌, ◌*◌, ◌/◌, ◌%◌, ◌<◌, ◌≤◌, pos, Some, None, sym, ap, ◌∙◌, arith, w32, SFits, rules}
use Rattle.std.proofs.lemmas.Int.{to_z-of_z}
use Rattle.std.specs.Option.{MatchOption}
use Rattle.game.specs.Forced.{landing, spill}
use Rattle.hopper.specs.Boards.{step_at}
use Rattle.hopper.proofs.Boards.{step_inside}
use Rattle.solver.specs.Inner.Marks.{spill_number}
use Rattle.solver.proofs.Unfolds.{step_fill, step_no_fill, number_of, within_fills, small_spill, landed}
use Rattle.solver.proofs.unfolded.UnfoldedBoard.step.Goals as goal

pub returns-in_err-edge : goal.returns-in_err-edge
returns-in_err-edge g c =
    let u = c.args.self.now in
    let game = g.B.Board.game u.board.now in
    let top = (g.V.Vessel.hopper u.vessel.now).top in
    let inside : c.args.place < spill_number game top = omega (arith, c.spill-spill.ensures) in
    let none : step_at (game.at (c.args.place / (top + 1))) c.args.mv ≡ None = rw c.top.ensures at (sym c.step.ensures ∙ c.in_err-edge.was) in
    c.from_residual.ensures ∙ step_no_fill game (g.V.Vessel.hopper u.vessel.now) c.args.place c.args.mv inside none

pub map_or-target-requires : goal.map_or-target-requires
map_or-target-requires g c = λ level is.
    let u = c.args.self.now in
    let game = g.B.Board.game u.board.now in
    let v = g.V.Vessel.hopper u.vessel.now in
    let e = c.in_ok-edge.edge in
    let inside : c.args.place < spill_number game v.top = omega (arith, c.spill-spill.ensures) in
    let small = within_fills game v c.args.place inside in
    let some : step_at (game.at (c.args.place / (v.top + 1))) c.args.mv ≡ Some e = rw c.top.ensures at (sym c.step.ensures ∙ c.in_ok-edge.was) in
    let target = step_inside game (g.B.Board.formed u.board.now) (c.args.place / (v.top + 1)) c.args.mv e some in
    let f : SFits w32 e.amount = search rules in
    let poured : c.pour.result ≡ v.table (c.args.place % (c.top.result + 1)) e.amount = simp to_z-of_z at c.pour.ensures in
    let low : level ≤ v.top = (g.V.Vessel.keeps u.vessel.now).within (c.args.place % (c.top.result + 1)) e.amount level (sym poured ∙ is) in
    let number = number_of game v e.target level target low in
    let fits : e.target * (c.top.result + 1) + level < 4294967296 = rw c.top.ensures (omega arith) in
    search rules

pub returns : goal.returns
returns g c =
    let u = c.args.self.now in
    let game = g.B.Board.game u.board.now in
    let v = g.V.Vessel.hopper u.vessel.now in
    let e = c.in_ok-edge.edge in
    let inside : c.args.place < spill_number game v.top = omega (arith, c.spill-spill.ensures) in
    let small = within_fills game v c.args.place inside in
    let some : step_at (game.at (c.args.place / (v.top + 1))) c.args.mv ≡ Some e = rw c.top.ensures at (sym c.step.ensures ∙ c.in_ok-edge.was) in
    let f : SFits w32 e.amount = search rules in
    let poured : c.pour.result ≡ v.table (c.args.place % (v.top + 1)) e.amount = rw c.top.ensures at (simp to_z-of_z at c.pour.ensures) in
    let spilt : c.spill-spill.result ≡ spill game v.top = c.spill-spill.ensures ∙ small_spill game v small.0 in
    let led : MatchOption c.pour.result (c.map_or-target.result ≡ c.spill-spill.result) (λ level. c.map_or-target.result ≡ e.target * (c.top.result + 1) + level) = search rules in
    let number : c.map_or-target.result ≡ landing game v.top e.target (v.table (c.args.place % (v.top + 1)) e.amount) =
    rw (← poured) (landed game v e.target c.map_or-target.result c.spill-spill.result c.top.result c.pour.result spilt c.top.ensures led) in
    ap (λ (n : ℕ). Some (record { target = n; amount = pos 0 })) number ∙ step_fill game v c.args.place c.args.mv e inside some
