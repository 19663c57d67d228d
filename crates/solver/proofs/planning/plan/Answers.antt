use Rattle.std.proofs.Common.{◌≡◌, length, Ok, rules}
use Rattle.hopper.specs.declared.Layer.TheVariants.{Rest}
use Rattle.hopper.specs.declared.Refusal.TheVariants.{NoMoveServes}
use Rattle.hopper.specs.Faults.{fault}
use Rattle.hopper.specs.Refusing.{verdict}
use Rattle.solver.proofs.Following.{asked, found_answer, found_served, planned_runs_are_poured}
use Rattle.solver.proofs.planning.plan.Goals as goal

pub returns-in_err-pass-clause-runs : goal.returns-in_err-pass-clause-runs
returns-in_err-pass-clause-runs g c =
    let board = c.args.board.now in
    let vessel = c.args.vessel.now in
    planned_runs_are_poured (g.B.Board.game board) (g.B.Board.formed board) (g.V.Vessel.hopper vessel) (g.V.Vessel.keeps vessel) c.args.row.now

pub returns : goal.returns
returns g c =
    let board = c.args.board.now in
    let vessel = c.args.vessel.now in
    let game = g.B.Board.game board in
    let formed = g.B.Board.formed board in
    let v = g.V.Vessel.hopper vessel in
    let keeps = g.V.Vessel.keeps vessel in
    let row = c.args.row.now in
    let p = c.args.place in
    let need = g.V.Graded.need vessel in
    let graded = g.met.V.Graded.graded vessel in
    let h : verdict (asked game (length row) p) ≡ Ok tt = search rules in
    let o = c.first_serving.result in
    let found = c.first_serving.ensures in
    record {
      answer = rw c.ok_or.ensures.value (found_answer game formed v keeps need graded row p o found h);
      served = rw c.ok_or.ensures.value (found_served game formed v keeps need graded row p o (fault NoMoveServes Rest p) found);
      runs = planned_runs_are_poured game formed v keeps row;
    }
