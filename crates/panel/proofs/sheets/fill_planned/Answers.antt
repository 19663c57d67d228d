use Rattle.std.proofs.Common.{arith, rules}
use Rattle.lineformat.specs.Games.{game_of}
use Rattle.linefile.specs.Held.{line_held}
use Rattle.panel.specs.Sheets.{PlannedRow}
use Rattle.panel.proofs.Filled.{one_more, front_filled}
use Rattle.panel.proofs.sheets.fill_planned.Goals as goal

pub loop-place-preserved : goal.loop-place-preserved
loop-place-preserved g c =
    one_more (PlannedRow (game_of (line_held c.args.line.now)) (g.V.Vessel.hopper c.args.vessel.now) c.args.least.now)
    c.loop-place.place _ c.loop-place.row-items c.planned_row.result (omega arith) c.loop-place.invariant c.planned_row.ensures

pub returns : goal.returns
returns g c =
    front_filled (PlannedRow (game_of (line_held c.args.line.now)) (g.V.Vessel.hopper c.args.vessel.now) c.args.least.now)
    (game_of (line_held c.args.line.now)).places c.places-places.result c.args.rows.now c.loop-place.row-items (search rules) (search rules) (search rules)
