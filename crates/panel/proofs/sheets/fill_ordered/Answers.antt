use Rattle.std.proofs.Common.{arith, rules}
use Rattle.hopper.specs.Any.{any_hopper}
use Rattle.lineformat.specs.Games.{game_of}
use Rattle.linefile.specs.Held.{line_held}
use Rattle.panel.specs.Sheets.{OrderedRow}
use Rattle.panel.proofs.Filled.{one_more, front_filled}
use Rattle.panel.proofs.sheets.fill_ordered.Goals as goal

pub loop-place-preserved : goal.loop-place-preserved
loop-place-preserved c =
    one_more (OrderedRow (game_of (line_held c.args.line.now)) (any_hopper c.args.vessel.now) c.args.marks.now)
    c.loop-place.place _ c.loop-place.row-items c.ordered_row.result (omega arith) c.loop-place.invariant c.ordered_row.ensures

pub returns : goal.returns
returns c =
    front_filled (OrderedRow (game_of (line_held c.args.line.now)) (any_hopper c.args.vessel.now) c.args.marks.now)
    (game_of (line_held c.args.line.now)).places c.places-places.result c.args.rows.now c.loop-place.row-items (search rules) (search rules) (search rules)
