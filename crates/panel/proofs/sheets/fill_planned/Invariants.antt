use Rattle.lineformat.specs.Games.{game_of}
use Rattle.linefile.specs.Held.{line_held}
use Rattle.panel.specs.Sheets.{RowsFilled, PlannedRow}
use Rattle.panel.proofs.sheets.fill_planned.Given as goal

-- the rows before this place are filled
abbrev pub invariant-loop-place : goal.invariant-loop-place
invariant-loop-place g l =
    RowsFilled l.place (PlannedRow (game_of (line_held l.line)) (g.V.Vessel.hopper l.vessel) l.least) l.initial.row-items l.row-items
