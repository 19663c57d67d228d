use Rattle.hopper.specs.Any.{any_hopper}
use Rattle.lineformat.specs.Games.{game_of}
use Rattle.linefile.specs.Held.{line_held}
use Rattle.panel.specs.Sheets.{RowsFilled, OrderedRow}
use Rattle.panel.proofs.sheets.fill_ordered.Given as goal

-- the rows before this place are filled
abbrev pub invariant-loop-place : goal.invariant-loop-place
invariant-loop-place l =
    RowsFilled l.place (OrderedRow (game_of (line_held l.line)) (any_hopper l.vessel) l.marks) l.initial.row-items l.row-items
