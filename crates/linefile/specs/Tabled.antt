-- The line that tables hold.
use Rattle.lineformat.specs.Format.{Line}
use Rattle.linefile.specs.declared.LineTables.{LineTables}

-- the line that tables hold
abbrev pub line_in : LineTables → Line
line_in t =
    record { places = t.places.now; moves = t.moves.now; names = t.names.now; kind = t.kind; top = t.top; draw = t.draw }
