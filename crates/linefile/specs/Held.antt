-- The file that a line stands on, the line it holds, and its names.
use Rattle.std.specs.Prelude.{◌≡◌, ℕ, true, List, length, take, drop, Some, None, Option}
use Rattle.std.specs.Option.{option_map}
use Rattle.hopper.specs.Refusing.{passes}
use Rattle.lineformat.specs.declared.MoveRecord.{MoveRecord}
use Rattle.lineformat.specs.declared.PlaceRecord.{PlaceRecord}
use Rattle.lineformat.specs.Format.{Line, line_of, encode}
use Rattle.lineformat.specs.Checks.{write_checks}
use Rattle.lineformat.specs.declared.Kind.TheVariants.{Lip, Closed, Drawn}
use Rattle.lineformat.specs.Kinds.{kind_number}
use Rattle.hopper.specs.declared.any.AnyVessel.{AnyVessel}
use Rattle.hopper.specs.declared.any.AnyVessel.TheVariants.{OfLip, OfClosed, OfDrawn}
use Rattle.linefile.specs.declared.FileLine.{FileLine}
use Rattle.linefile.specs.declared.Name.{Name}

-- the bytes of the file that a line stands on
abbrev pub file_of : FileLine → List ℕ
file_of b = b.file.bytes.now

-- the line that the file of a line spells
abbrev pub line_held : FileLine → Line
line_held b = line_of (file_of b)

-- a name that was handed out, by its letters and its offset
abbrev pub named : Option Name → Option (List ℕ × ℕ)
named o = option_map (λ n. (n.text.now, n.offset)) o

-- a name that was handed out is the part of the file that begins at its offset
abbrev pub PartOf : List ℕ → Option Name → Type 0
PartOf file None = Unit {0}
PartOf file (Some n) = n.text.now ≡ take (length n.text.now) (drop n.offset file)

-- the line of the first records of two tables, as many as a line has, with its names and its vessel
abbrev pub retabled : Line → List PlaceRecord → List MoveRecord → Line
retabled l ps ms = record {
  places = take (length l.places) ps;
  moves = take (length l.moves) ms;
  names = l.names;
  kind = l.kind;
  top = l.top;
  draw = l.draw;
}

-- a line is written where there is room for the file, and what is written is the file again
abbrev pub WritesAgain : List ℕ → Line → Type 0
WritesAgain file l = (passes (write_checks l (length file)) ≡ true) × (encode l ≡ file)

-- the vessel is the one that the line names: of its kind, with its top, and with its draw where it has one
abbrev pub OwnVessel : Line → AnyVessel → Type 0
OwnVessel l (OfLip v) = (l.kind ≡ kind_number Lip) × (v.top.litres ≡ l.top)
OwnVessel l (OfClosed v) = (l.kind ≡ kind_number Closed) × (v.top.litres ≡ l.top)
OwnVessel l (OfDrawn v) = (l.kind ≡ kind_number Drawn) × (v.top.litres ≡ l.top) × (v.draw ≡ l.draw)
