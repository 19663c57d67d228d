-- How a line is printed in one row.
use Rattle.std.specs.Prelude.{ℕ, cond, List, ◌++◌, length, codes, decimal, ◌==◌}
use Rattle.lineformat.specs.declared.Kind.TheVariants.{Lip, Closed}
use Rattle.lineformat.specs.Format.{Line}
use Rattle.lineformat.specs.Kinds.{kind_number}

-- the vessel of a line as it is printed: its kind, its top, and for drawn its draw
abbrev pub vessel_text : Line → List ℕ
vessel_text l =
    cond (l.kind == kind_number Lip) (codes "lip " ++ decimal l.top)
    (cond (l.kind == kind_number Closed) (codes "closed " ++ decimal l.top) (codes "drawn " ++ (decimal l.top ++ (codes " " ++ decimal l.draw))))

-- a line as it is printed: how many places and moves it has, and its vessel
abbrev pub line_text : Line → List ℕ
line_text l =
    codes "line " ++ (decimal (length l.places) ++ (codes " places " ++ (decimal (length l.moves) ++ (codes " moves " ++ vessel_text l))))
