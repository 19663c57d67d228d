use Rattle.std.proofs.Common.{◌≡◌, List, ◌++◌, length, take, is_ok, sym, refl, ap, ◌∙◌}
use Rattle.std.proofs.lemmas.List.{take_at}
use Rattle.lineformat.specs.declared.MoveRecord.{MoveRecord}
use Rattle.lineformat.specs.declared.PlaceRecord.{PlaceRecord}
use Rattle.lineformat.specs.Format.{Line, line_of}
use Rattle.lineformat.proofs.Encoded.{same_line}
use Rattle.lineformat.proofs.Laws.{writes_again}
use Rattle.lineformat.proofs.Sound.{tables_fit}
use Rattle.linefile.specs.Held.{retabled}
use Rattle.linefile.proofs.FileLine.unpack.Goals as goal

-- the first records of filled tables are those of the line
same_records : (l : Line) (ps : List PlaceRecord) (ms : List MoveRecord) (ps' : List PlaceRecord) (ms' : List MoveRecord)
    → ps ≡ l.places ++ ps' → ms ≡ l.moves ++ ms' → retabled l ps ms ≡ l
same_records l ps ms ps' ms' e f =
    same_line l (retabled l ps ms)
    (ap (take (length l.places)) e ∙ take_at l.places ps' (length l.places) refl)
    (ap (take (length l.moves)) f ∙ take_at l.moves ms' (length l.moves) refl)
    refl refl refl refl

pub fill-requires : goal.fill-requires
fill-requires c =
    (tables_fit (line_of c.args.self.now.file.bytes.now) (length c.args.places.now) (length c.args.moves.now) (ap is_ok (sym c.in_ok-check_tables.ensures))).0

pub fill-requires-2 : goal.fill-requires-2
fill-requires-2 c =
    (tables_fit (line_of c.args.self.now.file.bytes.now) (length c.args.places.now) (length c.args.moves.now) (ap is_ok (sym c.in_ok-check_tables.ensures))).1

pub returns-clause-again : goal.returns-clause-again
returns-clause-again c = λ _.
    let b = c.args.self.now in
    let bs = b.file.bytes.now in
    let l = line_of bs in
    writes_again bs b.formed b.written (retabled l c.fill.new.table c.fill-2.new.table)
    (same_records l c.fill.new.table c.fill-2.new.table _ _ c.fill.ensures c.fill-2.ensures)
