use Rattle.std.proofs.Common.{◌≡◌, ℕ, cond, eqb, List, ◌++◌, length, codes, decimal, subst}
use Rattle.std.specs.Fmt.{HasWritten}
use Rattle.lineformat.specs.declared.Kind.TheVariants.{Lip, Closed}
use Rattle.lineformat.specs.Format.{Line}
use Rattle.lineformat.specs.Kinds.{kind_number}
use Rattle.linefile.specs.Held.{line_held}
use Rattle.linefile.specs.Texts.{line_text}
use Rattle.linefile.proofs.printing.FileLineDisplay.fmt.Goals as goal

-- the row made of the numbers that were asked for
abbrev vessel : ℕ → ℕ → ℕ → List ℕ
vessel k t d =
    cond (eqb k (kind_number Lip)) (codes "lip " ++ decimal t)
    (cond (eqb k (kind_number Closed)) (codes "closed " ++ decimal t) (codes "drawn " ++ (decimal t ++ (codes " " ++ decimal d))))

abbrev row : ℕ → ℕ → ℕ → ℕ → ℕ → List ℕ
row n m k t d = codes "line " ++ (decimal n ++ (codes " places " ++ (decimal m ++ (codes " moves " ++ vessel k t d))))

same_row : (l : Line) (n m k t d : ℕ) → n ≡ length l.places → m ≡ length l.moves → k ≡ l.kind → t ≡ l.top → d ≡ l.draw → row n m k t d ≡ line_text l
same_row l n m k t d e1 e2 e3 e4 e5 = cc

pub returns-in-Lip-clause-writes : goal.returns-in-Lip-clause-writes
returns-in-Lip-clause-writes g c = λ plain ok.
    subst (λ (bs : List ℕ). HasWritten g.W.Write.write_str_gives c.args.f.now bs c.write.new.self)
    (same_row (line_held c.args.self.now) c.place_count-places.result c.move_count-moves.result 0 c.top-top.result c.draw-draw.result
    c.place_count-places.ensures c.move_count-moves.ensures c.in-Lip.ensures c.top-top.ensures c.draw-draw.ensures)
    (c.write.ensures.writes plain ok)

pub returns-in-Closed-clause-writes : goal.returns-in-Closed-clause-writes
returns-in-Closed-clause-writes g c = λ plain ok.
    subst (λ (bs : List ℕ). HasWritten g.W.Write.write_str_gives c.args.f.now bs c.write-in-Closed.new.self)
    (same_row (line_held c.args.self.now) c.place_count-places.result c.move_count-moves.result 1 c.top-top.result c.draw-draw.result
    c.place_count-places.ensures c.move_count-moves.ensures c.in-Closed.ensures c.top-top.ensures c.draw-draw.ensures)
    (c.write-in-Closed.ensures.writes plain ok)

pub returns-in-Drawn-clause-writes : goal.returns-in-Drawn-clause-writes
returns-in-Drawn-clause-writes g c = λ plain ok.
    subst (λ (bs : List ℕ). HasWritten g.W.Write.write_str_gives c.args.f.now bs c.write-in-Drawn.new.self)
    (same_row (line_held c.args.self.now) c.place_count-places.result c.move_count-moves.result 2 c.top-top.result c.draw-draw.result
    c.place_count-places.ensures c.move_count-moves.ensures c.in-Drawn.ensures c.top-top.ensures c.draw-draw.ensures)
    (c.write-in-Drawn.ensures.writes plain ok)
