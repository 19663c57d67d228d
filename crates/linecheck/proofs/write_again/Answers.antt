use Rattle.std.proofs.Common.{◌≡◌, ℕ, ◌-◌, List, ◌++◌, length, take, drop, is_ok, Ok, Err, Result, sym, refl, ap, ◌∙◌, arith, rules, MatchResult}
use Rattle.hopper.specs.declared.Fault.{Fault}
use Rattle.hopper.specs.Refusing.{refuse, if_accepted}
use Rattle.hopper.proofs.Refusing.{accepted_is}
use Rattle.lineformat.specs.declared.MoveRecord.{MoveRecord}
use Rattle.lineformat.specs.declared.PlaceRecord.{PlaceRecord}
use Rattle.lineformat.specs.Format.{Line, encode}
use Rattle.lineformat.specs.Checks.{write_checks}
use Rattle.lineformat.proofs.Encoded.{same_line}
use Rattle.lineformat.proofs.Sound.{tables_fit}
use Rattle.linefile.specs.Held.{file_of, line_held, retabled}
use Rattle.linecheck.proofs.write_again.Goals as goal

pub slice_bounds-tables-end : goal.slice_bounds-tables-end
slice_bounds-tables-end c =
    let f = tables_fit (line_held c.args.line.now) (length c.args.places.now) (length c.args.moves.now) (ap is_ok (sym c.in_ok-unpack.ensures.answer)) in
    let n = c.place_count-n.ensures in
    search rules

pub slice_bounds-tables-end-2 : goal.slice_bounds-tables-end-2
slice_bounds-tables-end-2 c =
    let f = tables_fit (line_held c.args.line.now) (length c.args.places.now) (length c.args.moves.now) (ap is_ok (sym c.in_ok-unpack.ensures.answer)) in
    let m = c.move_count-m.ensures in
    search rules

-- the line of the tables is the line of the file
same_tables : (l m : Line) (n k : ℕ) → n ≡ length l.places → k ≡ length l.moves → (ps : List PlaceRecord) (ms : List MoveRecord)
    → m.places ≡ take (n - 0) ps → m.moves ≡ take (k - 0) ms → m.names ≡ l.names → m.kind ≡ l.kind → m.top ≡ l.top → m.draw ≡ l.draw → m ≡ retabled l ps ms
same_tables l m n k en ek ps ms a b c d e f =
    same_line (retabled l ps ms) m
    (a ∙ ap (λ x. take x ps) (let z : n - 0 ≡ length l.places = omega arith in z))
    (b ∙ ap (λ x. take x ms) (let z : k - 0 ≡ length l.moves = omega arith in z)) c d e f

-- writing a line whose file is this one writes this file
rewritten : (file out out' : List ℕ) (l : Line) (r : Result ℕ Fault) → encode l ≡ file → r ≡ refuse (write_checks l (length out)) (length (encode l))
    → out' ≡ if_accepted r (encode l ++ drop (length (encode l)) out) out → MatchResult r (λ n. (n ≡ length file) × (out' ≡ file ++ drop n out)) (λ _. out' ≡ out)
rewritten file out out' l (Ok n) e a w =
    let s : n ≡ length (encode l) = accepted_is (write_checks l (length out)) (length (encode l)) n a in
    (s ∙ ap length e, w ∙ ap (λ x. encode l ++ drop x out) (sym s) ∙ ap (λ x. x ++ drop n out) e)
rewritten file out out' l (Err f) e a w = w

pub returns : goal.returns
returns c =
    let l = line_held c.args.line.now in
    let ps = c.unpack.new.places in
    let ms = c.unpack.new.moves in
    let m : Line = record { places = take (c.place_count-n.result - 0) ps; moves = take (c.move_count-m.result - 0) ms; names = c.names.result.now; kind = c.number.result; top = c.top.result; draw = c.draw.result } in
    let s : m ≡ retabled l ps ms = same_tables l m c.place_count-n.result c.move_count-m.result c.place_count-n.ensures c.move_count-m.ensures ps ms refl refl c.names.ensures (c.number.ensures ∙ c.kind.ensures) c.top.ensures c.draw.ensures in
    rewritten (file_of c.args.line.now) c.args.out.now c.write.new.out m c.write.result (ap encode s ∙ (c.in_ok-unpack.ensures.again refl).1) c.write.ensures.answer c.write.ensures.written
