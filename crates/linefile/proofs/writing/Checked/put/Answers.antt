use Rattle.std.proofs.Common.{◌≡◌, ℕ, ◌+◌, ◌*◌, List, ◌++◌, length, take, drop, sym, refl, ap, ◌∙◌, arith}
use Rattle.std.specs.List.{flat_map}
use Rattle.std.proofs.lemmas.List.{append_assoc, length-append}
use Rattle.lineformat.specs.Format.{Line, numbers_of, move_bytes, place_bytes, trailer_bytes, encode}
use Rattle.lineformat.specs.Limits.{record_size, trailer_size}
use Rattle.lineformat.proofs.Tables.{put_more, length_joined}
use Rattle.linefile.specs.Tabled.{line_in}
use Rattle.linefile.proofs.writing.Checked.put.Goals as goal

-- the four parts, one after the other
four_parts : (l : Line) (o s1 s2 s3 s4 tb : List ℕ) (m p t : ℕ) → m ≡ length l.names → p ≡ m + length l.moves * record_size → t ≡ p + length l.places * record_size
    → tb ≡ trailer_bytes (numbers_of l)
    → s1 ≡ take 0 o ++ (l.names ++ drop (0 + length l.names) o)
    → s2 ≡ take m s1 ++ (flat_map move_bytes l.moves ++ drop (m + length l.moves * record_size) s1)
    → s3 ≡ take p s2 ++ (flat_map place_bytes l.places ++ drop (p + length l.places * record_size) s2)
    → s4 ≡ take t s3 ++ (tb ++ drop (t + length tb) s3)
    → s4 ≡ encode l ++ drop (length (encode l)) o
unfolding encode
four_parts l o s1 s2 s3 s4 tb m p t em ep et eb e1 e2 e3 e4 =
    let N = l.names in
    let M = flat_map move_bytes l.moves in
    let P = flat_map place_bytes l.places in
    let T = trailer_bytes (numbers_of l) in
    let lm = length_joined move_bytes (λ x. refl) l.moves in
    let lp = length_joined place_bytes (λ x. refl) l.places in
    let l0 : length N ≡ m = sym em in
    let l1 : length (N ++ M) ≡ p = length-append N M ∙ (let z : length N + length M ≡ p = omega arith in z) in
    let l2 : length ((N ++ M) ++ P) ≡ t = length-append (N ++ M) P ∙ (let z : length (N ++ M) + length P ≡ t = omega arith in z) in
    let lt : length tb ≡ trailer_size = ap length eb in
    let a1 : s1 ≡ N ++ drop m o = e1 ∙ ap (λ x. N ++ drop x o) (let z : 0 + length N ≡ m = omega arith in z) in
    let a2 : s2 ≡ (N ++ M) ++ drop p o = e2 ∙ put_more o s1 N M m (length l.moves * record_size) a1 l0 lm ∙ ap (λ x. (N ++ M) ++ drop x o) (sym ep) in
    let a3 : s3 ≡ ((N ++ M) ++ P) ++ drop t o = e3 ∙ put_more o s2 (N ++ M) P p (length l.places * record_size) a2 l1 lp ∙ ap (λ x. ((N ++ M) ++ P) ++ drop x o) (sym et) in
    let a4 : s4 ≡ (((N ++ M) ++ P) ++ tb) ++ drop (t + length tb) o = e4 ∙ put_more o s3 ((N ++ M) ++ P) tb t (length tb) a3 l2 refl in
    let w : ((N ++ M) ++ P) ++ tb ≡ N ++ (M ++ (P ++ T)) = ap (λ x. ((N ++ M) ++ P) ++ x) eb ∙ append_assoc (N ++ M) P T ∙ append_assoc N M (P ++ T) in
    let le : t + length tb ≡ length (N ++ (M ++ (P ++ T))) =
    (let z : t + length tb ≡ length ((N ++ M) ++ P) + length tb = omega arith in z) ∙ sym (length-append ((N ++ M) ++ P) tb) ∙ ap length w in
    a4 ∙ ap (λ x. x ++ drop (t + length tb) o) w ∙ ap (λ x. (N ++ (M ++ (P ++ T))) ++ drop x o) le

pub returns : goal.returns
returns c =
    let l = line_in c.args.self.now.line in
    four_parts l c.args.out.now c.put.new.out c.put_all.new.out c.put_all-2.new.out c.put-2.new.out c.trailer.result
    (length l.names) (length l.names + length l.moves * record_size) (length l.names + length l.moves * record_size + length l.places * record_size)
    refl refl refl c.trailer.ensures c.put.ensures c.put_all.ensures c.put_all-2.ensures c.put-2.ensures
