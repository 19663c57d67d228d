-- What the tests of the checks say, of draws and kinds too.
use Rattle.std.proofs.Common.{◌≡◌, ℕ, zero, suc, ◌≤◌, Bool, true, false, cond, not, eqb, leb, Ok, Err, Result, sym, refl, ap, ◌∙◌, ⊎_elim, le_of_suc-le-suc, not-suc-le-zero, arith}
use Rattle.std.specs.Int.{is_in_range, IsInRange}
use Rattle.std.specs.Result.{IsOk}
use Rattle.std.proofs.lemmas.Bool.{cases_eq, cond-true, cond-false, true≢false, leb-true, le-leb, and_from, and_parts, eq-eqb, ne_eqb, eqb-true, not-false}
use Rattle.lineformat.specs.declared.Kind.{Kind}
use Rattle.lineformat.specs.declared.Kind.TheVariants.{Lip, Closed, Drawn}
use Rattle.lineformat.specs.declared.UnknownKind.{UnknownKind}
use Rattle.lineformat.specs.Kinds.{NamesKind}
use Rattle.lineformat.specs.Limits.{last_kind, drawn_kind, most_draw}
use Rattle.lineformat.specs.WellFormed.{SoundDraw}
use Rattle.lineformat.specs.Checks.{bad_draw}

pub within : (low high n : ℕ) → IsInRange low high n → not (is_in_range low high n) ≡ false
within low high n h = ap not (and_from (leb low n) (leb n high) (le-leb low n h.0) (le-leb n high h.1))

pub not_outside : (low high n : ℕ) → not (is_in_range low high n) ≡ false → IsInRange low high n
not_outside low high n e = let p = and_parts (leb low n) (leb n high) (not-false _ e) in (leb-true low n p.0, leb-true n high p.1)

pub equal_no : (a b : ℕ) → a ≡ b → not (eqb a b) ≡ false
equal_no a b e = ap not (eq-eqb a b e)

pub no_equal : (a b : ℕ) → not (eqb a b) ≡ false → a ≡ b
no_equal a b e = eqb-true a b (not-false (eqb a b) e)

pub draw_sound : (kind draw : ℕ) → bad_draw kind draw ≡ false → SoundDraw kind draw
draw_sound kind draw e = (
  λ k. not_outside 1 most_draw draw (sym (cond-true (eqb kind drawn_kind) (not (is_in_range 1 most_draw draw)) (not (eqb draw 0)) (eq-eqb kind drawn_kind k)) ∙ e),
  λ k. no_equal draw 0 (sym (cond-false (eqb kind drawn_kind) (not (is_in_range 1 most_draw draw)) (not (eqb draw 0)) (ne_eqb kind drawn_kind k)) ∙ e),
)

pub draw_good : (kind draw : ℕ) → SoundDraw kind draw → bad_draw kind draw ≡ false
draw_good kind draw s = by (eqb kind drawn_kind) refl
  where
    by : (b : Bool) → eqb kind drawn_kind ≡ b → cond b (not (is_in_range 1 most_draw draw)) (not (eqb draw 0)) ≡ false
    by true e = let q = s.0 (eqb-true kind drawn_kind e) in within 1 most_draw draw q
    by false e = equal_no draw 0 (s.1 (λ k. true≢false (sym (eq-eqb kind drawn_kind k) ∙ e)))

-- a sound draw is small, whatever the kind
pub draw_small : (kind draw : ℕ) → SoundDraw kind draw → draw ≤ most_draw
draw_small kind draw s = ⊎_elim (λ e. (s.0 e).1) (λ n. let z : draw ≡ 0 = s.1 n in omega arith) (cases_eq kind drawn_kind)

-- a number up to the highest of a kind names a kind
pub kind_named : (n : ℕ) → n ≤ last_kind → (r : Result Kind UnknownKind) → NamesKind n r → IsOk r
kind_named n h (Ok k) a = refl
kind_named zero h (Err e) a = absurd (a.1 Lip refl)
kind_named (suc zero) h (Err e) a = absurd (a.1 Closed refl)
kind_named (suc (suc zero)) h (Err e) a = absurd (a.1 Drawn refl)
kind_named (suc (suc (suc n))) h (Err e) a = absurd (not-suc-le-zero (le_of_suc-le-suc (le_of_suc-le-suc h)))
