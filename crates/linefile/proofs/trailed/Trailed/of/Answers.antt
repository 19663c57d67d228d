use Rattle.std.proofs.Common.{◌≡◌, ℕ, List, length, is_ok, Ok, sym, ap, ◌∙◌, arith}
use Rattle.hopper.specs.Faults.{Check}
use Rattle.hopper.specs.Refusing.{verdict}
use Rattle.lineformat.specs.declared.Numbers.{Numbers}
use Rattle.lineformat.specs.Format.{trailer, numbers_in}
use Rattle.lineformat.specs.Checks.{size_checks, field_checks, trailer_checks}
use Rattle.lineformat.proofs.Sound.{trailer_sound, parts_of}
use Rattle.linefile.specs.declared.trailed.Trailer.{Trailer}
use Rattle.linefile.proofs.Answering.{first_refused, second_refused, both_pass}
use Rattle.linefile.proofs.trailed.Trailed.of.Goals as goal

-- what the trailer says is checked after the size
abbrev said : List ℕ → List Check
said bs = field_checks (trailer bs) bs

passed : (bs : List ℕ) (t : Trailer) → (verdict (size_checks bs) ≡ Ok tt) × (t.file.now ≡ bs) → Ok tt ≡ verdict (said t.file.now) → verdict (trailer_checks bs) ≡ Ok tt
unfolding trailer_checks
passed bs t e v = both_pass (size_checks bs) (said bs) e.0 (ap (λ x. verdict (said x)) (sym e.1) ∙ sym v)

pub returns-in_err-trailer : goal.returns-in_err-trailer
unfolding trailer_checks
returns-in_err-trailer c =
    let bs = c.args.file.now in
    first_refused (size_checks bs) (said bs) _ (Unit {0}) c.from_residual.result c.in_err-trailer.field-0.0 c.from_residual.ensures.1 (sym c.in_err-trailer.ensures.0) tt

pub returns-in_err-check : goal.returns-in_err-check
unfolding trailer_checks
returns-in_err-check c =
    let bs = c.args.file.now in
    let t = c.in_ok-trailer.ensures in
    second_refused (size_checks bs) (said bs) _ (Unit {0}) c.from_residual-in_err-check.result c.in_err-check.field-0.0 c.from_residual-in_err-check.ensures.1 t.0 (c.in_err-check.ensures ∙ ap (λ x. verdict (said x)) t.1) tt

pub invariant_of-result : goal.invariant_of-result
invariant_of-result c =
    let bs = c.args.file.now in
    let t = c.in_ok-trailer.ensures in
    let s = trailer_sound bs (ap is_ok (passed bs c.in_ok-trailer.trailer t c.in_ok-check.ensures)) in
    let e = c.numbers-numbers.ensures.value ∙ ap numbers_in t.1 in
    let n = ap (λ (n : Numbers). n.places) e in
    let m = ap (λ (n : Numbers). n.moves) e in
    let l = ap length t.1 in
    record { parts = parts_of bs _ _ _ s e (omega arith) (omega arith) }
