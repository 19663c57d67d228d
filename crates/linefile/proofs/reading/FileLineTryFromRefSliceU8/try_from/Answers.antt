use Rattle.std.proofs.Common.{◌≡◌, ℕ, true, List, get_or, is_ok, Ok, sym, ap, ◌∙◌, arith}
use Rattle.hopper.specs.Refusing.{verdict}
use Rattle.lineformat.specs.Format.{line_of}
use Rattle.lineformat.specs.Checks.{trailer_checks, record_checks, read_checks, accepts}
use Rattle.lineformat.proofs.Laws.{accepts_just_the_written}
use Rattle.lineformat.proofs.Sound.{accepted_of}
use Rattle.linefile.specs.declared.trailed.Trailed.{Trailed}
use Rattle.linefile.proofs.Answering.{first_refused, second_refused}
use Rattle.linefile.proofs.reading.FileLineTryFromRefSliceU8.try_from.Goals as goal

-- a file whose trailer and whose records pass is accepted
passed : (bs : List ℕ) (t : Trailed) → (verdict (trailer_checks bs) ≡ Ok tt) × (t.bytes.now ≡ bs) → Ok tt ≡ verdict (record_checks (line_of t.bytes.now)) → accepts t.bytes.now ≡ true
passed bs t e v = accepted_of t.bytes.now (ap (λ x. is_ok (verdict (trailer_checks x))) e.1 ∙ ap is_ok e.0) (ap is_ok (sym v))

pub returns-in_err-trailed : goal.returns-in_err-trailed
unfolding read_checks
returns-in_err-trailed c =
    let bs = c.args.file.now in
    first_refused (trailer_checks bs) (record_checks (line_of bs)) _ (Unit {0}) c.from_residual.result c.in_err-trailed.field-0.0 c.from_residual.ensures.1 (sym c.in_err-trailed.ensures.0) tt

pub returns-in_err-check_records : goal.returns-in_err-check_records
unfolding read_checks
returns-in_err-check_records c =
    let bs = c.args.file.now in
    let t = c.in_ok-trailed.ensures in
    second_refused (trailer_checks bs) (record_checks (line_of bs)) _ (Unit {0}) c.from_residual-in_err-check_records.result c.in_err-check_records.field-0.0 c.from_residual-in_err-check_records.ensures.1 t.0
    (c.in_err-check_records.ensures ∙ ap (λ x. verdict (record_checks (line_of x))) t.1) tt

pub invariant_of-result : goal.invariant_of-result
invariant_of-result c =
    let t = c.in_ok-trailed.trailed in
    let a = passed c.args.file.now t c.in_ok-trailed.ensures c.in_ok-check_records.ensures in
    let w = (accepts_just_the_written t.bytes.now (λ i. let f = c.type_inv.file i in let e = ap (λ bs. get_or bs i 0) c.in_ok-trailed.ensures.1 in omega arith)).read_is_written a in
    record { accepted = a; formed = w.0; written = w.1; summed = c.firsts.ensures }
