use Rattle.std.proofs.Common.{◌≡◌, ℕ, true, List, is_ok, Ok, Err, Result, sym, refl, ap, ◌∙◌, subst, rules}
use Rattle.std.specs.Result.{IsOk}
use Rattle.std.proofs.lemmas.Bool.{false≢true}
use Rattle.hopper.specs.declared.Fault.{Fault}
use Rattle.hopper.specs.Refusing.{Answers}
use Rattle.lineformat.specs.Format.{line_of}
use Rattle.lineformat.specs.Checks.{accepts, read_checks, trailer_checks, size_checks, field_checks, number_checks, record_checks}
use Rattle.lineformat.proofs.Spelt.{built_in_file}
use Rattle.linefile.specs.declared.FileLine.{FileLine}
use Rattle.linefile.specs.Held.{file_of}
use Rattle.linefile.proofs.FileLine.built_in.Goals as goal

built_in_accepted : accepts built_in_file ≡ true
unfolding read_checks trailer_checks size_checks field_checks number_checks record_checks line_of
built_in_accepted = refl

accepted : (bs : List ℕ) (r : Result FileLine Fault) → bs ≡ built_in_file → Answers (read_checks bs) (λ b. file_of b ≡ bs) (Unit {0}) r → IsOk r
accepted bs (Ok b) e a = search rules
accepted bs (Err f) e a = absurd (false≢true (sym (ap is_ok a.0) ∙ ap accepts e ∙ built_in_accepted))

pub unwrap-requires : goal.unwrap-requires
unwrap-requires c = accepted c.as_slice.result.now c.try_from.result c.as_slice.ensures c.try_from.ensures

pub returns : goal.returns
unfolding line_of
returns c =
    let bs = c.as_slice.result.now in
    let a = subst (λ (r : Result FileLine Fault). Answers (read_checks bs) (λ b. file_of b ≡ bs) (Unit {0}) r) c.unwrap.ensures c.try_from.ensures in
    ap line_of (a.1 ∙ c.as_slice.ensures)
