-- Calls that answer by a table of checks in parts.
use Rattle.std.proofs.Common.{◌≡◌, List, ◌++◌, IsErrAnd, Ok, Err, Result, sym, ap, ◌∙◌}
use Rattle.hopper.specs.Faults.{Check}
use Rattle.hopper.specs.declared.Fault.{Fault}
use Rattle.hopper.specs.Refusing.{verdict, Answers}
use Rattle.hopper.proofs.Refusing.{first_refuses, second_decides}

-- a call that hands on a fault of its checks
pub refused : {A : Type 0} (cs : List Check) (P : A → Type 0) (Q : Type 0) (r : Result A Fault) (f : Fault) → IsErrAnd r (λ e. e ≡ f) → Err f ≡ verdict cs → Q → Answers cs P Q r
refused cs P Q (Ok a) f e v q = absurd e
refused cs P Q (Err g) f e v q = (sym v ∙ ap Err (sym e), q)

-- a call that hands on a fault of the first part of its checks, or of the second where the first passes
pub first_refused : {A : Type 0} (cs ds : List Check) (P : A → Type 0) (Q : Type 0) (r : Result A Fault) (f : Fault) → IsErrAnd r (λ e. e ≡ f) → Err f ≡ verdict cs → Q → Answers (cs ++ ds) P Q r
first_refused cs ds P Q r f e v q = refused (cs ++ ds) P Q r f e (first_refuses cs ds tt f v) q

pub second_refused : {A : Type 0} (cs ds : List Check) (P : A → Type 0) (Q : Type 0) (r : Result A Fault) (f : Fault) → IsErrAnd r (λ e. e ≡ f) → verdict cs ≡ Ok tt → Err f ≡ verdict ds → Q → Answers (cs ++ ds) P Q r
second_refused cs ds P Q r f e u v q = refused (cs ++ ds) P Q r f e (v ∙ second_decides cs ds tt tt (sym u)) q

-- both parts pass
pub both_pass : (cs ds : List Check) → verdict cs ≡ Ok tt → verdict ds ≡ Ok tt → verdict (cs ++ ds) ≡ Ok tt
both_pass cs ds u v = sym (second_decides cs ds tt tt (sym u)) ∙ v
