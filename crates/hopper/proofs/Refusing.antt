-- Tables of checks: where they pass, where they stop, and one table after another.
use Rattle.std.proofs.Common.{◌≡◌, Bool, true, false, List, [], ◌∷◌, ◌++◌, is_ok, ℕ, Option, is_some, Some, None, IsErrAnd, Ok, Err, Result, sym, refl, ap, ◌∙◌}
use Rattle.std.specs.Result.{result_and}
use Rattle.std.specs.Bool.{then_some}
use Rattle.std.specs.Option.{option_map}
use Rattle.std.proofs.lemmas.Bool.{false≢true}
use Rattle.hopper.specs.declared.Fault.{Fault}
use Rattle.hopper.specs.Faults.{Check}
use Rattle.hopper.specs.Refusing.{refuse, verdict, passes}

-- none of the checks refuses
abbrev pub NoneFails : List Check → Type 0
NoneFails [] = Unit {0}
NoneFails (c ∷ cs) = (is_some c ≡ false) × NoneFails cs

pub none_fails : (cs : List Check) → passes cs ≡ true → NoneFails cs
none_fails [] e = tt
none_fails (Some f ∷ cs) e = absurd (false≢true e)
none_fails (None ∷ cs) e = (refl, none_fails cs e)

pub all_pass : (cs : List Check) → NoneFails cs → passes cs ≡ true
all_pass [] n = refl
all_pass (Some f ∷ cs) n = absurd (false≢true (sym n.0))
all_pass (None ∷ cs) n = all_pass cs n.1

-- a check that passes: its test is false, or its search has found nothing
pub untrue : (b : Bool) (f : Fault) → is_some (then_some b f) ≡ false → b ≡ false
untrue true f e = e
untrue false f e = e

pub untrue_passes : (b : Bool) (f : Fault) → b ≡ false → is_some (then_some b f) ≡ false
untrue_passes true f e = e
untrue_passes false f e = e

pub unfound : (o : Option ℕ) (f : ℕ → Fault) → is_some (option_map f o) ≡ false → is_some o ≡ false
unfound None f e = e
unfound (Some n) f e = e

pub unfound_passes : (o : Option ℕ) (f : ℕ → Fault) → is_some o ≡ false → is_some (option_map f o) ≡ false
unfound_passes None f e = e
unfound_passes (Some n) f e = e

-- a check whose test is false changes nothing, first or last
pub skipped : {A : Type 0} (b : Bool) (f : Fault) (cs : List Check) (a : A) → b ≡ false → refuse (then_some b f ∷ cs) a ≡ refuse cs a
skipped true f cs a e = absurd (false≢true (sym e))
skipped false f cs a e = refl

pub last_skipped : {A : Type 0} (cs : List Check) (a : A) → refuse (cs ++ (None ∷ [])) a ≡ refuse cs a
last_skipped [] a = refl
last_skipped (Some f ∷ cs) a = refl
last_skipped (None ∷ cs) a = last_skipped cs a

-- a table of two parts passes where both pass
pub passed_both : (cs ds : List Check) → passes (cs ++ ds) ≡ true → (passes cs ≡ true) × (passes ds ≡ true)
passed_both [] ds e = (refl, e)
passed_both (Some f ∷ cs) ds e = absurd (false≢true e)
passed_both (None ∷ cs) ds e = passed_both cs ds e

-- a table of two parts: the first refuses, or the second decides
pub in_turn : {A : Type 0} (cs ds : List Check) (a : A) → refuse (cs ++ ds) a ≡ result_and (verdict cs) (refuse ds a)
in_turn [] ds a = refl
in_turn (Some f ∷ cs) ds a = refl
in_turn (None ∷ cs) ds a = in_turn cs ds a

pub first_refuses : {A : Type 0} (cs ds : List Check) (a : A) (f : Fault) → Err f ≡ verdict cs → Err f ≡ refuse (cs ++ ds) a
first_refuses cs ds a f e = sym (in_turn cs ds a ∙ ap (λ r. result_and r (refuse ds a)) (sym e))

pub second_decides : {A : Type 0} (cs ds : List Check) (a : A) (u : Unit {0}) → Ok u ≡ verdict cs → refuse ds a ≡ refuse (cs ++ ds) a
second_decides cs ds a u e = sym (in_turn cs ds a ∙ ap (λ r. result_and r (refuse ds a)) (sym e))

-- verdicts joined by `and` are the verdict of the joined tables
pub joined_verdicts : (cs ds : List Check) (q r s : Result (Unit {0}) Fault) → q ≡ verdict cs → r ≡ verdict ds → s ≡ result_and q r → s ≡ verdict (cs ++ ds)
joined_verdicts cs ds q r s e f g =
    g ∙ ap (λ x. result_and x r) e ∙ ap (result_and (verdict cs)) f ∙ sym (in_turn cs ds tt)

-- a table that passes
pub passes_is : (cs : List Check) → passes cs ≡ true → verdict cs ≡ Ok tt
passes_is cs e = by (verdict cs) e
  where
    by : (r : Result (Unit {0}) Fault) → is_ok r ≡ true → r ≡ Ok tt
    by (Ok u) e = refl
    by (Err f) e = absurd (false≢true e)

pub pass_both : (cs ds : List Check) → passes cs ≡ true → passes ds ≡ true → passes (cs ++ ds) ≡ true
pass_both cs ds e q = ap is_ok (in_turn cs ds tt ∙ ap (λ r. result_and r (verdict ds)) (passes_is cs e)) ∙ q

-- the answer of a call is the verdict of its checks with the call's own answer
pub answer_is : {A : Type 0} (cs : List Check) (a : A) → refuse cs a ≡ result_and (verdict cs) (Ok a)
answer_is [] a = refl
answer_is (Some f ∷ cs) a = refl
answer_is (None ∷ cs) a = answer_is cs a

-- where the checks pass, the call accepts; where they refuse, it refuses alike
pub accept : {A : Type 0} (cs : List Check) (a : A) (u : Unit {0}) → Ok u ≡ verdict cs → refuse cs a ≡ Ok a
accept cs a u e = answer_is cs a ∙ ap (λ r. result_and r (Ok a)) (sym e)

pub decline : {A : Type 0} (cs : List Check) (a : A) (f : Fault) → Err f ≡ verdict cs → refuse cs a ≡ Err f
decline cs a f e = answer_is cs a ∙ ap (λ r. result_and r (Ok a)) (sym e)

-- a call that accepts has passed its checks
pub accepted_passes : {A : Type 0} (cs : List Check) (a b : A) → Ok b ≡ refuse cs a → passes cs ≡ true
accepted_passes cs a b e = by (verdict cs) (e ∙ answer_is cs a)
  where
    by : (r : Result (Unit {0}) Fault) → Ok b ≡ result_and r (Ok a) → is_ok r ≡ true
    by (Ok u) q = refl
    by (Err f) q = absurd (false≢true (sym (ap is_ok q)))

-- and answers its own answer
pub accepted_is : {A : Type 0} (cs : List Check) (a b : A) → Ok b ≡ refuse cs a → b ≡ a
accepted_is cs a b e = by (verdict cs) (e ∙ answer_is cs a)
  where
    by : (r : Result (Unit {0}) Fault) → Ok b ≡ result_and r (Ok a) → b ≡ a
    by (Ok u) q = cc
    by (Err f) q = absurd (false≢true (sym (ap is_ok q)))

-- what a question mark hands on is the fault it met
pub handed_on : {A : Type 0} (r : Result A Fault) (f : Fault) → IsErrAnd r (λ e. e ≡ f) → r ≡ Err f
handed_on (Ok a) f e = absurd e
handed_on (Err e) f q = ap Err q
