-- On the marks of an accepted `mark` the lowest fill marked good is the least good fill.
use Rattle.std.proofs.Common.{◌≡◌, ℕ, ◌<◌, Bool, true, false, List, is_some, Some, None, Option, sym, refl, ap, ◌∙◌, subst, arith}
use Rattle.std.proofs.lemmas.Bool.{false≢true, true≢false}
use Rattle.std.specs.Iterator.Runs.{Run}
use Rattle.std.specs.Option.{MatchOption, option_map}
use Rattle.std.specs.Range.{range_inclusive_start, range_inclusive_exhausted}
use Rattle.std.proofs.iter.runs.Sources.{nat_range_inclusive_steps, inclusive_listed}
use Rattle.game.specs.Fill.{Good, IsLeast}
use Rattle.shift.specs.Good.{is_good}
use Rattle.shift.proofs.Served.{called_good, good_called}
use Rattle.solver.specs.Marking.{GoodWhereNever}
use Rattle.solver.proofs.Marks.{never_good}
use Rattle.sheet.specs.Fills.{LeastMarkedGood, LeastGoodByMarks}

-- what a search through the numbers below n finds is the least that passes the test, if none from n on does
pub search_is_least : (test : ℕ → Bool) (n : ℕ) → ((k : ℕ) → test k ≡ true → k < n) → (o : Option ℕ)
    → MatchOption o ((k : ℕ) → k < n → test k ≡ false) (λ c. (test c ≡ true) × ((k : ℕ) → k < c → test k ≡ false)) → IsLeast (λ c. test c ≡ true) o
search_is_least test n small None none = λ c is. true≢false (sym is ∙ none c (small c is))
search_is_least test n small (Some c) one = (one.0, λ d lt is. true≢false (sym is ∙ one.1 d lt))

-- a run over 0 ..= n comes to each number at its place
pub comes_to : (p : Run nat_range_inclusive_steps) → range_inclusive_start p.from ≡ 0 → range_inclusive_exhausted p.from ≡ false → (k : ℕ) → k < p.len → p.at k ≡ Some k
comes_to p start fresh k lt =
    let listed = inclusive_listed p p.seen in
    let up = listed.4 fresh in
    go (p.at k) (up.0.3 k lt ∙ ap Some (omega (arith, listed.2)))
  where
    go : (o : Option ℕ) → option_map (λ x. x) o ≡ Some k → o ≡ Some k
    go None is = absurd (false≢true (ap is_some is))
    go (Some x) is = is

-- by what was found
pub by_found : {P : Type 0} {Q : ℕ → Type 0} (o : Option ℕ) → (o ≡ None → P) → ((c : ℕ) → o ≡ Some c → Q c) → MatchOption o P Q
by_found None none one = none refl
by_found (Some c) none one = one c refl

pub least_good_by_marks : (top : ℕ) (marks : List ℕ) (p : ℕ) (r : Option ℕ) → LeastMarkedGood top marks p r → LeastGoodByMarks top marks p r
least_good_by_marks top marks p r least g wf v keeps same old rounds answered lt = go r (subst (λ (n : ℕ). LeastMarkedGood n marks p r) (sym same) least)
  where
    exact : GoodWhereNever g v marks
    exact = never_good g wf v keeps old marks rounds answered.1

    is : (c : ℕ) → is_good v.top marks p c ≡ true → Good g v.table p c
    is c q = called_good g wf v keeps marks exact p c lt q

    back : (c : ℕ) → Good g v.table p c → is_good v.top marks p c ≡ true
    back c q = good_called g wf v keeps marks exact p c lt q

    go : (o : Option ℕ) → LeastMarkedGood v.top marks p o → IsLeast (Good g v.table p) o
    go None l = λ c good. l c (back c good)
    go (Some c) l = (is c l.0, λ d u good. l.1 d u (back d good))
