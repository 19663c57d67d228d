-- The search for the first good move, and what it finds.
use Rattle.std.proofs.Common.{◌≡◌, ℕ, zero, suc, ◌+◌, ◌<◌, ◌≤◌, Bool, true, false, not, ◌||◌, List, [], ◌∷◌, length, is_some, Some, None, Option, sym, refl, ◌∙◌, subst, inl, inr, arith, below_more}
use Rattle.std.specs.List.{slice_get, list_any}
use Rattle.std.specs.Option.{option_map_or}
use Rattle.std.proofs.lemmas.Bool.{true≢false, false≢true, cases_lt, or_parts, or_from, or_left, or_right}
use Rattle.game.specs.declared.Edge.{Edge}
use Rattle.game.specs.Game.{Place}
use Rattle.game.proofs.Base.{none_some, some_inj}
use Rattle.hopper.specs.Boards.{step_at}
use Rattle.hopper.proofs.Boards.{nth_below, nth_there}

-- a test whether nothing is there
pub none_there : {A : Type 0} (o : Option A) → not (is_some o) ≡ true → o ≡ None
none_there None is = refl
none_there (Some x) is = absurd (false≢true is)

pub some_there : {A : Type 0} (o : Option A) → not (is_some o) ≡ false → (x : A) × (o ≡ Some x)
some_there None is = absurd (true≢false is)
some_there (Some x) is = (x, refl)

module _ (test : Edge → Bool) where
  each_fails : (es : List Edge) → list_any test es ≡ false → (m : ℕ) (e : Edge) → slice_get es m ≡ Some e → test e ≡ false
  each_fails [] none m e is = absurd (none_some is)
  each_fails (x ∷ es) none zero e is = subst (λ (y : Edge). test y ≡ false) (some_inj is) (or_parts (test x) (list_any test es) none).0
  each_fails (x ∷ es) none (suc m) e is = each_fails es (or_parts (test x) (list_any test es) none).1 m e is

  none_passes : (es : List Edge) → ((m : ℕ) (e : Edge) → slice_get es m ≡ Some e → test e ≡ false) → list_any test es ≡ false
  none_passes [] fails = refl
  none_passes (x ∷ es) fails = or_from (test x) (list_any test es) (fails 0 x refl) (none_passes es (λ m e is. fails (suc m) e is))

  one_passes : (es : List Edge) (m : ℕ) (e : Edge) → slice_get es m ≡ Some e → test e ≡ true → list_any test es ≡ true
  one_passes [] m e is good = absurd (none_some is)
  one_passes (x ∷ es) zero e is good = or_left (test x) (list_any test es) (subst (λ (y : Edge). test y ≡ true) (sym (some_inj is)) good)
  one_passes (x ∷ es) (suc m) e is good = or_right (test x) (list_any test es) (one_passes es m e is good)

  -- there is a first element that passes
  abbrev FirstOf : List Edge → Type 0
  FirstOf es = (m : ℕ) × (e : Edge) × (slice_get es m ≡ Some e) × (test e ≡ true) × ((k : ℕ) → k < m → (y : Edge) → slice_get es k ≡ Some y → test y ≡ false)

  first_of : (es : List Edge) → list_any test es ≡ true → FirstOf es
  first_of [] some = absurd (false≢true some)
  first_of (x ∷ es) some = by (test x) refl some (first_of es)
    where
      by : (b : Bool) → test x ≡ b → (b || list_any test es) ≡ true → (list_any test es ≡ true → FirstOf es) → FirstOf (x ∷ es)
      by true told some rest = (0, x, refl, told, λ k lt y is. absurd (omega arith))
      by false told some rest = let w = rest some in (suc w.0, w.1, w.2, w.3, later w.0 w.4)
        where
          later : (m : ℕ) → ((k : ℕ) → k < m → (y : Edge) → slice_get es k ≡ Some y → test y ≡ false)
              → (k : ℕ) → k < suc m → (y : Edge) → slice_get (x ∷ es) k ≡ Some y → test y ≡ false
          later m before zero lt y is = subst (λ (z : Edge). test z ≡ false) (some_inj is) told
          later m before (suc k) lt y is = before k (omega arith) y is

  -- some move of what stands at a place number passes
  abbrev pub some_passes : Option Place → Bool
  some_passes at = option_map_or (λ q. list_any test q.moves) at false

  -- no move before m passes
  abbrev pub Passed : Option Place → ℕ → Type 0
  Passed at m = (k : ℕ) → k < m → (e : Edge) → step_at at k ≡ Some e → test e ≡ false

  -- where no move passes, each of them fails
  pub all_fail : (at : Option Place) → some_passes at ≡ false → (m : ℕ) (e : Edge) → step_at at m ≡ Some e → test e ≡ false
  all_fail None none m e is = absurd (none_some is)
  all_fail (Some q) none m e is = each_fails q.moves none m e is

  -- where some move passes, there is a first
  pub first_there : (at : Option Place) → some_passes at ≡ true → (m : ℕ) × (e : Edge) × (step_at at m ≡ Some e) × (test e ≡ true) × Passed at m
  first_there None some = absurd (false≢true some)
  first_there (Some q) some = first_of q.moves some

  pub passed_more : (at : Option Place) (m : ℕ) → Passed at m → (e : Edge) → step_at at m ≡ Some e → test e ≡ false → Passed at (m + 1)
  passed_more at m passed e is fails =
      below_more (λ (k : ℕ). (y : Edge) → step_at at k ≡ Some y → test y ≡ false) m passed
      (λ y here. subst (λ (z : Edge). test z ≡ false) (some_inj (sym is ∙ here)) fails)

  pub some_found : (at : Option Place) (m : ℕ) (e : Edge) → step_at at m ≡ Some e → test e ≡ true → some_passes at ≡ true
  some_found None m e is good = absurd (none_some is)
  some_found (Some q) m e is good = one_passes q.moves m e is good

  pub none_found : (at : Option Place) (m : ℕ) → Passed at m → step_at at m ≡ None → some_passes at ≡ false
  none_found None m passed none = refl
  none_found (Some q) m passed none =
      none_passes q.moves (λ k e is. passed k (let lt = nth_below q.moves k e is in omega (arith, past)) e is)
    where
      past : length q.moves ≤ m
      past = elim (cases_lt m (length q.moves)) [ inl lt ↦ absurd (nth_there q.moves m lt none) | inr le ↦ le ]
