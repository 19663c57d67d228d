-- Sums over places, the cover lemma, and choices under double negation.
use Rattle.std.proofs.Common.{◌≡◌, ℕ, zero, suc, ◌+◌, ◌-◌, ◌*◌, ◌<◌, ◌≤◌, min, map, Some, None, Option, refl, ap, ◌∙◌, subst, arith}
use Rattle.std.specs.List.{sum, range_with_len}
use Rattle.std.proofs.lemmas.List.FromFn.{sum_by-map-range_with_len_more}
use native.Mathlib.Decide.{dec_lt, dec_le}
use Rattle.game.specs.Fill.{IsLeast}
use Rattle.game.proofs.Base.{stable}

-- f 0, f 1 and so on, n of them, added up one by one
abbrev pub sum_below : ℕ → (ℕ → ℕ) → ℕ
sum_below zero f = 0
sum_below (suc n) f = sum_below n f + f n

pub sum_is : (n : ℕ) (f : ℕ → ℕ) → sum (map f (range_with_len 0 n)) ≡ sum_below n f
sum_is zero f = refl
sum_is (suc n) f =
    let next : n + 1 ≡ suc n = omega arith in
    let one_more : sum (map f (range_with_len 0 (n + 1))) ≡ sum (map f (range_with_len 0 n)) + f n = sum_by-map-range_with_len_more (λ x. x) f 0 n n (omega arith) in
    subst (λ (k : ℕ). sum (map f (range_with_len 0 k)) ≡ sum (map f (range_with_len 0 n)) + f n) next one_more ∙ ap (λ (k : ℕ). k + f n) (sum_is n f)

pub sum_le : (n : ℕ) (f h : ℕ → ℕ) → ((y : ℕ) → y < n → f y ≤ h y) → sum_below n f ≤ sum_below n h
sum_le zero f h le = omega arith
sum_le (suc n) f h le = omega (arith, sum_le n f h (λ y lt. le y (omega arith)), le n (omega arith))

pub sum_lt : (n : ℕ) (f h : ℕ → ℕ) → ((y : ℕ) → y < n → f y ≤ h y) → (y : ℕ) → y < n → f y < h y → sum_below n f < sum_below n h
sum_lt zero f h le y lt more = absurd (omega arith)
sum_lt (suc n) f h le y lt more = go (dec_lt y n) (λ below. sum_lt n f h (λ y lt. le y (omega arith)) y below more)
  where
    go : Dec (y < n) → (y < n → sum_below n f < sum_below n h) → sum_below n f + f n < sum_below n h + h n
    go (yes below) ih = omega (arith, ih below, le n (omega arith))
    go (no not) ih =
        let same : y ≡ n = omega arith in
        omega (arith, sum_le n f h (λ y lt. le y (omega arith)), subst (λ (z : ℕ). f z < h z) same more)

pub sum_const : (n k : ℕ) (f : ℕ → ℕ) → ((y : ℕ) → y < n → f y ≤ k) → sum_below n f ≤ n * k
sum_const zero k f le = omega arith
sum_const (suc n) k f le = omega (arith, sum_const n k f (λ y lt. le y (omega arith)), le n (omega arith))

-- intervals of the lengths `len` that cover 1 .. x have x in all
module _ (n : ℕ) (hi len : ℕ → ℕ) (x : ℕ) (cover : (h : ℕ) → 1 ≤ h → h ≤ x → ¬ ¬ ((y : ℕ) × (y < n) × (h ≤ hi y) × (hi y < h + len y))) where
  part : ℕ → ℕ → ℕ
  part k y = min k (hi y) - min k (hi y - len y)

  covered : (k : ℕ) → k ≤ x → k ≤ sum_below n (part k)
  unfolding part
  covered zero le = omega arith
  covered (suc k) le =
      stable (dec_le (suc k) (sum_below n (part (suc k))))
      (λ not. cover (suc k) (omega arith) le (λ w.
      let more : sum_below n (part k) < sum_below n (part (suc k)) =
      sum_lt n (part k) (part (suc k)) (λ y lt. omega arith) w.0 w.1 (omega (arith, w.2, w.3)) in
      let ih : k ≤ sum_below n (part k) = covered k (omega arith) in
      not (omega arith)))

  pub cover_sum : x ≤ sum_below n len
  unfolding part
  cover_sum =
      let a : x ≤ sum_below n (part x) = covered x (omega arith) in
      let b : sum_below n (part x) ≤ sum_below n len = sum_le n (part x) len (λ y lt. omega arith) in
      omega arith

-- ---- under double negation
pub nn_least : (P : ℕ → Type 0) → ¬ ¬ ((o : Option ℕ) × IsLeast P o)
nn_least P k = k (None, λ c pc. below (suc c) c (omega arith) pc)
  where
    below : (c d : ℕ) → d < c → ¬ P d
    below zero d lt pd = absurd (omega arith)
    below (suc c) d lt pd = k (Some d, (pd, λ e lt'. below c e (omega arith)))

patch : (n : ℕ) (f : ℕ → Option ℕ) (o : Option ℕ) (p : ℕ) → Dec (p < n) → Option ℕ
patch n f o p (yes lt) = f p
patch n f o p (no not) = o

pub nn_choice : (n : ℕ) (R : ℕ → Option ℕ → Type 0) → ((p : ℕ) → ¬ ¬ ((o : Option ℕ) × R p o))
    → ¬ ¬ ((f : ℕ → Option ℕ) × ((p : ℕ) → p < n → R p (f p)))
unfolding patch
nn_choice zero R all k = k (λ p. None, λ p lt. absurd (omega arith))
nn_choice (suc n) R all k = nn_choice n R all (λ w. all n (λ v. k (λ p. patch n w.0 v.0 p (dec_lt p n), λ p lt. go w.0 w.1 v.0 v.1 p lt (dec_lt p n))))
  where
    go : (f : ℕ → Option ℕ) → ((p : ℕ) → p < n → R p (f p)) → (o : Option ℕ) → R n o → (p : ℕ) → p < suc n → (d : Dec (p < n)) → R p (patch n f o p d)
    go f rf o ro p lt (yes below) = rf p below
    go f rf o ro p lt (no not) = let same : n ≡ p = omega arith in subst (λ (z : ℕ). R z o) same ro
