-- Searches below a bound, and what only grows, until it stops.
use Rattle.std.proofs.Common.{◌≡◌, ℕ, zero, suc, ◌<◌, ◌≤◌, ◌⊎◌, subst, inl, inr, arith}
use native.Mathlib.Decide.{dec_lt}
use Rattle.game.proofs.Sums.{sum_below, sum_lt, sum_const}

-- what holds below n and at n holds below n + 1
below_suc : (P : ℕ → Type 0) (n : ℕ) → ((y : ℕ) → y < n → P y) → P n → (y : ℕ) → y < suc n → P y
below_suc P n all pn y lt = go (dec_lt y n)
  where
    go : Dec (y < n) → P y
    go (yes less) = all y less
    go (no not) = let same : n ≡ y = omega arith in subst P same pn

-- each number below n is P, or one of them is Q
pub search_below : (n : ℕ) (P Q : ℕ → Type 0) → ((y : ℕ) → y < n → P y ⊎ Q y) → ((y : ℕ) → y < n → P y) ⊎ ((y : ℕ) × (y < n) × Q y)
search_below zero P Q each = inl (λ y lt. absurd (omega arith))
search_below (suc n) P Q each = go (search_below n P Q (λ y lt. each y (omega arith))) (each n (omega arith))
  where
    go : ((y : ℕ) → y < n → P y) ⊎ ((y : ℕ) × (y < n) × Q y) → P n ⊎ Q n → ((y : ℕ) → y < suc n → P y) ⊎ ((y : ℕ) × (y < suc n) × Q y)
    go (inr w) e = inr (w.0, omega (arith, w.1), w.2)
    go (inl all) (inr qn) = inr (n, omega arith, qn)
    go (inl all) (inl pn) = inl (below_suc P n all pn)

-- no number below n is P, or there is a least one that is
pub least_below : (P : ℕ → Type 0) → ((i : ℕ) → Dec (P i)) → (n : ℕ)
    → ((i : ℕ) → i < n → ¬ P i) ⊎ ((i : ℕ) × (i < n) × P i × ((j : ℕ) → j < i → ¬ P j))
least_below P dec zero = inl (λ i lt. absurd (omega arith))
least_below P dec (suc n) = go (least_below P dec n) (dec n)
  where
    go : ((i : ℕ) → i < n → ¬ P i) ⊎ ((i : ℕ) × (i < n) × P i × ((j : ℕ) → j < i → ¬ P j)) → Dec (P n)
        → ((i : ℕ) → i < suc n → ¬ P i) ⊎ ((i : ℕ) × (i < suc n) × P i × ((j : ℕ) → j < i → ¬ P j))
    go (inr w) d = inr (w.0, omega (arith, w.1), w.2, w.3)
    go (inl none) (yes p) = inr (n, omega arith, p, none)
    go (inl none) (no not) = inl (below_suc (λ i. ¬ P i) n none not)

-- a number that rises at each step that is no stop, and never above n, stops within n steps
module _ (Stop : ℕ → Type 0) (total : ℕ → ℕ) (look : (j : ℕ) → Stop j ⊎ (total j < total (suc j))) where
  either : (k : ℕ) → ((j : ℕ) × (j < k) × Stop j) ⊎ (k ≤ total k)
  either zero = inr (omega arith)
  either (suc k) = go (either k) (look k)
    where
      go : ((j : ℕ) × (j < k) × Stop j) ⊎ (k ≤ total k) → Stop k ⊎ (total k < total (suc k)) → ((j : ℕ) × (j < suc k) × Stop j) ⊎ (suc k ≤ total (suc k))
      go (inl w) s = inl (w.0, omega (arith, w.1), w.2)
      go (inr le) (inl s) = inl (k, omega arith, s)
      go (inr le) (inr lt) = inr (omega arith)

  stops_within : (n : ℕ) → ((j : ℕ) → total j ≤ n) → (j : ℕ) × (j ≤ n) × Stop j
  stops_within n most = go (either (suc n)) (most (suc n))
    where
      go : ((j : ℕ) × (j < suc n) × Stop j) ⊎ (suc n ≤ total (suc n)) → total (suc n) ≤ n → (j : ℕ) × (j ≤ n) × Stop j
      go (inl w) small = (w.0, omega (arith, w.1), w.2)
      go (inr le) small = absurd (omega arith)

abbrev one_if : {A : Type 0} → Dec A → ℕ
one_if (yes a) = 1
one_if (no n) = 0

-- what is so of some of n numbers, and at each step of no fewer, is so of no more within n steps
module _ (n : ℕ) (A : ℕ → ℕ → Type 0) (dec : (j k : ℕ) → Dec (A j k)) (grow : (j k : ℕ) → A j k → A (suc j) k) where
  abbrev size : ℕ → ℕ
  size j = sum_below n (λ k. one_if (dec j k))

  abbrev Settled : ℕ → Type 0
  Settled j = (k : ℕ) → k < n → A (suc j) k → A j k

  look : (j : ℕ) → Settled j ⊎ (size j < size (suc j))
  look j = elim (search_below n (λ k. A (suc j) k → A j k) (λ k. one_if (dec j k) < one_if (dec (suc j) k)) (λ k lt. more k (dec j k) (dec (suc j) k))) [
    | inl s ↦ inl s
    | inr w ↦ inr (sum_lt n (λ k. one_if (dec j k)) (λ k. one_if (dec (suc j) k)) (λ k lt. no_less k (dec j k) (dec (suc j) k)) w.0 w.1 w.2)
  ]
    where
      more : (k : ℕ) (d : Dec (A j k)) (e : Dec (A (suc j) k)) → (A (suc j) k → A j k) ⊎ (one_if d < one_if e)
      more k (yes a) e = inl (λ b. a)
      more k (no m) (yes b) = inr (omega arith)
      more k (no m) (no m') = inl (λ b. absurd (m' b))

      no_less : (k : ℕ) (d : Dec (A j k)) (e : Dec (A (suc j) k)) → one_if d ≤ one_if e
      no_less k (yes a) (yes b) = omega arith
      no_less k (yes a) (no m) = absurd (m (grow j k a))
      no_less k (no m) e = omega arith

  pub settles : (j : ℕ) × (j ≤ n) × Settled j
  settles = stops_within Settled size look n (λ j. omega (arith, sum_const n 1 (λ k. one_if (dec j k)) (λ k lt. at_most (dec j k))))
    where
      at_most : {B : Type 0} (d : Dec B) → one_if d ≤ 1
      at_most (yes a) = omega arith
      at_most (no m) = omega arith
