-- A search for the first bad item of a list: what it says, and the search over numbers that finds the same; and sums over numbers.
use Rattle.std.proofs.Common.{◌≡◌, ℕ, zero, suc, ◌+◌, ◌<◌, ◌≤◌, Bool, true, false, cond, ltb, List, [], ◌∷◌, length, get_or, take, is_some, Some, None, sym, refl, ap, ◌∙◌, arith}
use Rattle.std.specs.List.{All, fold, find, position, position_or_len, position_from, sum_by, range_with_len}
use Rattle.std.proofs.lemmas.Bool.{le-ltb, ltb-false, true≢false}
use Rattle.std.proofs.lemmas.Iterator.Adapters.{position_from-zero}
use Rattle.std.proofs.lemmas.List.Sums.{fails_before_first, position_or_len_is, sum_by_more}

-- where no item is found, none is bad; and the other way round
pub none_bad : {X : Type 0} (bad : X → Bool) (P : X → Type 0) → ((x : X) → bad x ≡ false → P x) → (xs : List X) → is_some (position bad xs) ≡ false → All P xs
none_bad bad P sound xs e k d h = sound (get_or xs k d) (fails_before_first bad xs k d (let l = ltb-false (position_or_len bad xs) (length xs) (past (ltb (position_or_len bad xs) (length xs)) e) in omega arith))
  where
    past : (b : Bool) → is_some (cond b (Some (position_or_len bad xs)) None) ≡ false → b ≡ false
    past true q = absurd (true≢false q)
    past false q = refl

pub none_found : {X : Type 0} (bad : X → Bool) (P : X → Type 0) → ((x : X) → P x → bad x ≡ false) → (xs : List X) (d : X) → All P xs → is_some (position bad xs) ≡ false
none_found bad P good xs d all =
    let n : ℕ = position_or_len bad xs in
    let e : n ≡ length xs = position_or_len_is bad xs (length xs) d (omega arith) (λ k h. good (get_or xs k d) (all k d h)) (λ h. absurd (omega arith)) in
    ap (λ b. is_some (cond b (Some n) None)) (le-ltb n (length xs) (omega arith))

-- the search over the numbers of a list's items
pub found_at : {X : Type 0} (bad : X → Bool) (xs : List X) (d : X) → find (λ k. bad (get_or xs k d)) (range_with_len 0 (length xs)) ≡ position bad xs
found_at {X} bad xs d = on xs 0 (λ k. bad (get_or xs k d)) (λ k h. ap (λ i. bad (get_or xs i d)) (let z : 0 + k ≡ k = omega arith in z)) ∙ sym (position_from-zero bad xs)
  where
    on : (ys : List X) (i : ℕ) (f : ℕ → Bool) → ((k : ℕ) → k < length ys → f (i + k) ≡ bad (get_or ys k d)) → find f (range_with_len i (length ys)) ≡ position_from bad i ys
    on [] i f h = refl
    on (y ∷ ys) i f h =
        let a : f i ≡ bad y = ap f (let z : i ≡ i + 0 = omega arith in z) ∙ h 0 (omega arith) in
        let b = on ys (i + 1) f (λ k l. ap f (let z : i + 1 + k ≡ i + suc k = omega arith in z) ∙ h (suc k) (omega arith)) in
        ap (λ t. cond t (Some i) (find f (range_with_len (i + 1) (length ys)))) a ∙ ap (cond (bad y) (Some i)) b

-- the sum over the numbers of a list's first items
pub sum_range : {X : Type 0} (f : X → ℕ) (xs : List X) (d : X) (n : ℕ) → n ≤ length xs → sum_by (λ k. f (get_or xs k d)) (range_with_len 0 n) ≡ sum_by f (take n xs)
sum_range f xs d n h = on 0 n (omega arith) ∙ ap (λ k. sum_by f (take k xs)) (let z : 0 + n ≡ n = omega arith in z)
  where
    on : (i n : ℕ) → i + n ≤ length xs → fold (λ a k. a + f (get_or xs k d)) (sum_by f (take i xs)) (range_with_len i n) ≡ sum_by f (take (i + n) xs)
    on i zero h = ap (λ k. sum_by f (take k xs)) (let z : i ≡ i + 0 = omega arith in z)
    on i (suc n) h =
        ap (λ b. fold (λ a k. a + f (get_or xs k d)) b (range_with_len (i + 1) n)) (sym (sum_by_more f xs i d (omega arith)))
        ∙ on (i + 1) n (omega arith)
        ∙ ap (λ k. sum_by f (take k xs)) (let z : i + 1 + n ≡ i + suc n = omega arith in z)
