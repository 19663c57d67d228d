-- How the numbers of a buffer are read.
use Rattle.std.proofs.Common.{◌≡◌, ℕ, ◌<◌, ◌≤◌, Bool, true, false, cond, eqb, List, ◌++◌, length, get_or, take, drop, replicate, length-append, length-drop, length-take-le, ◌-◌, Some, None, sym, refl, ap, ◌∙◌, subst, arith}
use Rattle.std.proofs.lemmas.Grind.{same_number_lists}
use Rattle.std.proofs.lemmas.List.{get_or_append_left, get_or-append_right, get_or-drop, get_or-replicate, get_or-take, length-replicate}
use Rattle.std.proofs.lemmas.Bool.{ne_eqb, eqb-true, eqb-false}
use native.Mathlib.Decide.{dec_le, ℕ_discrete}
use Rattle.game.specs.Rows.{Parts}
use Rattle.game.proofs.Base.{none_some, some_inj, stable}
use Rattle.solver.specs.Entries.{never, as_entry, KeptFrom}

pub entry_number : (n : ℕ) → ¬ (n ≡ never) → as_entry n ≡ Some n
entry_number n other = let e : eqb n never ≡ false = ne_eqb n never other in ap (λ (b : Bool). cond b None (Some n)) e

pub entry_small : (n : ℕ) → n < never → as_entry n ≡ Some n
entry_small n lt = entry_number n (λ h. omega arith)

pub entry_back : (n k : ℕ) → as_entry n ≡ Some k → (n ≡ k) × (n ≡ never → ⊥)
entry_back n k h = go (eqb n never) refl h
  where
    go : (b : Bool) → eqb n never ≡ b → cond b None (Some n) ≡ Some k → (n ≡ k) × (n ≡ never → ⊥)
    go true e h = absurd (none_some h)
    go false e h = (some_inj h, eqb-false n never e)

pub entry_inj : (a b : ℕ) → as_entry a ≡ as_entry b → a ≡ b
entry_inj a b h = go (eqb a never) (eqb b never) refl refl h
  where
    go : (x y : Bool) → eqb a never ≡ x → eqb b never ≡ y → cond x None (Some a) ≡ cond y None (Some b) → a ≡ b
    go true true p q h = eqb-true a never p ∙ sym (eqb-true b never q)
    go true false p q h = absurd (none_some h)
    go false true p q h = absurd (none_some (sym h))
    go false false p q h = some_inj h

-- ---- a number whose entry parts the levels up to the top
module _ (top : ℕ) (fits : top < never) (P : ℕ → Type 0) (n : ℕ) (parts : Parts top P (as_entry n)) where
  pub holds_from : (c : ℕ) → n ≤ c → c ≤ top → P c
  holds_from c le high = let some : Parts top P (Some n) = subst (Parts top P) (entry_small n (omega arith)) parts in some.1 c le high

  pub holds_above : (c : ℕ) → c ≤ top → P c → n ≤ c
  holds_above c high p = stable (dec_le n c) (λ not. elim (ℕ_discrete n never) [
    | yes e ↦ (let none : (d : ℕ) → ¬ P d = subst (λ (k : ℕ). Parts top P (as_entry k)) e parts in none c p)
    | no ne ↦ (let some : Parts top P (Some n) = subst (Parts top P) (entry_number n ne) parts in some.2 c (omega arith) p)
  ])

-- ---- a buffer whose first n entries are written anew
pub past_front : (n k : ℕ) (front old : List ℕ) → length front ≡ n → n ≤ k → get_or (front ++ drop n old) k 0 ≡ get_or old k 0
past_front n k front old long le = get_or-append_right front (drop n old) n k 0 long le ∙ (get_or-drop n old (k - n) 0 ∙ ap (λ (i : ℕ). get_or old i 0) (omega arith))

pub filled_front : (n k value : ℕ) (rest : List ℕ) → k < n → get_or (replicate n value ++ rest) k 0 ≡ value
filled_front n k value rest lt = get_or_append_left (replicate n value) rest 0 k (omega (arith, length-replicate {A = ℕ})) ∙ get_or-replicate n k value 0 lt

-- the rest is kept
pub front_kept : (n : ℕ) (front old : List ℕ) → length front ≡ n → n ≤ length old → KeptFrom n old (front ++ drop n old)
front_kept n front old long room = record {
  same_length = omega (arith, long, length-append front (drop n old), length-drop n old);
  same_rest = λ k le. past_front n k front old long le;
}

pub copied_front : (n k : ℕ) (from rest : List ℕ) → k < n → n ≤ length from → get_or (take n from ++ rest) k 0 ≡ get_or from k 0
copied_front n k from rest lt le = get_or_append_left (take n from) rest 0 k (omega (arith, length-take-le n from le)) ∙ get_or-take n from k 0 lt

-- two buffers begin alike where their first n entries are the same
pub same_front : (n : ℕ) (a b : List ℕ) → n ≤ length a → n ≤ length b → ((k : ℕ) → k < n → get_or a k 0 ≡ get_or b k 0) → take n a ≡ take n b
same_front n a b room spare same =
    let one = length-take-le n a room in
    let two = length-take-le n b spare in
    same_number_lists (take n a) (take n b) (omega arith)
    (λ k lt. let less : k < n = omega arith in get_or-take n a k 0 less ∙ (same k less ∙ sym (get_or-take n b k 0 less)))

pub front_same : (n : ℕ) (a b : List ℕ) → take n a ≡ take n b → (k : ℕ) → k < n → get_or a k 0 ≡ get_or b k 0
front_same n a b same k lt = sym (get_or-take n a k 0 lt) ∙ (ap (λ (xs : List ℕ). get_or xs k 0) same ∙ get_or-take n b k 0 lt)
