-- A row made from the one before by what changed.
use Rattle.std.proofs.Common.{◌≡◌, ℕ, ◌+◌, ◌<◌, ◌≤◌, ◌⊎◌, Bool, false, List, length, set, slice_index, sym, ◌∙◌, subst, inl, inr, arith, get_or-set_other, get_or-set_same, length-set, below_more}
use native.Mathlib.Decide.{ℕ_discrete}
use Rattle.std.proofs.lemmas.List.{get_or_past}
use Rattle.std.proofs.lemmas.Bool.{cases_lt, false≢true}
use Rattle.solver.specs.Inner.Changing.{Listed, Flagged, ListsChanges}

-- only a place has a flag
pub flagged_inside : (flags : List Bool) (p : ℕ) → Flagged flags p → p < length flags
flagged_inside flags p f = elim (cases_lt p (length flags)) [ inl lt ↦ lt | inr le ↦ absurd (false≢true (sym (get_or_past flags p false le) ∙ f)) ]

-- one of the first n is one of the first n and the next
listed_more : (list : List ℕ) (n p : ℕ) → Listed list n p → Listed list (n + 1) p
listed_more list n p l = record { index = l.index; below = (let lt = l.below in omega arith); is = l.is }

-- one of the first n and the next is one of the first n, or the next
listed_cases : (list : List ℕ) (n p : ℕ) → Listed list (n + 1) p → ¬ (slice_index list n ≡ p) → Listed list n p
listed_cases list n p l other = elim (cases_lt l.index n) [
  | inl lt ↦ record { index = l.index; below = lt; is = l.is }
  | inr le ↦ (let e : l.index ≡ n = (let lt = l.below in omega arith) in absurd (other (subst (λ (i : ℕ). slice_index list i ≡ p) e l.is)))
]

-- the first n places of the list have been made again; P tells the right entries
pub record Remade (places : ℕ) (P : ℕ → ℕ → Type 0) (row list : List ℕ) (old : List ℕ) (flagged : List Bool) (n : ℕ) (next : List ℕ) (flags : List Bool) (changed : List ℕ) (kept : ℕ) : Type 0 where
  pub few : kept ≤ n
  pub made : (i : ℕ) → i < n → P (slice_index list i) (slice_index next (slice_index list i))
  pub others : (k : ℕ) → k < places → (slice_index next k ≡ slice_index row k) ⊎ P k (slice_index next k)
  pub past : (k : ℕ) → places ≤ k → slice_index next k ≡ slice_index old k
  pub changes : ListsChanges places row next changed kept
  pub unflagged : (p : ℕ) → Flagged flags p → Flagged flagged p × ¬ Listed list n p

module _ (places : ℕ) (P : ℕ → ℕ → Type 0) (row list old : List ℕ) (flagged : List Bool) (n : ℕ) (next : List ℕ) (flags : List Bool) (changed : List ℕ) (kept : ℕ)
    (r : Remade places P row list old flagged n next flags changed kept) (q : ℕ) (is : slice_index list n ≡ q) (inside : q < places) (tall : q < length flags) (v : ℕ) (right : P q v) where
  -- the flag of the next place is taken
  unflag : (p : ℕ) → Flagged (set flags q false) p → Flagged flagged p × ¬ Listed list (n + 1) p
  unflag p f = elim (ℕ_discrete p q) [
    | yes e ↦ absurd (false≢true (sym (get_or-set_same flags q false false tall) ∙ subst (λ (i : ℕ). Flagged (set flags q false) i) e f))
    | no ne ↦ (let w = r.unflagged p (sym (get_or-set_other flags q p false false ne) ∙ f) in (w.0, λ l. w.1 (listed_cases list n p l (λ e. ne (sym e ∙ is)))))
  ]

  -- its entry is that of the row
  pub remade_same : v ≡ slice_index row q → Remade places P row list old flagged (n + 1) next (set flags q false) changed kept
  remade_same same = record {
    few = (let le = r.few in omega arith);
    made = below_more _ n r.made (subst (λ (i : ℕ). P i (slice_index next i)) (sym is) here);
    others = r.others;
    past = r.past;
    changes = r.changes;
    unflagged = unflag;
  }
    where
      here : P q (slice_index next q)
      here = elim (r.others q inside) [ inl e ↦ subst (P q) (same ∙ sym e) right | inr w ↦ w ]

  -- its entry is another
  module _ (wide : q < length next) (room : kept < length changed) (differs : ¬ (v ≡ slice_index row q)) where
    at : slice_index (set next q v) q ≡ v
    at = get_or-set_same next q v 0 wide

    off : (k : ℕ) → ¬ (k ≡ q) → slice_index (set next q v) k ≡ slice_index next k
    off k ne = get_or-set_other next q k v 0 ne

    put : slice_index (set changed kept q) kept ≡ q
    put = get_or-set_same changed kept q 0 room

    by : (A : ℕ → ℕ → Type 0) (k : ℕ) → (k ≡ q → A q v) → A k (slice_index next k) → A k (slice_index (set next q v) k)
    by A k new before = elim (ℕ_discrete k q) [
      | yes e ↦ subst (λ (i : ℕ). A i (slice_index (set next q v) i)) (sym e) (subst (A q) (sym at) (new e))
      | no ne ↦ subst (A k) (sym (off k ne)) before
    ]

    lists : ListsChanges places row (set next q v) (set changed kept q) (kept + 1)
    lists = record {
      room = omega (arith, length-set changed kept q);
      inside = below_more _ kept (λ i lt. subst (λ (p : ℕ). p < places) (sym (stays i lt)) (r.changes.inside i lt)) (subst (λ (p : ℕ). p < places) (sym put) inside);
      differ = below_more _ kept
          (λ i lt. subst Differs (sym (stays i lt)) (by (λ k x. ¬ (x ≡ slice_index row k)) (slice_index changed i) (λ e. differs) (r.changes.differ i lt)))
          (subst Differs (sym put) (λ e. differs (sym at ∙ e)));
      all = λ p lt no_same. elim (ℕ_discrete p q) [
        | yes e ↦ record { index = kept; below = omega arith; is = put ∙ sym e }
        | no ne ↦ (let l = r.changes.all p lt (λ e. no_same (off p ne ∙ e)) in record { index = l.index; below = (let less = l.below in omega arith); is = stays l.index l.below ∙ l.is })
      ];
    }
      where
        stays : (i : ℕ) → i < kept → slice_index (set changed kept q) i ≡ slice_index changed i
        stays i lt = get_or-set_other changed kept i q 0 (omega arith)

        Differs : ℕ → Type 0
        Differs p = ¬ (slice_index (set next q v) p ≡ slice_index row p)

    pub remade_other : Remade places P row list old flagged (n + 1) (set next q v) (set flags q false) (set changed kept q) (kept + 1)
    remade_other = record {
      few = (let le = r.few in omega arith);
      made = below_more _ n (λ i lt. by P (slice_index list i) (λ e. right) (r.made i lt))
          (subst (λ (i : ℕ). P i (slice_index (set next q v) i)) (sym is) (subst (P q) (sym at) right));
      others = λ k lt. by (λ i x. (x ≡ slice_index row i) ⊎ P i x) k (λ e. inr right) (r.others k lt);
      past = λ k le. off k (omega arith) ∙ r.past k le;
      changes = lists;
      unflagged = unflag;
    }
