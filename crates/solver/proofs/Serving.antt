-- What moves need, and the best of it.
use Rattle.std.proofs.Common.{◌≡◌, ℕ, zero, suc, ◌<◌, ◌≤◌, List, [], ◌∷◌, ℤ, Some, None, Option, unwrap_or, sym, refl, ap, ◌∙◌, subst, arith}
use native.Mathlib.Decide.{ℕ_discrete}
use Rattle.std.specs.List.{slice_get}
use Rattle.game.specs.declared.Edge.{Edge}
use Rattle.game.specs.declared.Owner.{Owner}
use Rattle.game.specs.declared.Owner.TheVariants.{Ours, Theirs}
use Rattle.game.specs.Game.{Place, Game}
use Rattle.game.specs.Vessel.{Hopper, Keeps}
use Rattle.game.specs.Fill.{Row}
use Rattle.game.specs.Rows.{IsNeed, Need, Graded}
use Rattle.game.proofs.Base.{none_some, some_inj}
use Rattle.game.proofs.RowMaking.{lesser, greater, best, need_if, serves, best_at, next_row}
use Rattle.hopper.specs.Boards.{owner_at, step_at, count_at}
use Rattle.hopper.proofs.Boards.{step_place, step_at_lem, step_below, owned}
use Rattle.solver.specs.Entries.{never, as_entry, entries}
use Rattle.solver.specs.Inner.Rows.{Prefers, NeededFor, IsNext}
use Rattle.solver.proofs.Entries.{entry_number, entry_small}

-- ---- the need function, by numbers
module _ (v : Hopper) (keeps : Keeps v) (need : Need) (graded : Graded v need) where
  -- the number that is written for a need reads as the need
  pub need_written : (wanted : ℕ) (a : ℤ) → as_entry (unwrap_or (need wanted a) never) ≡ need wanted a
  need_written wanted a = go (need wanted a) (graded wanted a)
    where
      go : (o : Option ℕ) → IsNeed v wanted a o → as_entry (unwrap_or o never) ≡ o
      go None is = refl
      go (Some n) is = entry_small n (let le = is.0 in let fits = keeps.top_fits in omega arith)

  -- no level leads above the top
  pub need_above : (wanted : ℕ) (a : ℤ) → v.top < wanted → need wanted a ≡ None
  need_above wanted a high = go (need wanted a) (graded wanted a)
    where
      go : (o : Option ℕ) → IsNeed v wanted a o → o ≡ None
      go None is = refl
      go (Some n) is = absurd (let r = is.1 n (omega arith) is.0 in let le = keeps.within n a r.0 r.1 in let up = r.2 in omega arith)

  -- the need for an entry is that for its number
  pub need_read : (wanted : ℕ) (a : ℤ) → need_if need a (as_entry wanted) ≡ need wanted a
  need_read wanted a = elim (ℕ_discrete wanted never) [
    | yes e ↦ ap (λ (n : ℕ). need_if need a (as_entry n)) e ∙ sym (need_above wanted a (let fits = keeps.top_fits in omega arith))
    | no ne ↦ ap (need_if need a) (entry_number wanted ne)
  ]

-- ---- the best of some entries
abbrev pick : Owner → Option ℕ → Option ℕ → Option ℕ
pick Ours = lesser
pick Theirs = greater

pick_swap : (o : Owner) (x y : Option ℕ) → pick o x y ≡ pick o y x
pick_swap Ours None None = refl
pick_swap Ours None (Some y) = refl
pick_swap Ours (Some x) None = refl
pick_swap Ours (Some x) (Some y) = ap Some (omega arith)
pick_swap Theirs None None = refl
pick_swap Theirs None (Some y) = refl
pick_swap Theirs (Some x) None = refl
pick_swap Theirs (Some x) (Some y) = ap Some (omega arith)

pick_assoc : (o : Owner) (x y z : Option ℕ) → pick o x (pick o y z) ≡ pick o (pick o x y) z
pick_assoc Ours None y z = refl
pick_assoc Ours (Some x) None z = refl
pick_assoc Ours (Some x) (Some y) None = refl
pick_assoc Ours (Some x) (Some y) (Some z) = ap Some (omega arith)
pick_assoc Theirs None y z = refl
pick_assoc Theirs (Some x) None z = refl
pick_assoc Theirs (Some x) (Some y) None = refl
pick_assoc Theirs (Some x) (Some y) (Some z) = ap Some (omega arith)

best_first : (o : Owner) (f : Edge → Option ℕ) (x : Edge) (xs : List Edge) → best o f (x ∷ xs) ≡ pick o (f x) (best o f xs)
best_first Ours f x xs = refl
best_first Theirs f x xs = refl

-- the number that is preferred is the one that is picked
prefers_pick : (o : Owner) (a b : ℕ) → a ≤ never → b ≤ never → Prefers o a b → pick o (as_entry a) (as_entry b) ≡ as_entry a
prefers_pick Ours a b small small' le = elim (ℕ_discrete b never) [
  | yes e ↦ ap (λ (n : ℕ). lesser (as_entry a) (as_entry n)) e ∙ pick_swap Ours (as_entry a) None
  | no ne ↦ (let na : ¬ (a ≡ never) = λ e. ne (omega arith) in rw (entry_number a na, entry_number b ne) (ap Some (omega arith)))
]
prefers_pick Theirs a b small small' le = elim (ℕ_discrete a never) [
  | yes e ↦ rw e refl
  | no ne ↦ (let nb : ¬ (b ≡ never) = λ e. ne (omega arith) in rw (entry_number a ne, entry_number b nb) (ap Some (omega arith)))
]

-- none is better than z
abbrev NoBetter : Owner → (Edge → Option ℕ) → Option ℕ → List Edge → Type 0
NoBetter o f z ms = (m : ℕ) (e : Edge) → slice_get ms m ≡ Some e → pick o z (f e) ≡ z

no_better : (o : Owner) (f : Edge → Option ℕ) (z : Option ℕ) (ms : List Edge) → NoBetter o f z ms → pick o z (best o f ms) ≡ z
no_better Ours f z [] all = pick_swap Ours z None
no_better Theirs f None [] all = refl
no_better Theirs f (Some z) [] all = ap Some (omega arith)
no_better o f z (x ∷ xs) all =
    ap (pick o z) (best_first o f x xs)
    ∙ (pick_assoc o z (f x) (best o f xs) ∙ (ap (λ (y : Option ℕ). pick o y (best o f xs)) (all 0 x refl) ∙ no_better o f z xs (λ m e h. all (suc m) e h)))

-- so that z, which is one of them, is the best
best_is : (o : Owner) (f : Edge → Option ℕ) (z : Option ℕ) (ms : List Edge) → NoBetter o f z ms → (m : ℕ) (e : Edge) → slice_get ms m ≡ Some e → f e ≡ z → best o f ms ≡ z
best_is o f z [] all m e h is = absurd (none_some h)
best_is o f z (x ∷ xs) all zero e h is =
    best_first o f x xs ∙ (ap (λ (y : Option ℕ). pick o y (best o f xs)) (ap f (some_inj h) ∙ is) ∙ no_better o f z xs (λ m e h. all (suc m) e h))
best_is o f z (x ∷ xs) all (suc m) e h is =
    best_first o f x xs ∙ (ap (pick o (f x)) (best_is o f z xs (λ m e h. all (suc m) e h) m e h is) ∙ (pick_swap o (f x) z ∙ all 0 x refl))

best_same : (o : Owner) (f h : Edge → Option ℕ) (ms : List Edge) → ((m : ℕ) (e : Edge) → slice_get ms m ≡ Some e → f e ≡ h e) → best o f ms ≡ best o h ms
best_same Ours f h [] same = refl
best_same Theirs f h [] same = refl
best_same o f h (x ∷ xs) same =
    best_first o f x xs
    ∙ (ap (λ (y : Option ℕ). pick o y (best o f xs)) (same 0 x refl) ∙ (ap (pick o (h x)) (best_same o f h xs (λ m e i. same (suc m) e i)) ∙ sym (best_first o h x xs)))

-- ---- the next row
-- rows that are alike at a place's targets make the same entry there
pub same_next : (g : Game) (need : Need) (r s : Row) (p : ℕ) → ((m : ℕ) (e : Edge) → step_at (g.at p) m ≡ Some e → r e.target ≡ s e.target) → next_row g need r p ≡ next_row g need s p
same_next g need r s p same = go (g.at p) same
  where
    go : (o : Option Place) → ((m : ℕ) (e : Edge) → step_at o m ≡ Some e → r e.target ≡ s e.target) → best_at need r o ≡ best_at need s o
    go None same = refl
    go (Some q) same = best_same q.owner (serves need r) (serves need s) q.moves (λ m e h. ap (need_if need e.amount) (same m e h))

-- the number that is preferred among those that the moves need is the next entry
pub preferred_is_next : (g : Game) (need : Need) (row : List ℕ) (p : ℕ) (o : Owner) (z : ℕ) → owner_at (g.at p) ≡ Some o → z ≤ never
    → ((m : ℕ) → m < count_at (g.at p) → (n : ℕ) × (n ≤ never) × NeededFor g need row p m n × Prefers o z n)
    → (m : ℕ) × NeededFor g need row p m z → IsNext g need row p z
preferred_is_next g need row p o z own small all one =
    let w = owned g p o own in
    let q : Place = w.0 in
    let f : Edge → Option ℕ = serves need (entries row) in
    let no : (m : ℕ) (e : Edge) → slice_get q.moves m ≡ Some e → pick o (as_entry z) (f e) ≡ as_entry z = λ m e h.
    let is = step_at_lem g p m q e w.1 h in
    let n = all m (step_below (g.at p) m e is) in
    let same : as_entry n.0 ≡ f e = n.2.2 ∙ ap f (some_inj (sym n.2.1 ∙ is)) in
    ap (pick o (as_entry z)) (sym same) ∙ prefers_pick o z n.0 small n.1 n.3 in
    let there = step_place (g.at p) one.0 one.1.0 one.1.1 in
    let at : slice_get q.moves one.0 ≡ Some one.1.0 = subst (λ (r : Place). slice_get r.moves one.0 ≡ Some one.1.0) (some_inj (sym there.1 ∙ w.1)) there.2 in
    sym (ap (best_at need (entries row)) w.1 ∙ (ap (λ (x : Owner). best x f q.moves) w.2 ∙ best_is o f (as_entry z) q.moves no one.0 one.1.0 at (sym one.1.2)))
