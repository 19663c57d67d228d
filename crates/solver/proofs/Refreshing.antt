-- Needs written again.
use Rattle.std.proofs.Common.{◌≡◌, ℕ, ◌<◌, ◌⊎◌, List, length, set, slice_index, Some, sym, ap, ◌∙◌, subst, inl, inr, get_or-set_other, get_or-set_same}
use Rattle.std.specs.List.{slice_get}
use native.Mathlib.Decide.{ℕ_discrete}
use Rattle.game.specs.declared.Edge.{Edge}
use Rattle.game.specs.Rows.{Need}
use Rattle.game.proofs.RowMaking.{need_if, serves}
use Rattle.hopper.proofs.Boards.{nth_below}
use Rattle.solver.specs.Inner.Changing.{Listed}
use Rattle.solver.specs.Inner.Moves.{IsArc, AllArcs}
use Rattle.solver.specs.Entries.{as_entry, entries}
use Rattle.solver.specs.Inner.Rows.{RightNeed, RightNeeds, RefreshesPart}

module _ (need : Need) (row : List ℕ) (edges : List Edge) where
  -- the need that is written is right
  pub right_here : (needs : List ℕ) (k x : ℕ) → k < length needs → ((e : Edge) → slice_get edges k ≡ Some e → as_entry x ≡ serves need (entries row) e)
      → RightNeed need row edges (set needs k x) k
  right_here needs k x room new e is = ap as_entry (get_or-set_same needs k x 0 room) ∙ new e is

  -- and those that were right still are
  pub right_still : (needs : List ℕ) (k x j : ℕ) → k < length needs → ((e : Edge) → slice_get edges k ≡ Some e → as_entry x ≡ serves need (entries row) e)
      → RightNeed need row edges needs j → RightNeed need row edges (set needs k x) j
  right_still needs k x j room new before = elim (ℕ_discrete j k) [
    | yes same ↦ subst (RightNeed need row edges (set needs k x)) (sym same) (right_here needs k x room new)
    | no ne ↦ λ e is. ap as_entry (get_or-set_other needs k j x 0 ne) ∙ before e is
  ]

  -- needs stay or are right where one is written
  pub rest_still : (old needs : List ℕ) (k x : ℕ) → k < length needs → ((e : Edge) → slice_get edges k ≡ Some e → as_entry x ≡ serves need (entries row) e)
      → ((j : ℕ) → (slice_index needs j ≡ slice_index old j) ⊎ RightNeed need row edges needs j)
      → (j : ℕ) → (slice_index (set needs k x) j ≡ slice_index old j) ⊎ RightNeed need row edges (set needs k x) j
  rest_still old needs k x room new before j = elim (ℕ_discrete j k) [
    | yes same ↦ inr (subst (RightNeed need row edges (set needs k x)) (sym same) (right_here needs k x room new))
    | no ne ↦ elim (before j) [ inl e ↦ inl (get_or-set_other needs k j x 0 ne ∙ e) | inr right ↦ inr (right_still needs k x j room new right) ]
  ]

  -- a part that was written again still is, after other needs were
  pub part_still : (begins numbers slots : List ℕ) (q : ℕ) (needs new : List ℕ) → ((k : ℕ) → (slice_index new k ≡ slice_index needs k) ⊎ RightNeed need row edges new k)
      → RefreshesPart need row edges begins numbers slots q needs → RefreshesPart need row edges begins numbers slots q new
  part_still begins numbers slots q needs new kept part k e arc is leads = elim (kept k) [
    | inl same ↦ ap as_entry same ∙ part k e arc is leads
    | inr right ↦ right e is
  ]

  -- needs stay or are right, over two changes
  pub rest_on : (old needs new : List ℕ) → ((k : ℕ) → (slice_index needs k ≡ slice_index old k) ⊎ RightNeed need row edges needs k)
      → ((k : ℕ) → (slice_index new k ≡ slice_index needs k) ⊎ RightNeed need row edges new k)
      → (k : ℕ) → (slice_index new k ≡ slice_index old k) ⊎ RightNeed need row edges new k
  rest_on old needs new before after k = elim (after k) [
    | inl same ↦ elim (before k) [ inl first ↦ inl (same ∙ first) | inr right ↦ inr (λ e is. ap as_entry same ∙ right e is) ]
    | inr right ↦ inr right
  ]

-- with the parts of all changes written again the needs are right for the new row
pub refreshed : (need : Need) (row new : List ℕ) (edges : List Edge) (begins numbers slots needs needs' changed : List ℕ) (n places : ℕ)
    → ((k : ℕ) (e : Edge) → slice_get edges k ≡ Some e → e.target < places)
    → AllArcs (length edges) edges begins numbers slots
    → ((q : ℕ) → q < places → (slice_index new q ≡ slice_index row q) ⊎ Listed changed n q)
    → RightNeeds need row edges needs
    → ((i : ℕ) → i < n → RefreshesPart need new edges begins numbers slots (slice_index changed i) needs')
    → ((k : ℕ) → (slice_index needs' k ≡ slice_index needs k) ⊎ RightNeed need new edges needs' k)
    → RightNeeds need new edges needs'
refreshed need row new edges begins numbers slots needs needs' changed n places targets arcs moved before parts rest k e is = elim (rest k) [
  | inr right ↦ right e is
  | inl same ↦ elim (moved e.target (targets k e is)) [
    | inl stays ↦ ap as_entry same ∙ (before k e is ∙ ap (λ (n : ℕ). need_if need e.amount (as_entry n)) (sym stays))
    | inr l ↦ parts l.index l.below k e (subst (λ (q : ℕ). IsArc begins numbers slots q k) (sym l.is) (arcs k e (nth_below edges k e is) is)) is (sym l.is)
  ]
]
