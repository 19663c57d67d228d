-- A round by what changed is a round.
use Rattle.std.proofs.Common.{◌≡◌, ℕ, ◌<◌, ◌≤◌, ◌⊎◌, Bool, true, false, List, length, take, slice_index, slice_index_or, Some, sym, refl, ◌∙◌, subst, inl, inr, arith}
use Rattle.std.proofs.Math.Logic.{∥∥₁_elim}
use Rattle.std.proofs.lemmas.Bool.{false≢true}
use native.Mathlib.Decide.{ℕ_discrete}
use Rattle.game.specs.declared.Edge.{Edge}
use Rattle.game.specs.Game.{Game, WellFormed}
use Rattle.hopper.specs.Boards.{step_at}
use Rattle.hopper.proofs.Boards.{step_inside}
use Rattle.solver.specs.Inner.Changing.{Listed, Flagged, IsWorklist, ListsChanges}
use Rattle.solver.specs.Inner.Moves.{IsSource, AllSources}
use Rattle.solver.proofs.Entries.{front_same, same_front}

-- where places without a flag had the right entry before, each place has it now
pub all_right : (places : ℕ) (P : ℕ → ℕ → Type 0) (list : List ℕ) (m : ℕ) (flags : List Bool) (row next : List ℕ) → IsWorklist list m flags
    → ((i : ℕ) → i < m → P (slice_index list i) (slice_index next (slice_index list i)))
    → ((p : ℕ) → p < places → (slice_index next p ≡ slice_index row p) ⊎ P p (slice_index next p))
    → ((p : ℕ) → p < places → ¬ Flagged flags p → P p (slice_index row p))
    → (p : ℕ) → p < places → P p (slice_index next p)
all_right places P list m flags row next w made others rest p lt = go (slice_index_or flags p false) refl
  where
    go : (b : Bool) → slice_index_or flags p false ≡ b → P p (slice_index next p)
    go true e = let l = w.listed p e in subst (λ (k : ℕ). P k (slice_index next k)) l.is (made l.index l.below)
    go false e = elim (others p lt) [ inl same ↦ subst (P p) (sym same) (rest p lt (λ f. false≢true (sym e ∙ f))) | inr right ↦ right ]

module _ (places : ℕ) (row next list : List ℕ) (n : ℕ) (c : ListsChanges places row next list n) where
  -- two rows are alike where no change is listed
  pub none_changed : n ≡ 0 → places ≤ length row → places ≤ length next → take places row ≡ take places next
  none_changed none one two = same_front places row next one two (λ p lt.
      elim (ℕ_discrete (slice_index next p) (slice_index row p)) [
        | yes e ↦ sym e
        | no ne ↦ absurd (let l = c.all p lt ne in let less = l.below in omega arith)
      ])

  -- and not where one is
  pub some_changed : 0 < n → ¬ (take places row ≡ take places next)
  some_changed some same = c.differ 0 some (sym (front_same places row next same (slice_index list 0) (c.inside 0 some)))

  module _ (new : List ℕ) (taken : (i : ℕ) → i < n → slice_index new (slice_index list i) ≡ slice_index next (slice_index list i))
      (rest : (k : ℕ) → ¬ Listed list n k → slice_index new k ≡ slice_index row k) where
    -- with the changes taken over the row is the next one
    pub taken_over : (p : ℕ) → p < places → slice_index new p ≡ slice_index next p
    taken_over p lt = elim (ℕ_discrete (slice_index next p) (slice_index row p)) [
      | yes e ↦ rest p (λ l. c.differ l.index l.below (subst (λ (k : ℕ). slice_index next k ≡ slice_index row k) (sym l.is) e)) ∙ sym e
      | no ne ↦ (let l = c.all p lt ne in subst (λ (k : ℕ). slice_index new k ≡ slice_index next k) l.is (taken l.index l.below))
    ]

    -- a place has its entry as before, or is listed
    pub moved : (p : ℕ) → p < places → (slice_index new p ≡ slice_index row p) ⊎ Listed list n p
    moved p lt = elim (ℕ_discrete (slice_index next p) (slice_index row p)) [ yes e ↦ inl (taken_over p lt ∙ e) | no ne ↦ inr (c.all p lt ne) ]

    pub left_over : (k : ℕ) → places ≤ k → slice_index new k ≡ slice_index row k
    left_over k le = rest k (λ l. let lt = c.inside l.index l.below in let e = l.is in omega arith)

    -- a place without a flag has no move to a change
    module _ (g : Game) (wf : WellFormed g) (same : g.places ≡ places) (begins ends sources : List ℕ) (all : ∥ AllSources g g.places begins ends sources ∥₁)
        (flags : List Bool) (flagged : (i p : ℕ) → i < n → p < places → IsSource begins ends sources (slice_index list i) p → Flagged flags p) where
      pub targets_same : (p : ℕ) → p < places → ¬ Flagged flags p → (m : ℕ) (e : Edge) → step_at (g.at p) m ≡ Some e → slice_index new e.target ≡ slice_index row e.target
      targets_same p lt no_flag m e is =
          let inside : e.target < places = (let lt' = step_inside g wf p m e is in omega arith) in
          elim (ℕ_discrete (slice_index next e.target) (slice_index row e.target)) [
            | yes k ↦ taken_over e.target inside ∙ k
            | no ne ↦ absurd (
                let l = c.all e.target inside ne in
                ∥∥₁_elim all (λ x y. absurd x)
                (λ f. no_flag (flagged l.index p l.below lt (subst (λ (q : ℕ). IsSource begins ends sources q p) (sym l.is) (f p (omega arith) m e is)))))
          ]
