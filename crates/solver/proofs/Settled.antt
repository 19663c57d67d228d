-- Marks that settle are the forced marks.
use Rattle.std.proofs.Common.{◌≡◌, ℕ, zero, suc, ◌<◌, ◌≤◌, List, get_or, Some, sym, refl, ap, ◌∙◌, inl, inr, arith}
use native.Mathlib.Decide.{ℕ_discrete}
use Rattle.game.specs.Game.{Game, WellFormed}
use Rattle.game.specs.Forced.{Forces, IsForced}
use Rattle.game.proofs.Forced.{into_map, forced_settles}
use Rattle.solver.specs.Entries.{never, as_entry, entries, KeptFrom}
use Rattle.solver.specs.Inner.Marks.{MarkedBelow, Settled}
use Rattle.solver.specs.Forcing.{ForcedMarks}
use Rattle.solver.proofs.Entries.{entry_small, entry_back}

module _ (g : Game) (w : WellFormed g) (t : ℕ) (inside : t < g.places) (marks : List ℕ) (rounds : ℕ) (few : rounds < g.places) (s : Settled g t g.places marks rounds) where
  low : (i : ℕ) → i ≤ suc rounds → suc i < never
  low i le = let b = w.few_places in omega arith

  -- what is marked within i is forced within i
  to_forced : (i p : ℕ) → i ≤ suc rounds → p < g.places → MarkedBelow marks (suc i) p → Forces g t i p
  to_forced zero p le lt m = elim (ℕ_discrete p t) [
    | yes e ↦ e
    | no ne ↦ absurd (let d = (s.due p lt).elsewhere ne in let e = d.2 in omega arith)
  ]
  to_forced (suc i) p le lt m = elim (ℕ_discrete p t) [
    | yes e ↦ inl e
    | no ne ↦ inr (
        let d = (s.due p lt).elsewhere ne in
        let e = d.2 in
        let z = low i (omega arith) in
        let less : d.0 < suc i = omega arith in
        into_map g w (MarkedBelow marks (suc i)) (Forces g t i) (λ q lt' m'. to_forced i q (omega arith) lt' m') p ((d.1 (suc i)).0 less))
  ]

  to_marked : (i p : ℕ) → p < g.places → Forces g t i p → MarkedBelow marks (suc i) p
  to_marked zero p lt f = let e = (s.due p lt).at_target f in omega arith
  to_marked (suc i) p lt f = elim (ℕ_discrete p t) [
    | yes e ↦ (let z = (s.due p lt).at_target e in omega arith)
    | no ne ↦ elim f [
      | inl e ↦ absurd (ne e)
      | inr n ↦ (
          let d = (s.due p lt).elsewhere ne in
          let e = d.2 in
          let less : d.0 < suc i = (d.1 (suc i)).1 (into_map g w (Forces g t i) (MarkedBelow marks (suc i)) (λ q lt' f'. to_marked i q lt' f') p n) in
          omega arith)
    ]
  ]

  -- no place needs more moves than the rounds
  stops : (p : ℕ) → p < g.places → Forces g t (suc rounds) p → Forces g t rounds p
  stops p lt f =
      let m = to_marked (suc rounds) p lt f in
      elim (s.most p lt) [
        | inl e ↦ absurd (let z = low (suc rounds) (omega arith) in omega arith)
        | inr le ↦ to_forced rounds p (omega arith) lt (omega arith)
      ]

  exact : (p : ℕ) → p < g.places → IsForced g t p (entries marks p)
  exact p lt = elim (s.most p lt) [
    | inl e ↦ rw e (λ j f. let m = to_marked rounds p lt (forced_settles g w t rounds stops j p lt f) in let z = low rounds (omega arith) in omega arith)
    | inr le ↦ (let z = low rounds (omega arith) in
        rw (entry_small (get_or marks p 0) (omega arith))
        (to_forced (get_or marks p 0) p (omega arith) lt (omega arith), λ j less f. let m = to_marked j p lt f in omega arith))
  ]

  bound : (k n : ℕ) → k < g.places → entries marks k ≡ Some n → n ≤ rounds
  bound k n lt e =
      let v = entry_back (get_or marks k 0) n e in
      elim (s.most k lt) [ inl a ↦ absurd (v.1 a) | inr le ↦ omega (arith, v.0) ]

  -- some place has the rounds as its mark, the target where they are 0
  attained : (k : ℕ) × (k < g.places) × (get_or marks k 0 ≡ rounds)
  attained = elim s.attained [ inl z ↦ (t, inside, (s.due t inside).at_target refl ∙ sym z) | inr k ↦ k ]

  pub settled_marks : (old : List ℕ) → KeptFrom g.places old marks → ForcedMarks g t old marks rounds
  settled_marks old kept = record {
    exact = exact;
    kept = kept;
    largest = record {
      most = λ n w. bound w.0 n w.1 w.2;
      attained = (let k = attained in let z = low rounds (omega arith) in (k.0, k.1, ap as_entry k.2 ∙ entry_small rounds (omega arith)));
    };
  }
