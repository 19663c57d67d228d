-- The best of the marks that a place's moves lead to.
use Rattle.std.proofs.Common.{◌≡◌, ℕ, ◌<◌, true, false, ◌↔◌, List, slice_index, Some, sym, ◌∙◌, subst, inl, inr, arith}
use Rattle.std.proofs.lemmas.Bool.{cases_lt}
use Rattle.game.specs.declared.Edge.{Edge}
use Rattle.game.specs.declared.Owner.{Owner}
use Rattle.game.specs.declared.Owner.TheVariants.{Ours, Theirs}
use Rattle.game.specs.Game.{Game}
use Rattle.game.specs.Forced.{foe, ForcesInto}
use Rattle.game.proofs.Base.{some_inj}
use Rattle.hopper.specs.Boards.{owner_at, count_at}
use Rattle.hopper.proofs.Boards.{step_below}
use Rattle.solver.specs.Inner.Marks.{MarkedBelow, LeadsTo, LeadsToMark, IsBest}
use Rattle.solver.specs.Inner.Rows.{Prefers}
use Rattle.solver.proofs.Choosing.{each_forces, some_forces}

-- a test of a number tells as the number does
tells_less : (n r : ℕ) (P : Type 0) → ((n < r → P) × ((n < r → ⊥) → ¬ P)) → (n < r) ↔ P
tells_less n r P f = (f.0, λ x. elim (cases_lt n r) [ inl lt ↦ lt | inr le ↦ absurd (f.1 (λ lt. omega arith) x) ])

module _ (g : Game) (marks : List ℕ) (p : ℕ) where
  below : (r m n : ℕ) → LeadsToMark g marks p m n → n < r → LeadsTo g (MarkedBelow marks r) p m
  below r m n l lt = (l.0, l.1, (let e = l.2 in omega arith))

  not_below : (r m n : ℕ) → LeadsToMark g marks p m n → LeadsTo g (MarkedBelow marks r) p m → n < r
  not_below r m n l k =
      let same : k.0 ≡ l.0 = some_inj (sym k.1 ∙ l.1) in
      let less : slice_index marks l.0.target < r = subst (λ (e : Edge). slice_index marks e.target < r) same k.2 in
      let e = l.2 in
      omega arith

  led_below : (m n : ℕ) → LeadsToMark g marks p m n → m < count_at (g.at p)
  led_below m n l = step_below (g.at p) m l.0 l.1

  -- what the other one prefers is the best
  pub preferred_is_best : (o : Owner) (z : ℕ) → owner_at (g.at p) ≡ Some o → ((m : ℕ) → m < count_at (g.at p) → (n : ℕ) × LeadsToMark g marks p m n × Prefers (foe o) z n)
      → (m : ℕ) × LeadsToMark g marks p m z → IsBest g marks p z
  preferred_is_best Ours z own all one r = tells_less z r (ForcesInto g (MarkedBelow marks r) p) (
    λ lt. each_forces g (MarkedBelow marks r) p own true (λ m less. let w = all m less in let le = w.2 in below r m w.0 w.1 (omega arith)),
    λ not. each_forces g (MarkedBelow marks r) p own false (one.0, led_below one.0 z one.1, λ k. not (not_below r one.0 z one.1 k)),
  )
  preferred_is_best Theirs z own all one r = tells_less z r (ForcesInto g (MarkedBelow marks r) p) (
    λ lt. some_forces g (MarkedBelow marks r) p own true (one.0, below r one.0 z one.1 lt),
    λ not. some_forces g (MarkedBelow marks r) p own false (λ m less k. let w = all m less in let le = w.2 in let lt = not_below r m w.0 w.1 k in not (omega arith)),
  )
