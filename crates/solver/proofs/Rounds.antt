-- A round, place by place.
use Rattle.std.proofs.Common.{◌≡◌, ℕ, ◌+◌, ◌<◌, ◌≤◌, Bool, true, List, length, get_or, set, refl, inl, inr, arith, get_or-set_other, get_or-set_same, below_more}
use Rattle.std.specs.Bool.{Decides}
use Rattle.std.proofs.lemmas.Bool.{cases_lt}
use Rattle.std.proofs.lemmas.Bool.Decides.{Decides-like}
use Rattle.game.specs.Game.{Game, WellFormed}
use Rattle.game.specs.Forced.{ForcesInto}
use Rattle.game.proofs.Forced.{into_map}
use Rattle.solver.specs.Entries.{never, KeptFrom}
use Rattle.solver.specs.Inner.Marks.{MarkedBelow, RoundDone}

module _ (g : Game) (wf : WellFormed g) (old : List ℕ) (round : ℕ) (small : round < never) (fits : (k : ℕ) → get_or old k 0 ≤ never) where
  same : (n : ℕ) (new : List ℕ) (fresh : Bool) → RoundDone g n old new round fresh → (q : ℕ) → (get_or new q 0 < round → get_or old q 0 < round) × (get_or old q 0 < round → get_or new q 0 < round)
  same n new fresh t q = elim (cases_lt q n) [ inl h ↦ below h | inr h ↦ (let e = t.rest q h in omega arith) ]
    where
      unmarked : (h : q < n) → get_or old q 0 ≡ never → (get_or new q 0 < round → get_or old q 0 < round) × (get_or old q 0 < round → get_or new q 0 < round)
      unmarked h e = elim (t.marked q h e) [ inl a ↦ (let x = a.0 in omega arith) | inr a ↦ (let x = a.0 in omega arith) ]

      below : q < n → (get_or new q 0 < round → get_or old q 0 < round) × (get_or old q 0 < round → get_or new q 0 < round)
      below h = elim (cases_lt (get_or old q 0) never) [ inl l ↦ (let e = t.kept q h l in omega arith) | inr l ↦ unmarked h (omega (arith, fits q)) ]

  Fresh : ℕ → List ℕ → Type 0
  Fresh n new = (k : ℕ) × (k < n) × (get_or old k 0 ≡ never) × (get_or new k 0 ≡ round)

  grown : (n : ℕ) (new : List ℕ) (fresh : Bool) → ((k : ℕ) → n ≤ k → get_or new k 0 ≡ get_or old k 0) → Decides fresh (Fresh n new) → Decides fresh (Fresh (n + 1) new)
  unfolding Fresh
  grown n new fresh past = Decides-like fresh
      (λ f. let l = f.1 in (f.0, omega arith, f.2, f.3))
      (λ f. elim (cases_lt f.0 n) [ inl l ↦ (f.0, l, f.2, f.3) | inr l ↦ absurd (let e = past f.0 l in let a = f.2 in let b = f.3 in omega arith) ])

  pub round_set : (n : ℕ) (new : List ℕ) (fresh : Bool) → RoundDone g n old new round fresh → n < length new → get_or new n 0 ≡ never → ForcesInto g (MarkedBelow new round) n → RoundDone g (n + 1) old (set new n round) round true
  round_set n new fresh t lt e next =
      let before : get_or old n 0 ≡ never = omega (arith, t.rest n (omega arith)) in
      let next' = into_map g wf (MarkedBelow new round) (MarkedBelow old round) (λ q lt. (same n new fresh t q).0) n next in
      record {
        rest = λ k h. rw (get_or-set_other new n k round 0 (omega arith)) (t.rest k (omega arith));
        kept = below_more _ n (λ k h l. rw (get_or-set_other new n k round 0 (omega arith)) (t.kept k h l)) (λ l. absurd (omega arith));
        marked = below_more _ n (λ k h e'. rw (get_or-set_other new n k round 0 (omega arith)) (t.marked k h e')) (λ e'. inl (get_or-set_same new n round 0 lt, next'));
        news = (λ _. (n, omega arith, before, get_or-set_same new n round 0 lt), λ _. refl);
      }

  pub round_old : (n : ℕ) (new : List ℕ) (fresh : Bool) → RoundDone g n old new round fresh → get_or new n 0 < never → RoundDone g (n + 1) old new round fresh
  unfolding Fresh
  round_old n new fresh t e =
      let at = t.rest n (omega arith) in
      record {
        rest = λ k h. t.rest k (omega arith);
        kept = below_more _ n t.kept (λ l. at);
        marked = below_more _ n t.marked (λ e'. absurd (omega arith));
        news = grown n new fresh t.rest t.news;
      }

  pub round_not : (n : ℕ) (new : List ℕ) (fresh : Bool) → RoundDone g n old new round fresh → get_or new n 0 ≡ never → (ForcesInto g (MarkedBelow new round) n → ⊥) → RoundDone g (n + 1) old new round fresh
  unfolding Fresh
  round_not n new fresh t e next =
      let at = t.rest n (omega arith) in
      record {
        rest = λ k h. t.rest k (omega arith);
        kept = below_more _ n t.kept (λ l. at);
        marked = below_more _ n t.marked (λ e'. inr (e, λ h. next (into_map g wf (MarkedBelow old round) (MarkedBelow new round) (λ q lt. (same n new fresh t q).1) n h)));
        news = grown n new fresh t.rest t.news;
      }

-- a round leaves what is behind the places as it was, wherever it stops
pub round_kept : (g : Game) (n : ℕ) (old new : List ℕ) (round : ℕ) (fresh : Bool) → RoundDone g n old new round fresh → n ≤ g.places → length new ≡ length old → KeptFrom g.places old new
round_kept g n old new round fresh t inside size = record { same_length = size; same_rest = λ k h. t.rest k (omega arith) }
