-- A plan for ever, from a decided set that a step keeps; goodness is such a set.
use Rattle.std.proofs.Common.{◌≡◌, ℕ, suc, ◌+◌, ◌<◌, ◌≤◌, ◌⊎◌, List, [], ◌∷◌, Some, None, Option, sym, refl, ◌∙◌, subst, inl, inr, arith}
use native.Mathlib.Decide.{dec_lt, dec_le}
use Rattle.std.specs.List.{slice_get}
use Rattle.game.specs.Game.{Owner, Ours, Theirs, Edge, Place, Game, WellFormed}
use Rattle.game.specs.Vessel.{Table, Hopper}
use Rattle.game.specs.Fill.{Choice, Step, Holds, Good}
use Rattle.game.specs.Play.{WeHoldForever}
use Rattle.game.proofs.Base.{none_some, some_inj, stable, SomeMove, EachMove, each_cons, find, Through, pours_dec, holds_dec, holds_le}
use Rattle.game.proofs.Force.{Picks, picks, chosen_has, poured, follow, unrefused, step_choice}
use Rattle.game.proofs.Levels.{good_level}

-- ---- good fills lead to good fills
module _ (g : Game) (t : Table) where
  bound_one : (c : ℕ) (e : Edge) → ¬ Through t (Good g t) c e → ¬ ¬ ((i : ℕ) × ¬ Through t (Holds g t i) c e)
  bound_one c e n k = go (t c e.amount) refl
    where
      go : (o : Option ℕ) → t c e.amount ≡ o → ⊥
      go None h = k (0, λ w. none_some (sym h ∙ w.1))
      go (Some d) h =
          n (d, h, λ i. stable (holds_dec g t i e.target d) (λ bad. k (i, λ w. bad (subst (Holds g t i e.target) (some_inj (sym w.1 ∙ h)) w.2))))

  through_le : (k i c : ℕ) (e : Edge) → Through t (Holds g t (k + i)) c e → Through t (Holds g t i) c e
  through_le k i c e w = (w.0, w.1, holds_le g t k i e.target w.0 w.2)

  bound : (c : ℕ) (ms : List Edge) → EachMove ms (λ e. ¬ Through t (Good g t) c e)
      → ¬ ¬ ((i : ℕ) × EachMove ms (λ e. ¬ Through t (Holds g t i) c e))
  bound c [] f k = k (0, λ m e h. absurd (none_some h))
  bound c (x ∷ xs) f k =
      bound_one c x (f 0 x refl) (λ a. bound c xs (λ m e h. f (suc m) e h)
      (λ b. k (
        b.0 + a.0,
        each_cons (λ e. ¬ Through t (Holds g t (b.0 + a.0)) c e) x xs (λ w. a.1 (through_le b.0 a.0 c x w))
            (λ m e h w. b.1 m e h (through_le a.0 b.0 c e (subst (λ (n : ℕ). Through t (Holds g t n) c e) (omega arith) w))),
      )))

  good_choice : ((p c : ℕ) → Dec (Good g t p c)) → (p c : ℕ) (o : Owner) (ms : List Edge) → g.at p ≡ Some (record { owner = o; moves = ms })
      → Good g t p c → Choice o ms (Through t (Good g t) c)
  good_choice dec p c Ours ms h good = go (find ms (Through t (Good g t) c) (λ e. pours_dec (t c e.amount) (Good g t e.target) (dec e.target)))
    where
      go : SomeMove ms (Through t (Good g t) c) ⊎ EachMove ms (λ e. ¬ Through t (Good g t) c e) → SomeMove ms (Through t (Good g t) c)
      go (inl w) = w
      go (inr f) =
          absurd (bound c ms f (λ b.
          let w : SomeMove ms (Through t (Holds g t b.0) c) = step_choice g t (Holds g t b.0) p c (record { owner = Ours; moves = ms }) h (good (suc b.0)) in
          b.1 w.0 w.1 w.2 w.3))
  good_choice dec p c Theirs ms h good = λ m e mv.
      let at : (i : ℕ) → Through t (Holds g t i) c e = λ i. step_choice g t (Holds g t i) p c (record { owner = Theirs; moves = ms }) h (good (suc i)) m e mv in
      ((at 0).0, (at 0).1, λ i. subst (Holds g t i e.target) (some_inj (sym (at i).1 ∙ (at 0).1)) (at i).2)

  pub good_step : ((p c : ℕ) → Dec (Good g t p c)) → (p c : ℕ) → Good g t p c → Step g t (Good g t) p c
  good_step dec p c good =
      let w = good 1 in
      (w.0, w.1, good_choice dec p c w.0.owner w.0.moves w.1 good)

-- ---- a plan for ever
module _ (g : Game) (wf : WellFormed g) (t : Table) (S : ℕ → ℕ → Type 0) (dec : (p c : ℕ) → Dec (S p c)) (keep : (p c : ℕ) → S p c → Step g t S p c) where
  -- a move that leads into S comes before those that do not
  abbrev Sooner : ℕ × ℕ → Edge → Edge → Type 0
  Sooner x a b = Through t S x.1 b → Through t S x.1 a

  pub best : Picks g (λ x. x.0) (poured g t) Sooner
  best = picks g wf (λ x. x.0) (poured g t) (λ x m. refl) Sooner (λ x a h. h) (λ x a b c r s h. r (s h)) (λ x a b la lb. compare x.1 a b)
    where
      compare : (c : ℕ) (a b : Edge) → Sooner (0, c) a b ⊎ Sooner (0, c) b a
      compare c a b = elim (pours_dec (t c a.amount) (S a.target) (dec a.target)) [ yes h ↦ inl (λ _. h) | no n ↦ inr (λ h. absurd (n h)) ]

  pub pick_through : (p c : ℕ) (q : Place) → S p c → g.at p ≡ Some q → (m : ℕ) (e : Edge) → slice_get q.moves m ≡ Some e
      → (q.owner ≡ Ours → m ≡ best.pick (p, c)) → Through t S c e
  pick_through p c q s h = chosen_has (Through t S c) q (best.pick (p, c)) (best.first (p, c) q h) (step_choice g t S p c q h (keep p c s))

  pub forever : (p c : ℕ) → S p c → WeHoldForever g t p c
  forever p c s =
      (follow g t best.pick p c, best.legal Ours (p, c), λ reply r. unrefused g t (λ i. S) best.pick (λ i. pick_through) r.0 p c s reply r.1)

-- goodness is decided everywhere if it is up to the top
abbrev pub Decided : Game → Hopper → Type 0
Decided g v = (p c : ℕ) → p < g.places → c ≤ v.top → Dec (Good g v.table p c)

pub decided : (g : Game) → WellFormed g → (v : Hopper) → ((c : ℕ) (a : _) → v.top < c → v.table c a ≡ None) → Decided g v
    → (p c : ℕ) → Dec (Good g v.table p c)
decided g wf v above dec p c = go (dec_lt p g.places) (dec_le c v.top)
  where
    go : Dec (p < g.places) → Dec (c ≤ v.top) → Dec (Good g v.table p c)
    go (yes lt) (yes le) = dec p c lt le
    go (no n) k = no (λ good. none_some (sym (wf.gone p (omega arith)) ∙ (good 1).1))
    go (yes lt) (no n) = no (λ good. n (good_level g wf v above p c good))
