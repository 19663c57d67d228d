-- Forcing a target: more moves force no less, the forced marks settle, and each place has one.
use Rattle.std.proofs.Common.{◌≡◌, ℕ, zero, suc, ◌<◌, ◌≤◌, Some, None, Option, sym, refl, ◌∙◌, subst, inl, inr, eq-or-lt_of_le, arith}
use native.Mathlib.Decide.{ℕ_discrete}
use Rattle.game.specs.Game.{Place, Game, WellFormed}
use Rattle.game.specs.Fill.{Choice}
use Rattle.game.specs.Forced.{foe, ForcesInto, Forces, IsForced}
use Rattle.game.proofs.Theorems.{ForcedSettles}
use Rattle.game.proofs.Base.{none_some, some_inj, choice_dec, choice_map}
use Rattle.game.proofs.Bounded.{least_below, settles}
use Rattle.game.proofs.Force.{sound_at}

-- by way of targets, which are places
pub into_map : (g : Game) → WellFormed g → (P Q : ℕ → Type 0) → ((q : ℕ) → q < g.places → P q → Q q) → (p : ℕ) → ForcesInto g P p → ForcesInto g Q p
into_map g wf P Q f p w = (
  w.0,
  w.1,
  choice_map (foe w.0.owner) w.0.moves (λ e. P e.target) (λ e. Q e.target)
      (λ m e h x. f e.target ((sound_at g wf p w.0 w.1).sound.targets m e h) x) w.2,
)

module _ (g : Game) (wf : WellFormed g) (target : ℕ) where
  more : (i p : ℕ) → Forces g target i p → Forces g target (suc i) p
  more zero p h = inl h
  more (suc i) p (inl e) = inl e
  more (suc i) p (inr w) = inr (into_map g wf (Forces g target i) (Forces g target (suc i)) (λ q lt. more i q) p w)

  pub forces_longer : (i j p : ℕ) → i ≤ j → Forces g target i p → Forces g target j p
  forces_longer i zero p le h = let e : i ≡ 0 = omega arith in subst (λ (x : ℕ). Forces g target x p) e h
  forces_longer i (suc j) p le h =
      elim (eq-or-lt_of_le le) [ inl e ↦ subst (λ (x : ℕ). Forces g target x p) e h | inr lt ↦ more j p (forces_longer i j p (omega arith) h) ]

pub forced_settles : ForcedSettles
forced_settles g wf target i stop zero p lt f = forces_longer g wf target 0 i p (omega arith) f
forced_settles g wf target i stop (suc k) p lt (inl e) = forces_longer g wf target 0 i p (omega arith) e
forced_settles g wf target i stop (suc k) p lt (inr w) =
    stop p lt (inr (into_map g wf (Forces g target k) (Forces g target i) (λ q less. forced_settles g wf target i stop k q less) p w))

-- ---- each place has a forced mark
forces_dec : (g : Game) (target i p : ℕ) → Dec (Forces g target i p)
forces_dec g target zero p = ℕ_discrete p target
forces_dec g target (suc i) p = go (ℕ_discrete p target) (g.at p) refl (λ (q : Place). choice_dec (foe q.owner) q.moves (λ e. Forces g target i e.target) (λ e. forces_dec g target i e.target))
  where
    go : Dec (p ≡ target) → (o : Option Place) → g.at p ≡ o → ((q : Place) → Dec (Choice (foe q.owner) q.moves (λ e. Forces g target i e.target))) → Dec (Forces g target (suc i) p)
    go (yes e) o h dec = yes (inl e)
    go (no n) None h dec = no (elim [ inl e ↦ n e | inr w ↦ none_some (sym h ∙ w.1) ])
    go (no n) (Some q) h dec = elim (dec q) [
      | yes c ↦ yes (inr (q, h, c))
      | no m ↦ no (elim [ inl e ↦ n e | inr w ↦ m (subst (λ (r : Place). Choice (foe r.owner) r.moves (λ e. Forces g target i e.target)) (some_inj (sym w.1 ∙ h)) w.2) ])
    ]

pub forced_mark : (g : Game) → WellFormed g → (target p : ℕ) → p < g.places → (o : Option ℕ) × IsForced g target p o
forced_mark g wf target p lt = go (forces_dec g target w.0 p)
  where
    w : (j : ℕ) × (j ≤ g.places) × ((k : ℕ) → k < g.places → Forces g target (suc j) k → Forces g target j k)
    w = settles g.places (Forces g target) (forces_dec g target) (more g wf target)

    go : Dec (Forces g target w.0 p) → (o : Option ℕ) × IsForced g target p o
    go (no n) = (None, λ i f. n (forced_settles g wf target w.0 w.2 i p lt f))
    go (yes f) = elim (least_below (λ i. Forces g target i p) (λ i. forces_dec g target i p) (suc w.0)) [
      | inl none ↦ absurd (none w.0 (omega arith) f)
      | inr l ↦ (Some l.0, (l.2, l.3))
    ]
