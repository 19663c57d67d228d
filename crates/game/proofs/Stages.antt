-- Over a vessel with a top, goodness is decided: some stage up to places × (top + 1) repeats, and what holds then is good.
use Rattle.std.proofs.Common.{◌≡◌, ℕ, suc, ◌+◌, ◌*◌, ◌/◌, ◌%◌, ◌<◌, ◌≤◌, ◌⊎◌, ℤ, Some, inl, inr, arith}
use lib.Arith.{digits_lt, digits_div, digits_mod}
use Rattle.game.specs.Game.{Game, WellFormed}
use Rattle.game.specs.Vessel.{Table, Hopper}
use Rattle.game.specs.Fill.{Step, Holds, Good, IsMark}
use Rattle.game.proofs.Base.{stable, good_by, holds_dec, holds_pred, not_dec}
use Rattle.game.proofs.Force.{sound_at}
use Rattle.game.proofs.Lip.{step_through}
use Rattle.game.proofs.Bounded.{least_below, settles}

-- what holds for j moves, up to the top, holds for one more
abbrev pub Stage : Game → Hopper → ℕ → Type 0
Stage g v j = (p : ℕ) → p < g.places → (c : ℕ) → c < suc v.top → Holds g v.table j p c → Holds g v.table (suc j) p c

-- the stage that repeats
pub last_stage : (g : Game) (v : Hopper) → (j : ℕ) × (j ≤ g.places * (v.top + 1)) × Stage g v j
last_stage g v = (w.0, w.1, λ p lt c small h. stable (holds_dec g v.table (suc w.0) p c) (λ n. at p lt c (omega arith) n h))
  where
    w : (j : ℕ) × (j ≤ g.places * (v.top + 1)) × ((k : ℕ) → k < g.places * (v.top + 1) → ¬ Holds g v.table (suc j) (k / (v.top + 1)) (k % (v.top + 1)) → ¬ Holds g v.table j (k / (v.top + 1)) (k % (v.top + 1)))
    w =
        settles (g.places * (v.top + 1)) (λ j k. ¬ Holds g v.table j (k / (v.top + 1)) (k % (v.top + 1)))
        (λ j k. not_dec (holds_dec g v.table j (k / (v.top + 1)) (k % (v.top + 1)))) (λ j k n h. n (holds_pred g v.table j (k / (v.top + 1)) (k % (v.top + 1)) h))

    at : (p : ℕ) → p < g.places → (c : ℕ) → c < v.top + 1 → ¬ Holds g v.table (suc w.0) p c → ¬ Holds g v.table w.0 p c
    at p lt c small n h = w.2 (p * (v.top + 1) + c) (digits_lt lt small) (rw (digits_div p small, digits_mod p small) n) (rw (digits_div p small, digits_mod p small) h)

module _ (g : Game) (wf : WellFormed g) (v : Hopper) (within : (c : ℕ) (a : ℤ) (d : ℕ) → v.table c a ≡ Some d → d ≤ v.top) where
  -- what holds at a stage that repeats is good
  At : ℕ → ℕ → ℕ → Type 0
  At j p c = (p < g.places) × (c ≤ v.top) × Holds g v.table j p c

  stage_step : (j : ℕ) → Stage g v j → (p c : ℕ) → At j p c → Step g v.table (At j) p c
  unfolding At
  stage_step j stage p c s =
      step_through g wf v.table v.table (Holds g v.table j) (At j) p c c
      (λ q at m e mv th. (th.0, th.1, ((sound_at g wf p q at).sound.targets m e mv, within c e.amount th.0 th.1, th.2)))
      (stage p s.0 c (omega (arith, s.1)) s.2)

  pub stage_good : (j : ℕ) → Stage g v j → (p c : ℕ) → p < g.places → c ≤ v.top → Holds g v.table j p c → Good g v.table p c
  unfolding At
  stage_good j stage p c lt le h i = good_by g v.table (At j) (stage_step j stage) i p c (lt, le, h)

  pub last_good : (p c : ℕ) → p < g.places → c ≤ v.top → Holds g v.table (last_stage g v).0 p c → Good g v.table p c
  last_good = stage_good (last_stage g v).0 (last_stage g v).2

  pub good_dec : (p c : ℕ) → p < g.places → c ≤ v.top → Dec (Good g v.table p c)
  good_dec p c lt le = go (holds_dec g v.table (last_stage g v).0 p c)
    where
      go : Dec (Holds g v.table (last_stage g v).0 p c) → Dec (Good g v.table p c)
      go (yes h) = yes (last_good p c lt le h)
      go (no n) = no (λ good. n (good (last_stage g v).0))

-- ---- the mark of a fill
module _ (g : Game) (t : Table) (p c : ℕ) where
  pub mark_below : (n : ℕ) → ¬ Holds g t n p c → (i : ℕ) × (i ≤ n) × IsMark g t p c (Some i)
  mark_below n not = go (least_below (λ i. ¬ Holds g t i p c) (λ i. not_dec (holds_dec g t i p c)) (suc n))
    where
      go : ((i : ℕ) → i < suc n → ¬ ¬ Holds g t i p c) ⊎ ((i : ℕ) × (i < suc n) × ¬ Holds g t i p c × ((j : ℕ) → j < i → ¬ ¬ Holds g t j p c))
          → (i : ℕ) × (i ≤ n) × IsMark g t p c (Some i)
      go (inl all) = absurd (all n (omega arith) not)
      go (inr w) = (w.0, omega (arith, w.1), (w.2, λ j lt. stable (holds_dec g t j p c) (w.3 j lt)))
