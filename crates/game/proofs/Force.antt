-- Plans that make the best move of each position, by an order in which the moves of a place compare; so the other side forces a refusal from what does not hold, and what holds has a plan.
use Rattle.std.proofs.Common.{◌≡◌, ℕ, zero, suc, ◌+◌, ◌-◌, ◌<◌, ◌≤◌, ◌⊎◌, List, [], ◌∷◌, length, Some, None, Option, sym, refl, ap, ◌∙◌, subst, inl, inr, arith}
use native.Mathlib.Decide.{dec_lt, dec_le}
use Rattle.std.specs.List.{slice_get}
use Rattle.game.specs.Game.{Owner, Ours, Theirs, Edge, Place, Game, SoundPlace, WellFormed}
use Rattle.game.specs.Vessel.{Table}
use Rattle.game.specs.Fill.{Choice, Step, Holds}
use Rattle.game.specs.Play.{Plan, after, IsMove, Leads, Legal, LegalOver, chosen, RefusedWithin}
use Rattle.game.proofs.Theorems.{NotHeldIsForced, HeldHasPlan}
use Rattle.game.proofs.Base.{none_some, some_inj, SomeMove, EachMove, each_cons, Through, pours_dec, holds_dec, holds_le}
use Rattle.game.proofs.Bounded.{search_below}

pub ours_theirs : Ours ≡ Theirs → ⊥
ours_theirs e = let z : ◌≡◌ {A = ℕ} 0 1 = cc in omega arith

pub first_of : (ms : List Edge) → 1 ≤ length ms → (e : Edge) × (slice_get ms 0 ≡ Some e)
first_of [] h = absurd (omega arith)
first_of (e ∷ es) h = (e, refl)

module _ (g : Game) (wf : WellFormed g) where
  pub sound_at : (p : ℕ) (q : Place) → g.at p ≡ Some q → SoundPlace g q
  sound_at p q h = go (dec_lt p g.places)
    where
      go : Dec (p < g.places) → SoundPlace g q
      go (yes lt) = let w = wf.here p lt in subst (SoundPlace g) (some_inj (sym w.1 ∙ h)) w.2
      go (no n) = absurd (none_some (sym (wf.gone p (omega arith)) ∙ h))

pub legal_after : (g : Game) (o : Owner) (p m : ℕ) (e : Edge) (plan : Plan) → IsMove g p m e → Legal g o p plan → Legal g o e.target (after m plan)
legal_after g o p m e plan mv legal run p' q leads h own = legal (m ∷ run) p' q (e, mv, leads) h own

over_after : (g : Game) (t : Table) (o : Owner) (p c m : ℕ) (e : Edge) (d : ℕ) (plan : Plan) → IsMove g p m e → t c e.amount ≡ Some d
    → LegalOver g t o p c plan → LegalOver g t o e.target d (after m plan)
over_after g t o p c m e d plan mv k legal run p' c' q poured h own = legal (m ∷ run) p' c' q (e, mv, d, k, poured) h own

-- ---- picks
-- the place that a move leads to
abbrev pub led : Game → ℕ → ℕ → ℕ
led g p m = elim (g.at p) [ None ↦ 0 | Some q ↦ elim (slice_get q.moves m) [ None ↦ 0 | Some e ↦ e.target ] ]

pub led_by : (g : Game) (p m : ℕ) (e : Edge) → IsMove g p m e → led g p m ≡ e.target
led_by g p m e mv = cc

-- the plan that makes the picked move of each position
abbrev pub walk : {X : Type 0} → (X → ℕ → X) → (X → ℕ) → X → Plan
walk go pick x [] = pick x
walk go pick x (m ∷ run) = walk go pick (go x m) run

-- of the place's moves, move m comes first
abbrev pub Picked : (Edge → Edge → Type 0) → ℕ → Place → Type 0
Picked R m q = (e : Edge) × (slice_get q.moves m ≡ Some e) × EachMove q.moves (R e)

-- a pick for each position, and it makes a legal plan
pub record Picks (g : Game) {X : Type 0} (place : X → ℕ) (go : X → ℕ → X) (R : X → Edge → Edge → Type 0) : Type 0 where
  pub pick : X → ℕ
  pub first : (x : X) (q : Place) → g.at (place x) ≡ Some q → Picked (R x) (pick x) q
  pub legal : (o : Owner) (x : X) → Legal g o (place x) (walk go pick x)

-- of some moves that compare, one comes first
module _ (P : Edge → Type 0) (R : Edge → Edge → Type 0) (same : (a : Edge) → R a a) (trans : (a b c : Edge) → R a b → R b c → R a c)
    (compare : (a b : Edge) → P a → P b → R a b ⊎ R b a) where
  abbrev First : List Edge → Edge → Type 0
  First ms e = P e × EachMove ms (R e)

  first : (ms : List Edge) → 1 ≤ length ms → EachMove ms P → SomeMove ms (First ms)
  first [] some each = absurd (omega arith)
  first (x ∷ []) some each = (0, x, refl, (each 0 x refl, each_cons (R x) x [] (same x) (λ m e h. absurd (none_some h))))
  first (x ∷ y ∷ ys) some each = go (first (y ∷ ys) (omega arith) (λ m e h. each (suc m) e h))
    where
      go : SomeMove (y ∷ ys) (First (y ∷ ys)) → SomeMove (x ∷ y ∷ ys) (First (x ∷ y ∷ ys))
      go (m, e, h, (pe, f)) = elim (compare x e (each 0 x refl) pe) [
        | inl r ↦ (0, x, refl, (each 0 x refl, each_cons (R x) x (y ∷ ys) (same x) (λ k e' h'. trans x e e' r (f k e' h'))))
        | inr r ↦ (suc m, e, h, (pe, each_cons (R e) x (y ∷ ys) r f))
      ]

module _ (g : Game) (wf : WellFormed g) {X : Type 0} (place : X → ℕ) (go : X → ℕ → X) (on : (x : X) (m : ℕ) → place (go x m) ≡ led g (place x) m)
    (R : X → Edge → Edge → Type 0) (same : (x : X) (a : Edge) → R x a a) (trans : (x : X) (a b c : Edge) → R x a b → R x b c → R x a c)
    (compare : (x : X) (a b : Edge) → a.target < g.places → b.target < g.places → R x a b ⊎ R x b a) where
  picked : (x : X) → (m : ℕ) × ((q : Place) → g.at (place x) ≡ Some q → Picked (R x) m q)
  picked x = at (g.at (place x)) refl
    where
      at : (o : Option Place) → g.at (place x) ≡ o → (m : ℕ) × ((q : Place) → g.at (place x) ≡ Some q → Picked (R x) m q)
      at None h = (0, λ q h'. absurd (none_some (sym h ∙ h')))
      at (Some q) h =
          let s = sound_at g wf (place x) q h in
          let f = first (λ e. e.target < g.places) (R x) (same x) (trans x) (compare x) q.moves s.sound.some_move s.sound.targets in
          (f.0, λ q' h'. subst (Picked (R x) f.0) (some_inj (sym h ∙ h')) (f.1, f.2, f.3.1))

  pub picks : Picks g place go R
  picks = record { pick = λ x. (picked x).0; first = λ x. (picked x).1; legal = legal }
    where
      legal : (o : Owner) (x : X) → Legal g o (place x) (walk go (λ x. (picked x).0) x)
      legal o x [] p' q leads h own = let w = (picked x).1 q (ap g.at leads ∙ h) in (w.0, w.1)
      legal o x (m ∷ run) p' q leads h own =
          let same : leads.0.target ≡ place (go x m) = sym (on x m ∙ led_by g (place x) m leads.0 leads.1) in
          legal o (go x m) run p' q (subst (λ (p : ℕ). Leads g p run p') same leads.2) h own

-- what we can have of a move, or what each of their moves has, the first move of ours and each of theirs has
pub chosen_has : (P : Edge → Type 0) (q : Place) (n : ℕ) → Picked (λ a b. P b → P a) n q → Choice q.owner q.moves P
    → (m : ℕ) (e : Edge) → slice_get q.moves m ≡ Some e → (q.owner ≡ Ours → m ≡ n) → P e
chosen_has P q n f ch = go q.owner q.moves f ch
  where
    go : (o : Owner) (ms : List Edge) → Picked (λ a b. P b → P a) n (record { owner = o; moves = ms }) → Choice o ms P
        → (m : ℕ) (e : Edge) → slice_get ms m ≡ Some e → (o ≡ Ours → m ≡ n) → P e
    go Ours ms f ch m e mv own = subst P (some_inj (sym f.1 ∙ (ap (slice_get ms) (sym (own refl)) ∙ mv))) (f.2 ch.0 ch.1 ch.2 ch.3)
    go Theirs ms f ch m e mv own = ch m e mv

-- ---- fills
abbrev level : Game → Table → ℕ → ℕ → ℕ → ℕ
level g t p c m = elim (g.at p) [
  | None ↦ 0
  | Some q ↦ elim (slice_get q.moves m) [ None ↦ 0 | Some e ↦ elim (t c e.amount) [ None ↦ 0 | Some d ↦ d ] ]
]

-- the place and level that a move leads to
abbrev pub poured : Game → Table → ℕ × ℕ → ℕ → ℕ × ℕ
poured g t x m = (led g x.0 m, level g t x.0 x.1 m)

-- the plan that makes the picked move of each fill
abbrev pub follow : Game → Table → (ℕ × ℕ → ℕ) → ℕ → ℕ → Plan
follow g t pick p c = walk (poured g t) pick (p, c)

pub follow_after : (g : Game) (t : Table) (pick : ℕ × ℕ → ℕ) (p c m d : ℕ) (e : Edge) → IsMove g p m e → t c e.amount ≡ Some d
    → after m (follow g t pick p c) ≡ follow g t pick e.target d
follow_after g t pick p c m d e mv h = let same : poured g t (p, c) m ≡ (e.target, d) = cc in ap (walk (poured g t) pick) same

-- a plan whose moves lead from A (i + 1) to A i has none of i moves refused from there
module _ (g : Game) (t : Table) (A : ℕ → ℕ → ℕ → Type 0) (pick : ℕ × ℕ → ℕ)
    (keep : (i p c : ℕ) (q : Place) → A (suc i) p c → g.at p ≡ Some q → (m : ℕ) (e : Edge) → slice_get q.moves m ≡ Some e → (q.owner ≡ Ours → m ≡ pick (p, c)) → Through t (A i) c e) where
  kept : (i p c : ℕ) → A (suc i) p c → (theirs : Plan) (q : Place) → g.at p ≡ Some q → (e : Edge) → slice_get q.moves (chosen q.owner (follow g t pick p c) theirs) ≡ Some e
      → Through t (A i) c e
  kept i p c a theirs q h e mv = keep i p c q a h (chosen q.owner (follow g t pick p c) theirs) e mv (own q.owner)
    where
      own : (o : Owner) → o ≡ Ours → chosen o (follow g t pick p c) theirs ≡ pick (p, c)
      own Ours k = refl
      own Theirs k = absurd (ours_theirs (sym k))

  pub unrefused : (i p c : ℕ) → A i p c → (theirs : Plan) → ¬ RefusedWithin g t i p c (follow g t pick p c) theirs
  unrefused zero p c a theirs r = r
  unrefused (suc i) p c a theirs (q, h, e, mv, inl none) = none_some (sym none ∙ (kept i p c a theirs q h e mv).1)
  unrefused (suc i) p c a theirs (q, h, e, mv, inr (d, k, r)) =
      let m = chosen q.owner (follow g t pick p c) theirs in
      let th = kept i p c a theirs q h e mv in
      unrefused i e.target d (subst (A i e.target) (some_inj (sym th.1 ∙ k)) th.2) (after m theirs)
      (subst (λ (plan : Plan). RefusedWithin g t i e.target d plan (after m theirs)) (follow_after g t pick p c m d e (q, h, mv) k) r)

pub step_choice : (g : Game) (t : Table) (S : ℕ → ℕ → Type 0) (p c : ℕ) (q : Place) → g.at p ≡ Some q → Step g t S p c → Choice q.owner q.moves (Through t S c)
step_choice g t S p c q h w = subst (λ (r : Place). Choice r.owner r.moves (Through t S c)) (some_inj (sym w.1 ∙ h)) w.2

-- the move by which a fill holds no longer, for n moves, comes first or last
module _ (g : Game) (wf : WellFormed g) (t : Table) (n : ℕ) where
  -- for n moves the first of two moves is no better than the second
  abbrev NoBetter : ℕ → Edge → Edge → Type 0
  NoBetter c a b = (j : ℕ) → j ≤ n → Through t (Holds g t j) c a → Through t (Holds g t j) c b

  shorter : (i j c : ℕ) (e : Edge) → i ≤ j → Through t (Holds g t j) c e → Through t (Holds g t i) c e
  shorter i j c e le w = let k : j ≡ j - i + i = omega arith in (w.0, w.1, holds_le g t (j - i) i e.target w.0 (subst (λ (x : ℕ). Holds g t x e.target w.0) k w.2))

  compare : (c : ℕ) (a b : Edge) → NoBetter c a b ⊎ NoBetter c b a
  compare c a b =
      elim (search_below (suc n) (λ j. Through t (Holds g t j) c a → Through t (Holds g t j) c b) (λ j. Through t (Holds g t j) c a × ¬ Through t (Holds g t j) c b)
      (λ j lt. at (dec j a) (dec j b))) [
        | inl all ↦ inl (λ j le. all j (omega arith))
        | inr w ↦ inr (λ k le h. elim (dec_le k w.0) [ yes less ↦ shorter k w.0 c a less w.2.0 | no not ↦ absurd (w.2.1 (shorter w.0 k c b (omega arith) h)) ])
      ]
    where
      dec : (j : ℕ) (e : Edge) → Dec (Through t (Holds g t j) c e)
      dec j e = pours_dec (t c e.amount) (Holds g t j e.target) (holds_dec g t j e.target)

      at : {A B : Type 0} → Dec A → Dec B → (A → B) ⊎ (A × ¬ B)
      at (yes a) (yes b) = inl (λ _. b)
      at (yes a) (no n) = inr (a, n)
      at (no n) d = inl (λ a. absurd (n a))

  best : Picks g (λ x. x.0) (poured g t) (λ x a b. NoBetter x.1 b a)
  best = picks g wf (λ x. x.0) (poured g t) (λ x m. refl) (λ x a b. NoBetter x.1 b a) (λ x a j le h. h) (λ x a b c r s j le h. r j le (s j le h)) (λ x a b la lb. compare x.1 b a)

  worst : Picks g (λ x. x.0) (poured g t) (λ x a b. NoBetter x.1 a b)
  worst = picks g wf (λ x. x.0) (poured g t) (λ x m. refl) (λ x a b. NoBetter x.1 a b) (λ x a j le h. h) (λ x a b c r s j le h. s j le (r j le h)) (λ x a b la lb. compare x.1 a b)

  forced : (i p c : ℕ) → i ≤ n → p < g.places → ¬ Holds g t i p c → (ours : Plan) → LegalOver g t Ours p c ours → RefusedWithin g t i p c ours (follow g t worst.pick p c)
  forced zero p c le lt bad ours legal = absurd (bad tt)
  forced (suc i) p c le lt bad ours legal =
      let w = wf.here p lt in
      let m = chosen w.0.owner ours (follow g t worst.pick p c) in
      let x = go w.0.owner w.0.moves w.1 (λ ch. bad (w.0, w.1, ch)) in
      let mv : IsMove g p m x.0 = (w.0, w.1, x.1) in (
        w.0,
        w.1,
        x.0,
        x.1,
        refused_or (t c x.0.amount) (λ d. RefusedWithin g t i x.0.target d (after m ours) (after m (follow g t worst.pick p c)))
            (λ d k.
            subst (RefusedWithin g t i x.0.target d (after m ours)) (sym (follow_after g t worst.pick p c m d x.0 mv k))
            (forced i x.0.target d (omega (arith, le)) (w.2.sound.targets m x.0 x.1) (λ y. x.2 (d, k, y)) (after m ours) (over_after g t Ours p c m x.0 d ours mv k legal))),
      )
    where
      refused_or : (o : Option ℕ) (Q : ℕ → Type 0) → ((d : ℕ) → o ≡ Some d → Q d) → (o ≡ None) ⊎ ((d : ℕ) × (o ≡ Some d) × Q d)
      refused_or None Q f = inl refl
      refused_or (Some d) Q f = inr (d, refl, f d refl)

      go : (o : Owner) (ms : List Edge) → g.at p ≡ Some (record { owner = o; moves = ms }) → ¬ Choice o ms (Through t (Holds g t i) c)
          → (e : Edge) × (slice_get ms (chosen o ours (follow g t worst.pick p c)) ≡ Some e) × ¬ Through t (Holds g t i) c e
      go Ours ms h bad = let f = legal [] p c (record { owner = Ours; moves = ms }) (refl, refl) h refl in (f.0, f.1, λ y. bad (ours [], f.0, f.1, y))
      go Theirs ms h bad =
          let f = worst.first (p, c) (record { owner = Theirs; moves = ms }) h in
          (f.0, f.1, λ y. bad (λ k e mv. f.2 k e mv i (omega (arith, le)) y))

pub not_held_is_forced : NotHeldIsForced
not_held_is_forced g wf t i p c lt bad = let w = worst g wf t i in (follow g t w.pick p c, w.legal Theirs (p, c), forced g wf t i i p c (omega arith) lt bad)

pub held_has_plan : HeldHasPlan
held_has_plan g wf t i p c holds =
    let w = best g wf t i in
    (follow g t w.pick p c, w.legal Ours (p, c), unrefused g t (λ j p c. (j ≤ i) × Holds g t j p c) w.pick keep i p c (omega arith, holds))
  where
    keep : (j p c : ℕ) (q : Place) → (suc j ≤ i) × Holds g t (suc j) p c → g.at p ≡ Some q → (m : ℕ) (e : Edge) → slice_get q.moves m ≡ Some e → (q.owner ≡ Ours → m ≡ (best g wf t i).pick (p, c))
        → Through t (λ p c. (j ≤ i) × Holds g t j p c) c e
    keep j p c q a h m e mv own =
        let f = (best g wf t i).first (p, c) q h in
        let th = chosen_has (Through t (Holds g t j) c) q ((best g wf t i).pick (p, c)) (f.0, f.1, λ k x at. f.2 k x at j (omega (arith, a.0)))
        (step_choice g t (Holds g t j) p c q h a.1) m e mv own in
        (th.0, th.1, (omega (arith, a.0), th.2))
