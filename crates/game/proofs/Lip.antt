-- A lip at the drop sum or higher is as good as none.
use Rattle.std.proofs.Common.{◌≡◌, ℕ, zero, suc, ◌+◌, ◌-◌, ◌<◌, ◌≤◌, min, max, List, [], ◌∷◌, ℤ, pos, negsuc, ◌+ℤ◌, Some, None, Option, sym, refl, ap, ◌∙◌, subst, arith}
use native.Mathlib.Decide.{dec_lt, dec_le}
use Rattle.std.proofs.lemmas.Int.{ints}
use Rattle.std.specs.List.{slice_get}
use Rattle.game.specs.Game.{Edge, Place, Game, WellFormed, InLimits, fall_of, drop_of, drop_at, drop_sum}
use Rattle.game.specs.Vessel.{Table, unlimited, lip, capped}
use Rattle.game.specs.Fill.{Step, Holds, Good, IsLeast, LeastGood}
use Rattle.game.proofs.Theorems.{LipAtDropSumIsNoLip}
use Rattle.game.proofs.Base.{none_some, some_inj, stable, Through, good_stable, choice_map, good_by}
use Rattle.game.proofs.Force.{sound_at}
use Rattle.game.proofs.Sustain.{good_step}
use Rattle.game.proofs.Pour.{up_to_above, unlimited_inv, unlimited_make, lip_inv, lip_make}
use Rattle.game.proofs.Sums.{sum_is, cover_sum, nn_least, nn_choice}
use Rattle.game.proofs.Levels.{good_level}

-- ---- one table simulates another
module _ (g : Game) (wf : WellFormed g) where
  pub step_through : (t t' : Table) (S S' : ℕ → ℕ → Type 0) (p c c' : ℕ)
      → ((q : Place) → g.at p ≡ Some q → (m : ℕ) (e : Edge) → slice_get q.moves m ≡ Some e → Through t S c e → Through t' S' c' e)
      → Step g t S p c → Step g t' S' p c'
  step_through t t' S S' p c c' f w =
      (w.0, w.1, choice_map w.0.owner w.0.moves (Through t S c) (Through t' S' c') (f w.0 w.1) w.2)

  module _ (t t' : Table) (R : ℕ → ℕ → Type 0)
      (sim : (c c' : ℕ) (a : ℤ) (d : ℕ) → R c c' → InLimits a → t c a ≡ Some d → (d' : ℕ) × (t' c' a ≡ Some d') × R d d') where
    pub simulate : (i p c c' : ℕ) → R c c' → Holds g t i p c → Holds g t' i p c'
    simulate zero p c c' r h = tt
    simulate (suc i) p c c' r h =
        step_through t t' (Holds g t i) (Holds g t' i) p c c'
        (λ q at m e mv th.
        let s = sim c c' e.amount th.0 r ((sound_at g wf p q at).amounts m e mv) th.1 in
        (s.0, s.1, simulate i e.target th.0 s.0 s.2 th.2))
        h

sum_more : (c c' n : ℕ) (a : ℤ) → c ≤ c' → pos c +ℤ a ≡ pos n → pos c' +ℤ a ≡ pos (n + (c' - c))
sum_more c c' n a le h = omega (arith, ints)

free_free : (c c' : ℕ) (a : ℤ) (d : ℕ) → c ≤ c' → InLimits a → unlimited c a ≡ Some d → (d' : ℕ) × (unlimited c' a ≡ Some d') × (d ≤ d')
free_free c c' a d le lim h =
    (d + (c' - c), unlimited_make c' a (d + (c' - c)) (sum_more c c' d a le (unlimited_inv c a d h)), omega arith)

lip_free : (b c c' : ℕ) (a : ℤ) (d : ℕ) → c ≤ c' → InLimits a → (lip b).table c a ≡ Some d → (d' : ℕ) × (unlimited c' a ≡ Some d') × (d ≤ d')
lip_free b c c' a d le lim h =
    let w = lip_inv b c a d h in
    (w.1 + (c' - c), unlimited_make c' a (w.1 + (c' - c)) (sum_more c c' w.1 a le w.2), omega (arith, w.3))

-- ---- drops
drop_bounds : (ms : List Edge) (m : ℕ) (e : Edge) → slice_get ms m ≡ Some e → fall_of e.amount ≤ drop_of ms
drop_bounds [] m e h = absurd (none_some h)
drop_bounds (x ∷ xs) zero e h =
    subst (λ (z : Edge). fall_of z.amount ≤ max (fall_of x.amount) (drop_of xs)) (some_inj h) (omega arith)
drop_bounds (x ∷ xs) (suc m) e h = omega (arith, drop_bounds xs m e h)

fall_bounds : (x d : ℕ) (a : ℤ) → pos x +ℤ a ≡ pos d → x ≤ d + fall_of a
fall_bounds x d (pos n) h = omega (arith, ints)
fall_bounds x d (negsuc n) h = omega (arith, ints)

-- ---- the least good fills of the hopper without a lip
abbrev Over : (ℕ → Option ℕ) → ℕ → ℕ → Type 0
Over v p c = (x : ℕ) × (v p ≡ Some x) × (x ≤ c)

-- one less from h on
abbrev lowered : ℕ → ℕ → ℕ
lowered h x = max (x - 1) (min x (h - 1))

abbrev lower : ℕ → (ℕ → Option ℕ) → ℕ → Option ℕ
lower h v p = elim (v p) [ None ↦ None | Some x ↦ Some (lowered h x) ]

lower_inv : (h : ℕ) (o : Option ℕ) (y : ℕ) → (elim o as (λ _. Option ℕ) [ None ↦ None | Some x ↦ Some (lowered h x) ]) ≡ Some y → (x : ℕ) × (o ≡ Some x) × (y ≡ lowered h x)
lower_inv h None y e = absurd (none_some e)
lower_inv h (Some x) y e = (x, refl, sym (some_inj e))

lower_make : (h : ℕ) (v : ℕ → Option ℕ) (p x : ℕ) → v p ≡ Some x → lower h v p ≡ Some (lowered h x)
lower_make h v p x e = ap (λ (o : Option ℕ). elim o as (λ _. Option ℕ) [ None ↦ None | Some x ↦ Some (lowered h x) ]) e

pub least_at_most : (P : ℕ → Type 0) (o : Option ℕ) → IsLeast P o → (c : ℕ) → P c → (x : ℕ) × (o ≡ Some x) × (x ≤ c)
least_at_most P None least c pc = absurd (least c pc)
least_at_most P (Some x) least c pc = (x, refl, go (dec_le x c))
  where
    go : Dec (x ≤ c) → x ≤ c
    go (yes le) = le
    go (no not) = absurd (least.1 c (omega arith) pc)

pub least_is : (P : ℕ → Type 0) (o : Option ℕ) (x : ℕ) → o ≡ Some x → IsLeast P o → P x × ((d : ℕ) → d < x → ¬ P d)
least_is P o x e least = subst (IsLeast P) e least

module _ (g : Game) (wf : WellFormed g) where
  pub free_up : (i p c c' : ℕ) → c ≤ c' → Holds g unlimited i p c → Holds g unlimited i p c'
  free_up = simulate g wf unlimited unlimited (λ c c'. c ≤ c') free_free

  pub place_below : (t : Table) (p c : ℕ) → Holds g t 1 p c → p < g.places
  place_below t p c h = go (dec_lt p g.places)
    where
      go : Dec (p < g.places) → p < g.places
      go (yes lt) = lt
      go (no not) = absurd (none_some (sym (wf.gone p (omega arith)) ∙ h.1))

  -- fills that the moves carry to fills of the same kind are good
  over_good : (v : ℕ → Option ℕ) → ((p x : ℕ) → v p ≡ Some x → Step g unlimited (Over v) p x) → (p x : ℕ) → v p ≡ Some x → Good g unlimited p x
  over_good v keep p x h i = good_by g unlimited (Over v) up i p x (x, h, omega arith)
    where
      up : (p c : ℕ) → Over v p c → Step g unlimited (Over v) p c
      up p c o =
          step_through g wf unlimited unlimited (Over v) (Over v) p o.0 c
          (λ q at m e mv th.
          let s = free_free o.0 c e.amount th.0 o.2 ((sound_at g wf p q at).amounts m e mv) th.1 in
          (s.0, s.1, (th.2.0, th.2.1, omega (arith, th.2.2, s.2))))
          (keep p o.0 o.1)

  module _ (w : ℕ → Option ℕ) (least : (p : ℕ) → p < g.places → LeastGood g unlimited p (w p)) (outside : (p : ℕ) → g.places ≤ p → w p ≡ None) where
    w_below : (p x : ℕ) → w p ≡ Some x → p < g.places
    w_below p x e = go (dec_lt p g.places)
      where
        go : Dec (p < g.places) → p < g.places
        go (yes lt) = lt
        go (no not) = absurd (none_some (sym (outside p (omega arith)) ∙ e))

    good_over : (p c : ℕ) → Good g unlimited p c → Over w p c
    good_over p c good = least_at_most (Good g unlimited p) (w p) (least p (place_below unlimited p c (good 1))) c good

    over_is_good : (p c : ℕ) → p < g.places → Over w p c → Good g unlimited p c
    over_is_good p c lt o i = free_up i p o.0 c o.2 ((least_is (Good g unlimited p) (w p) o.0 o.1 (least p lt)).0 i)

    free_dec : (p c : ℕ) → Dec (Good g unlimited p c)
    free_dec p c = go (dec_lt p g.places) (w p) refl
      where
        at : (x : ℕ) → p < g.places → w p ≡ Some x → Dec (x ≤ c) → Dec (Good g unlimited p c)
        at x lt e (yes le) = yes (over_is_good p c lt (x, e, le))
        at x lt e (no not) = no (λ good. let o = good_over p c good in not (subst (λ (y : ℕ). y ≤ c) (some_inj (sym o.1 ∙ e)) o.2))

        go : Dec (p < g.places) → (o : Option ℕ) → w p ≡ o → Dec (Good g unlimited p c)
        go (no not) o e = no (λ good. not (place_below unlimited p c (good 1)))
        go (yes lt) None e = no (λ good. none_some (sym e ∙ (good_over p c good).1))
        go (yes lt) (Some x) e = at x lt e (dec_le x c)

    w_step : (p x : ℕ) → p < g.places → w p ≡ Some x → Step g unlimited (Over w) p x
    w_step p x lt e =
        step_through g wf unlimited unlimited (Good g unlimited) (Over w) p x x
        (λ q at m e mv th. (th.0, th.1, good_over e.target th.0 th.2))
        (good_step g unlimited free_dec p x (over_is_good p x lt (x, e, omega arith)))

    -- each height up to a least good fill lies within the drop below some least good fill
    Spans : ℕ → Type 0
    Spans h = (y : ℕ) × (y < g.places) × ((x : ℕ) × (w y ≡ Some x) × (h ≤ x) × (x < h + drop_at (g.at y)))

    lower_step : (h : ℕ) → 1 ≤ h → ¬ Spans h → (p x : ℕ) → p < g.places → w p ≡ Some x → Step g unlimited (Over (lower h w)) p (lowered h x)
    unfolding Spans
    lower_step h pos-h none p x lt e =
        step_through g wf unlimited unlimited (Over w) (Over (lower h w)) p x (lowered h x)
        (λ q at m ed mv th. go (dec_le h x) q at m ed mv th)
        (w_step p x lt e)
      where
        go : Dec (h ≤ x) → (q : Place) → g.at p ≡ Some q → (m : ℕ) (ed : Edge) → slice_get q.moves m ≡ Some ed
            → Through unlimited (Over w) x ed → Through unlimited (Over (lower h w)) (lowered h x) ed
        go (no not) q at m ed mv th =
            let same : lowered h x ≡ x = omega arith in
            subst (λ (z : ℕ). Through unlimited (Over (lower h w)) z ed) (sym same)
            (th.0, th.1, (lowered h th.2.0, lower_make h w ed.target th.2.0 th.2.1, omega (arith, th.2.2)))
        go (yes le) q at m ed mv th =
            let d : ℕ = th.0 in
            let y : ℕ = th.2.0 in
            let yd : y ≤ d = th.2.2 in
            let sum : pos x +ℤ ed.amount ≡ pos d = unlimited_inv x ed.amount d th.1 in
            let deep : ¬ (x < h + drop_at (g.at p)) = λ k. none (p, lt, (x, e, le, k)) in
            let dr : drop_at (g.at p) ≡ drop_of q.moves = ap drop_at at in
            let f1 : fall_of ed.amount ≤ drop_of q.moves = drop_bounds q.moves m ed mv in
            let f2 : x ≤ d + fall_of ed.amount = fall_bounds x d ed.amount sum in
            let hd : h ≤ d = omega arith in
            let same : lowered h x ≡ x - 1 = omega arith in
            let sum' : pos (lowered h x) +ℤ ed.amount ≡ pos (d - 1) = ap (λ (z : ℕ). pos z +ℤ ed.amount) same ∙ omega (arith, ints) in
            (d - 1, unlimited_make (lowered h x) ed.amount (d - 1) sum', (lowered h y, lower_make h w ed.target y th.2.1, omega arith))

    spans : (p x : ℕ) → w p ≡ Some x → (h : ℕ) → 1 ≤ h → h ≤ x → ¬ ¬ Spans h
    spans p x e h pos-h le none =
        (least_is (Good g unlimited p) (w p) x e (least p (w_below p x e))).1 (lowered h x) (omega arith)
        (over_good (lower h w) keep p (lowered h x) (lower_make h w p x e))
      where
        keep : (p x : ℕ) → lower h w p ≡ Some x → Step g unlimited (Over (lower h w)) p x
        keep p x k =
            let v = lower_inv h (w p) x k in
            subst (Step g unlimited (Over (lower h w)) p) (sym v.2) (lower_step h pos-h none p v.0 (w_below p v.0 v.1) v.1)

    value : Option ℕ → ℕ
    value None = 0
    value (Some x) = x

    -- no least good fill is above the drop sum
    bounded : (p x : ℕ) → w p ≡ Some x → x ≤ drop_sum g
    unfolding Spans value
    bounded p x e =
        let covered = cover_sum g.places (λ y. value (w y)) (λ y. drop_at (g.at y)) x
        (λ h pos-h le none. spans p x e h pos-h le (λ s.
        let same : value (w s.0) ≡ s.2.0 = ap value s.2.1 in
        none (s.0, s.1, omega (arith, s.2.2), omega (arith, s.2.3)))) in
        omega (arith, covered, sum_is g.places (λ y. drop_at (g.at y)))

    module _ (b : ℕ) (enough : drop_sum g ≤ b) where
      Under : ℕ → ℕ → Type 0
      Under p c = (x : ℕ) × (w p ≡ Some x) × (x ≤ c) × (c ≤ b)

      under_step : (p c : ℕ) → Under p c → Step g (lip b).table Under p c
      unfolding Under
      under_step p c u =
          step_through g wf unlimited (lip b).table (Over w) Under p u.0 c
          (λ q at m e mv th.
          let n : ℕ = th.0 + (c - u.0) in
          let sum : pos c +ℤ e.amount ≡ pos n = sum_more u.0 c th.0 e.amount u.2 (unlimited_inv u.0 e.amount th.0 th.1) in
          let y : ℕ = th.2.0 in
          let y1 : y ≤ th.0 = th.2.2 in
          let y2 : y ≤ drop_sum g = bounded e.target y th.2.1 in
          (min n b, lip_make b c e.amount n u.3 ((sound_at g wf p q at).amounts m e mv) sum, (y, th.2.1, omega arith, omega arith)))
          (w_step p u.0 (w_below p u.0 u.1) u.1)

      free_is_lip : (p c : ℕ) → Good g unlimited p c → c ≤ b → Good g (lip b).table p c
      unfolding Under
      free_is_lip p c good le i =
          let o = good_over p c good in
          good_by g (lip b).table Under under_step i p c (o.0, o.1, o.2, le)

      free_at_drops : (p c : ℕ) → Good g unlimited p c → Good g unlimited p (drop_sum g)
      free_at_drops p c good =
          let o = good_over p c good in
          over_is_good p (drop_sum g) (place_below unlimited p c (good 1)) (o.0, o.1, bounded p o.0 o.1)

  -- ---- the table of least good fills is there under double negation
  cut : (f : ℕ → Option ℕ) (p : ℕ) → Dec (p < g.places) → Option ℕ
  cut f p (yes lt) = f p
  cut f p (no not) = None

  cut_in : (f : ℕ → Option ℕ) (p : ℕ) (d : Dec (p < g.places)) → p < g.places → f p ≡ cut f p d
  unfolding cut
  cut_in f p (yes _) lt = refl
  cut_in f p (no not) lt = absurd (not lt)

  cut_out : (f : ℕ → Option ℕ) (p : ℕ) (d : Dec (p < g.places)) → g.places ≤ p → cut f p d ≡ None
  unfolding cut
  cut_out f p (yes lt) le = absurd (omega arith)
  cut_out f p (no not) le = refl

  with_table : (G : Type 0)
      → ((w : ℕ → Option ℕ) → ((p : ℕ) → p < g.places → LeastGood g unlimited p (w p)) → ((p : ℕ) → g.places ≤ p → w p ≡ None) → G) → ¬ ¬ G
  with_table G f k =
      nn_choice g.places (λ p o. LeastGood g unlimited p o) (λ p. nn_least (Good g unlimited p))
      (λ t. k (f (λ p. cut t.0 p (dec_lt p g.places))
      (λ p lt. subst (LeastGood g unlimited p) (cut_in t.0 p (dec_lt p g.places) lt) (t.1 p lt))
      (λ p le. cut_out t.0 p (dec_lt p g.places) le)))

  module _ (b : ℕ) (enough : drop_sum g ≤ b) where
    pub free→lip : (p c : ℕ) → Good g unlimited p c → c ≤ b → Good g (lip b).table p c
    free→lip p c good le =
        good_stable g (lip b).table p c (with_table (Good g (lip b).table p c) (λ w least outside. free_is_lip w least outside b enough p c good le))

    pub free_drops : (p c : ℕ) → Good g unlimited p c → Good g unlimited p (drop_sum g)
    free_drops p c good =
        good_stable g unlimited p (drop_sum g)
        (with_table (Good g unlimited p (drop_sum g)) (λ w least outside. free_at_drops w least outside b enough p c good))

    pub lip→free : (p c : ℕ) → Good g (lip b).table p c → Good g unlimited p c
    lip→free p c good i = simulate g wf (lip b).table unlimited (λ c c'. c ≤ c') (lip_free b) i p c c (omega arith) (good i)

    pub lip_level : (p c : ℕ) → Good g (lip b).table p c → c ≤ b
    lip_level = good_level g wf (lip b) (up_to_above b (λ c a. capped b (unlimited c a)))

    same_least : (p : ℕ) (o : Option ℕ)
        → (LeastGood g (lip b).table p o → LeastGood g unlimited p o) × (LeastGood g unlimited p o → LeastGood g (lip b).table p o)
    same_least p None = (
      λ none c good. none (drop_sum g) (free→lip p (drop_sum g) (free_drops p c good) enough),
      λ none c good. none c (lip→free p c good),
    )
    same_least p (Some c) = (
      λ l.
          let le : c ≤ b = lip_level p c l.0 in
          (lip→free p c l.0, λ d lt good. l.1 d lt (free→lip p d good (omega arith))),
      λ l.
          let le : c ≤ drop_sum g = stable (dec_le c (drop_sum g)) (λ not. l.1 (drop_sum g) (omega arith) (free_drops p c l.0)) in
          (free→lip p c l.0 (omega arith), λ d lt good. l.1 d lt (lip→free p d good)),
    )

pub lip_at_drop_sum_is_no_lip : LipAtDropSumIsNoLip
lip_at_drop_sum_is_no_lip g wf b enough p lt o = same_least g wf b enough p o
