-- The three vessels keep the rules; lip and drawn are graded.
use Rattle.std.proofs.Common.{◌≡◌, ℕ, suc, ◌+◌, ◌-◌, ◌≤◌, min, Bool, true, false, T, leb, ℤ, pos, negsuc, ◌+ℤ◌, ◌-ℤ◌, nat_abs, Some, None, Option, refl, ap, ◌∙◌, arith, le→leb, leb→le}
use Rattle.std.proofs.lemmas.Int.{ints}
use Rattle.game.specs.Game.{InLimits}
use Rattle.game.specs.Limits.{most_amount, most_top}
use Rattle.game.specs.Vessel.{Table, Hopper, Keeps, natural, capped, refused_past, less_draw, unlimited, up_to, lip, drawn}
use Rattle.game.specs.Rows.{Reaches, Parts, Graded, less_amount, some_if, need_lip, need_drawn}
use Rattle.game.proofs.Theorems.{VesselsKeepRules}
use Rattle.game.proofs.Base.{none_some}
use Rattle.game.proofs.Pour.{some_of, up_to_inv, up_to_make, up_to_above, natural_inv, capped_inv, refused_past_inv, lip_inv, lip_make}

-- a table cut at the top keeps the rules where it answers no level above the top
pub keeps_up_to : (top : ℕ) (t : Table) → top ≤ most_top → ((c : ℕ) (a : ℤ) (d : ℕ) → t c a ≡ Some d → d ≤ top) → Keeps (record { top = top; table = up_to top t })
keeps_up_to top t fits small =
    record {
      top_fits = fits;
      within = λ c a d h. small c a d (up_to_inv top t c a d h).2;
      above = up_to_above top t;
      outside = λ c a out. some_of (up_to top t c a) (λ d h. out (up_to_inv top t c a d h).1);
    }

draw_inv : (draw : ℕ) (o : Option ℕ) (d : ℕ) → less_draw draw o ≡ Some d → (n : ℕ) × (o ≡ Some n) × (d + draw ≡ n)
draw_inv draw None d h = absurd (none_some h)
draw_inv draw (Some n) d h =
    let e : pos n -ℤ pos draw ≡ pos d = natural_inv (pos n -ℤ pos draw) d h in
    (n, refl, omega (arith, ints))

draw_make : (draw n d : ℕ) → d + draw ≡ n → less_draw draw (Some n) ≡ Some d
draw_make draw n d h = let e : pos n -ℤ pos draw ≡ pos d = omega (arith, ints) in ap natural e

-- ---- need
some_need : (top : ℕ) (t : Table) (wanted : ℕ) (a : ℤ) (b : Bool) (o : Option ℕ)
    → (T b → Parts top (Reaches t wanted a) o) → ((c : ℕ) → Reaches t wanted a c → T b) → Parts top (Reaches t wanted a) (some_if b o)
some_need top t wanted a true o is back = is tt
some_need top t wanted a false o is back = λ c r. back c r

lip_reach_out : (top wanted c : ℕ) (a : ℤ) → Reaches (lip top).table wanted a c → (wanted ≤ top) × InLimits a × (less_amount wanted a ≤ c) × (c ≤ top)
lip_reach_out top wanted c a r =
    let w = lip_inv top c a r.0 r.1 in
    (omega (arith, r.2, w.3), (up_to_inv top (λ c a. capped top (unlimited c a)) c a r.0 r.1).1, less a w.2, w.0)
  where
    n : ℕ
    n = (lip_inv top c a r.0 r.1).1

    big : wanted ≤ n
    big = omega (arith, r.2, (lip_inv top c a r.0 r.1).3)

    less : (a : ℤ) → pos c +ℤ a ≡ pos n → less_amount wanted a ≤ c
    less (pos k) h = omega (arith, ints, big)
    less (negsuc k) h = omega (arith, ints, big)

lip_reach_in : (top wanted c : ℕ) (a : ℤ) → wanted ≤ top → InLimits a → less_amount wanted a ≤ c → c ≤ top → Reaches (lip top).table wanted a c
lip_reach_in top wanted c (pos k) le lim h small = (min (c + k) top, lip_make top c (pos k) (c + k) small lim refl, omega arith)
lip_reach_in top wanted c (negsuc k) le lim h small =
    (min (c - suc k) top, lip_make top c (negsuc k) (c - suc k) small lim (omega (arith, ints)), omega arith)

lip_graded : (top : ℕ) → Graded (lip top) (need_lip top)
lip_graded top wanted a =
    some_need top (lip top).table wanted a (leb wanted top) _ (λ t1.
    some_need top (lip top).table wanted a (leb (nat_abs a) most_amount) _ (λ t2.
    some_need top (lip top).table wanted a (leb (less_amount wanted a) top) (Some (less_amount wanted a)) (λ t3. (
      leb→le (less_amount wanted a) top t3,
      λ c h small. lip_reach_in top wanted c a (leb→le wanted top t1) (leb→le (nat_abs a) most_amount t2) h small,
      λ c h r. let w = lip_reach_out top wanted c a r in omega (arith, w.2),
    ))
    (λ c r. let w = lip_reach_out top wanted c a r in le→leb (less_amount wanted a) top (omega (arith, w.2, w.3))))
    (λ c r. le→leb (nat_abs a) most_amount (lip_reach_out top wanted c a r).1))
    (λ c r. le→leb wanted top (lip_reach_out top wanted c a r).0)

drawn_out : (top draw wanted c : ℕ) (a : ℤ) → Reaches (drawn top draw).table wanted a c → Reaches (lip top).table (wanted + draw) a c
drawn_out top draw wanted c a r =
    let w = up_to_inv top (λ c a. less_draw draw (capped top (unlimited c a))) c a r.0 r.1 in
    let v = draw_inv draw (capped top (unlimited c a)) r.0 w.2 in
    (v.0, up_to_make top (λ c a. capped top (unlimited c a)) c a w.0 w.1 ∙ v.1, omega (arith, r.2, v.2))

drawn_in : (top draw wanted c : ℕ) (a : ℤ) → Reaches (lip top).table (wanted + draw) a c → Reaches (drawn top draw).table wanted a c
drawn_in top draw wanted c a r =
    let w = up_to_inv top (λ c a. capped top (unlimited c a)) c a r.0 r.1 in (
      r.0 - draw,
      up_to_make top (λ c a. less_draw draw (capped top (unlimited c a))) c a w.0 w.1
          ∙ (ap (less_draw draw) w.2 ∙ draw_make draw r.0 (r.0 - draw) (omega (arith, r.2))),
      omega (arith, r.2),
    )

need_same : (top : ℕ) (t t' : Table) (wanted wanted' : ℕ) (a : ℤ) → ((c : ℕ) → Reaches t wanted a c → Reaches t' wanted' a c) → ((c : ℕ) → Reaches t' wanted' a c → Reaches t wanted a c)
    → (o : Option ℕ) → Parts top (Reaches t wanted a) o → Parts top (Reaches t' wanted' a) o
need_same top t t' wanted wanted' a f b None is = λ c r. is c (b c r)
need_same top t t' wanted wanted' a f b (Some n) is = (is.0, λ c h small. f c (is.1 c h small), λ c h r. is.2 c h (b c r))

drawn_graded : (top draw : ℕ) → Graded (drawn top draw) (need_drawn top draw)
drawn_graded top draw wanted a =
    need_same top (lip top).table (drawn top draw).table (wanted + draw) wanted a (λ c. drawn_in top draw wanted c a) (λ c. drawn_out top draw wanted c a)
    (need_lip top (wanted + draw) a) (lip_graded top (wanted + draw) a)

pub vessels_keep_rules : (top draw : ℕ) → top ≤ most_top → VesselsKeepRules top draw
vessels_keep_rules top draw fits = record {
  lip_keeps = keeps_up_to top (λ c a. capped top (unlimited c a)) fits (λ c a d h. let w = capped_inv top (unlimited c a) d h in omega (arith, w.2));
  closed_keeps = keeps_up_to top (λ c a. refused_past top (unlimited c a)) fits (λ c a d h. (refused_past_inv top (unlimited c a) d h).1);
  drawn_keeps =
      keeps_up_to top (λ c a. less_draw draw (capped top (unlimited c a))) fits
      (λ c a d h.
      let w = draw_inv draw (capped top (unlimited c a)) d h in
      let v = capped_inv top (unlimited c a) w.0 w.1 in
      omega (arith, w.2, v.2));
  lip_graded = lip_graded top;
  drawn_graded = drawn_graded top draw;
}
