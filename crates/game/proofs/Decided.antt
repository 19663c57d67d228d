-- Goodness is decided over every vessel with a top, and in the hopper without a lip.
use Rattle.std.proofs.Common.{◌≡◌, ℕ, ◌+◌, ◌*◌, ◌≤◌, min, ℤ, Some, None, Option, subst, arith}
use native.Mathlib.Decide.{dec_le}
use Rattle.game.specs.Game.{Game, WellFormed, drop_sum}
use Rattle.game.specs.Vessel.{Hopper, Keeps, capped, refused_past, unlimited, lip, closed}
use Rattle.game.specs.Fill.{Holds, Good, IsMark}
use Rattle.game.proofs.Theorems.{GoodHoldsForever, GoodLeadsOn, EachFillHasMark, MarkIsExactlyForced}
use Rattle.game.proofs.Base.{none_some, some_inj, holds_dec}
use Rattle.game.proofs.Force.{not_held_is_forced, held_has_plan}
use Rattle.game.proofs.Sustain.{decided, forever, good_step}
use Rattle.game.proofs.Stages.{last_stage, last_good, good_dec, mark_below}
use Rattle.game.proofs.Pour.{up_to_above, lip_inv, closed_inv}
use Rattle.game.proofs.Lip.{free→lip, free_drops, lip→free, free_up}

lip_within : (b c : ℕ) (a : ℤ) (d : ℕ) → (lip b).table c a ≡ Some d → d ≤ b
lip_within b c a d h = let w = lip_inv b c a d h in omega (arith, w.3)

closed_within : (b c : ℕ) (a : ℤ) (d : ℕ) → (closed b).table c a ≡ Some d → d ≤ b
closed_within b c a d h = (closed_inv b c a d h).2

module _ (g : Game) (wf : WellFormed g) where
  pub vessel_dec : (v : Hopper) → Keeps v → (p c : ℕ) → Dec (Good g v.table p c)
  vessel_dec v keeps = decided g wf v keeps.above (good_dec g wf v keeps.within)

  pub lip_dec : (b p c : ℕ) → Dec (Good g (lip b).table p c)
  lip_dec b = decided g wf (lip b) (up_to_above b (λ c a. capped b (unlimited c a))) (good_dec g wf (lip b) (lip_within b))

  pub closed_dec : (b p c : ℕ) → Dec (Good g (closed b).table p c)
  closed_dec b = decided g wf (closed b) (up_to_above b (λ c a. refused_past b (unlimited c a))) (good_dec g wf (closed b) (closed_within b))

  pub free_dec : (p c : ℕ) → Dec (Good g unlimited p c)
  free_dec p c = go (lip_dec (drop_sum g) p (min c (drop_sum g)))
    where
      le : drop_sum g ≤ drop_sum g
      le = omega arith

      at : Dec (c ≤ drop_sum g) → Good g unlimited p c → Good g unlimited p (min c (drop_sum g))
      at (yes small) good = let same : c ≡ min c (drop_sum g) = omega arith in subst (Good g unlimited p) same good
      at (no not) good = let same : drop_sum g ≡ min c (drop_sum g) = omega arith in subst (Good g unlimited p) same (free_drops g wf (drop_sum g) le p c good)

      go : Dec (Good g (lip (drop_sum g)).table p (min c (drop_sum g))) → Dec (Good g unlimited p c)
      go (yes good) = yes (λ i. free_up g wf i p (min c (drop_sum g)) c (omega arith) (lip→free g wf (drop_sum g) le p (min c (drop_sum g)) good i))
      go (no not) = no (λ good. not (free→lip g wf (drop_sum g) le p (min c (drop_sum g)) (at (dec_le c (drop_sum g)) good) (omega arith)))

pub good_holds_forever : GoodHoldsForever
good_holds_forever g wf v keeps p c good =
    forever g wf v.table (Good g v.table) (vessel_dec g wf v keeps) (good_step g v.table (vessel_dec g wf v keeps)) p c good

pub each_fill_has_mark : EachFillHasMark
each_fill_has_mark g wf v keeps p c lt le = go (holds_dec g v.table last p c)
  where
    last : ℕ
    last = (last_stage g v).0

    go : Dec (Holds g v.table last p c) → (o : Option ℕ) × IsMark g v.table p c o × ((n : ℕ) → o ≡ Some n → n ≤ g.places * (v.top + 1))
    go (yes h) = (None, last_good g wf v keeps.within p c lt le h, λ n e. absurd (none_some e))
    go (no not) =
        let w = mark_below g v.table p c last not in
        (Some w.0, w.2, λ n e. omega (arith, some_inj e, w.1, (last_stage g v).1))

pub mark_is_exactly_forced : MarkIsExactlyForced
mark_is_exactly_forced g wf v keeps p c lt None good = good_holds_forever g wf v keeps p c good
mark_is_exactly_forced g wf v keeps p c lt (Some n) mark = (not_held_is_forced g wf v.table n p c lt mark.0, λ i less. held_has_plan g wf v.table i p c (mark.1 i less))

pub good_leads_on : GoodLeadsOn
good_leads_on g wf v keeps = good_step g v.table (vessel_dec g wf v keeps)
