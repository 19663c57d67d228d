-- What a vessel means: its top, and from a level and an amount the new level, or nothing.
use Rattle.std.specs.Prelude.{◌≡◌, ℕ, ◌<◌, ◌≤◌, min, cond, ℤ, pos, negsuc, ◌+ℤ◌, ◌-ℤ◌, Some, None, Option, nat_le, unsigned_abs}
use Rattle.game.specs.Game.{InLimits}
use Rattle.game.specs.Limits.{most_top, most_amount}

-- what pouring an amount at a level answers
abbrev pub Table : Type 0
Table = ℕ → ℤ → Option ℕ

-- a hopper, which is what a vessel means: its highest level, and its table
pub record Hopper : Type 0 where
  pub top : ℕ
  pub table : Table

-- the rules that a vessel keeps: no level above the top is answered or poured from, no amount past the limits is poured
pub record Keeps (v : Hopper) : Type 0 where
  pub top_fits : v.top ≤ most_top
  pub within : (c : ℕ) (a : ℤ) (d : ℕ) → v.table c a ≡ Some d → d ≤ v.top
  pub above : (c : ℕ) (a : ℤ) → v.top < c → v.table c a ≡ None
  pub outside : (c : ℕ) (a : ℤ) → ¬ InLimits a → v.table c a ≡ None

-- the number that z is, None below 0
abbrev pub natural : ℤ → Option ℕ
natural (pos n) = Some n
natural (negsuc n) = None

-- what runs over the top is lost
abbrev pub capped : ℕ → Option ℕ → Option ℕ
capped top None = None
capped top (Some n) = Some (min n top)

-- what would run over the top is refused
abbrev pub refused_past : ℕ → Option ℕ → Option ℕ
refused_past top None = None
refused_past top (Some n) = cond (nat_le n top) (Some n) None

-- the draw is taken off
abbrev pub less_draw : ℕ → Option ℕ → Option ℕ
less_draw draw None = None
less_draw draw (Some n) = natural (pos n -ℤ pos draw)

-- the hopper without a lip: any sum that is no less than 0
abbrev pub unlimited : Table
unlimited c a = natural (pos c +ℤ a)

-- the table where the level is at most the top and the amount within the limits, None elsewhere
abbrev pub up_to : ℕ → Table → Table
up_to top t c a = cond (nat_le c top) (cond (nat_le (unsigned_abs a) most_amount) (t c a) None) None

-- the vessel with a lip loses what runs over
abbrev pub lip : ℕ → Hopper
lip top = record { top = top; table = up_to top (λ c a. capped top (unlimited c a)) }

-- the closed vessel refuses it
abbrev pub closed : ℕ → Hopper
closed top = record { top = top; table = up_to top (λ c a. refused_past top (unlimited c a)) }

-- the drawn vessel has a lip, and loses the draw after each pour
abbrev pub drawn : ℕ → ℕ → Hopper
drawn top draw = record { top = top; table = up_to top (λ c a. less_draw draw (capped top (unlimited c a))) }
