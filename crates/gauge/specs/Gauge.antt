-- The gauge: the litres at each height, the height of so many litres, and when both are asked for in vain.
use Rattle.std.specs.Prelude.{ℕ, ◌*◌, ◌/◌, ◌<◌, ◌≤◌, List, [], ◌∷◌, nat_lt}
use Rattle.hopper.specs.Faults.{Check, check}
use Rattle.hopper.specs.declared.Layer.TheVariants.{Rest}
use Rattle.hopper.specs.declared.Refusal.TheVariants.{HeightAboveGauge, LitresAboveGauge}

-- the top of the gauge, in millimetres
abbrev pub most_height : ℕ
most_height = 1200

-- the litres at the top of the gauge
abbrev pub most_litres : ℕ
most_litres = 576

-- what the cube of a height counts for each litre
abbrev pub cube_of_litre : ℕ
cube_of_litre = 3000000

-- the whole litres in the hopper at a height of h millimetres
abbrev pub litres : ℕ → ℕ
litres h = h * h * h / cube_of_litre

-- what `dip` checks: the height is on the gauge
abbrev pub dip_checks : ℕ → List Check
dip_checks h = check (nat_lt most_height h) HeightAboveGauge Rest h ∷ []

-- what `height` checks: the litres are no more than the gauge goes up to
abbrev pub height_checks : ℕ → List Check
height_checks wanted = check (nat_lt most_litres wanted) LitresAboveGauge Rest wanted ∷ []

-- h is a height of the gauge that holds the wanted litres or more, and no smaller height does
pub record IsLeastHeight (wanted h : ℕ) : Type 0 where
  pub on_gauge : h ≤ most_height
  pub enough : wanted ≤ litres h
  pub least : (k : ℕ) → k < h → litres k < wanted
