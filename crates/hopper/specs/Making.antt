-- When a vessel is made.
use Rattle.std.specs.Prelude.{ℕ, ◌||◌, List, [], ◌∷◌, ◌++◌, nat_lt}
use Rattle.game.specs.Limits.{most_top, most_draw}
use Rattle.hopper.specs.declared.Layer.TheVariants.{File}
use Rattle.hopper.specs.declared.Refusal.TheVariants.{VesselOutOfRange}
use Rattle.hopper.specs.Faults.{Check, check}

-- the checks of a lip and of a closed vessel
abbrev pub top_checks : ℕ → List Check
top_checks top = check (nat_lt most_top top) VesselOutOfRange File top ∷ []

-- the checks of a drawn vessel: the top, then the draw
abbrev pub drawn_checks : ℕ → ℕ → List Check
drawn_checks top draw = top_checks top ++ (check (nat_lt draw 1 || nat_lt most_draw draw) VesselOutOfRange File draw ∷ [])
