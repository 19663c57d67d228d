-- Good fills as they are read off marks, and the first move that leads to one.
use Rattle.std.specs.Prelude.{◌≡◌, ℕ, ◌<◌, Bool, true, false, ◌&&◌, List, Some, Option, ◌==◌, nat_le, slice_index}
use Rattle.std.specs.List.{list_any}
use Rattle.std.specs.Option.{option_map_or}
use Rattle.game.specs.declared.Edge.{Edge}
use Rattle.game.specs.Game.{Place}
use Rattle.game.specs.Vessel.{Hopper}
use Rattle.game.specs.Forced.{cell}
use Rattle.hopper.specs.Boards.{step_at}
use Rattle.solver.specs.Entries.{never}

-- the marks call the fill c at place p good: it is no higher than the top, and its entry is never
abbrev pub is_good : ℕ → List ℕ → ℕ → ℕ → Bool
is_good top marks p c = nat_le c top && slice_index marks (cell top p c) == never

-- the vessel pours the move from level c to a level that the marks call good at its target
abbrev pub pours_good : Hopper → List ℕ → ℕ → Edge → Bool
pours_good v marks c e = option_map_or (is_good v.top marks e.target) (v.table c e.amount) false

-- there is a place, and the vessel pours some move of it so from level c
abbrev pub has_good_move : Hopper → List ℕ → ℕ → Option Place → Bool
has_good_move v marks c at = option_map_or (λ q. list_any (pours_good v marks c) q.moves) at false

-- m is the first move of the place, in number order, that is poured from level c to a good level
pub record FirstGoodMove (v : Hopper) (marks : List ℕ) (c : ℕ) (at : Option Place) (m : ℕ) : Type 0 where
  pub move : Edge
  pub is_move : step_at at m ≡ Some move
  pub good : pours_good v marks c move ≡ true
  pub first : (k : ℕ) → k < m → (e : Edge) → step_at at k ≡ Some e → pours_good v marks c e ≡ false
