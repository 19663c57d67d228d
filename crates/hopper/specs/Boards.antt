-- What a board answers of a place.
use Rattle.std.specs.Prelude.{ℕ, Bool, false, length, Some, None, Option, ◌==◌}
use Rattle.std.specs.List.{slice_get}
use Rattle.std.specs.Option.{option_map, option_map_or}
use Rattle.game.specs.declared.Edge.{Edge}
use Rattle.game.specs.declared.Owner.{Owner}
use Rattle.game.specs.Game.{Place}
use Rattle.game.specs.Owners.{owner_number}

-- who chooses at what stands at a place number, None where there is no place
abbrev pub owner_at : Option Place → Option Owner
owner_at = option_map (λ q. q.owner)

-- there is a place, and this owner chooses there
abbrev pub is_owner : Owner → Option Owner → Bool
is_owner o x = option_map_or (λ y. owner_number y == owner_number o) x false

-- how many moves what stands at a place number has, None where there is no place
abbrev pub moves_at : Option Place → Option ℕ
moves_at = option_map (λ q. length q.moves)

-- the move of this number of what stands at a place number, None where there is no such move
abbrev pub step_at : Option Place → ℕ → Option Edge
step_at None m = None
step_at (Some q) m = slice_get q.moves m

-- how many moves there are to choose from at a place number, 0 where there is no place
abbrev pub count_at : Option Place → ℕ
count_at o = option_map_or (λ q. length q.moves) o 0
