-- The limits of games and vessels.
use Rattle.std.specs.Prelude.{ℕ, ◌+◌}

-- the most fills that are marked, one for each place and level
abbrev pub most_fills : ℕ
most_fills = 65536

-- the most places of a board: a place for each fill, and the spill
abbrev pub most_places : ℕ
most_places = most_fills + 1

-- the most moves of a place
abbrev pub most_moves : ℕ
most_moves = 4096

-- the most litres that one move pours in or takes out
abbrev pub most_amount : ℕ
most_amount = 10000

-- the highest top of a vessel
abbrev pub most_top : ℕ
most_top = 2560000

-- the most litres that a drawn vessel loses at a pour
abbrev pub most_draw : ℕ
most_draw = 10000
