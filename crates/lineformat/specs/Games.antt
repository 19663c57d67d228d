-- The game of a line, and the hopper of its vessel.
use Rattle.std.specs.Prelude.{ℕ, cond, map, length, ◌==◌}
use Rattle.std.specs.List.{slice_get}
use Rattle.std.specs.Option.{option_map}
use Rattle.game.specs.declared.Edge.{Edge}
use Rattle.game.specs.declared.Owner.{Owner}
use Rattle.game.specs.declared.Owner.TheVariants.{Ours, Theirs}
use Rattle.game.specs.Game.{Game, Place}
use Rattle.game.specs.Owners.{owner_number}
use Rattle.game.specs.Vessel.{Hopper, lip, closed, drawn}
use Rattle.lineformat.specs.declared.Kind.TheVariants.{Lip, Closed}
use Rattle.lineformat.specs.declared.MoveRecord.{MoveRecord}
use Rattle.lineformat.specs.declared.PlaceRecord.{PlaceRecord}
use Rattle.lineformat.specs.Format.{Line}
use Rattle.lineformat.specs.Kinds.{kind_number}
use Rattle.lineformat.specs.WellFormed.{moves_of}

-- the owner that a place record's number names; a sound record has the number of ours or of theirs
abbrev pub owner_from : ℕ → Owner
owner_from n = cond (n == owner_number Ours) Ours Theirs

-- the move of a game that a move record spells
abbrev pub edge_from : MoveRecord → Edge
edge_from m = record { target = m.target; amount = m.amount }

-- the place of a game that a place record of a line spells, with its moves
abbrev pub place_from : Line → ℕ → PlaceRecord → Place
place_from l p r = record { owner = owner_from r.owner; moves = map edge_from (moves_of l p) }

-- the game of a line: a place for each record
abbrev pub game_of : Line → Game
game_of l = record { places = length l.places; at = λ p. option_map (place_from l p) (slice_get l.places p) }

-- what the vessel of a line means, by its kind; a sound line has the number of one of the three kinds
abbrev pub hopper_of : Line → Hopper
hopper_of l =
    cond (l.kind == kind_number Lip) (lip l.top)
    (cond (l.kind == kind_number Closed) (closed l.top) (drawn l.top l.draw))
