-- The limits of a line file. They are its own: they stay as they are when those of boards and vessels, in `game/specs/Limits`, widen.
use Rattle.std.specs.Prelude.{ℕ, ◌+◌, ◌*◌}
use Rattle.game.specs.declared.Owner.TheVariants.{Theirs}
use Rattle.game.specs.Owners.{owner_number}
use Rattle.lineformat.specs.declared.Kind.TheVariants.{Drawn}
use Rattle.lineformat.specs.Kinds.{kind_number}

-- the bytes of the trailer that ends a line file
abbrev pub trailer_size : ℕ
trailer_size = 16

-- the bytes of a record of a place or of a move
abbrev pub record_size : ℕ
record_size = 4

-- the one version of a line file
abbrev pub only_version : ℕ
only_version = 1

-- the highest number of a kind of vessel
abbrev pub last_kind : ℕ
last_kind = kind_number Drawn

-- the number of the kind of vessel that has a draw
abbrev pub drawn_kind : ℕ
drawn_kind = kind_number Drawn

-- the highest number of an owner
abbrev pub last_owner : ℕ
last_owner = owner_number Theirs

-- the most places of a line file
abbrev pub most_places : ℕ
most_places = 256

-- the most moves of a line file, of all places together
abbrev pub most_moves : ℕ
most_moves = 4096

-- the most litres that a move of a line file pours in or takes out
abbrev pub most_amount : ℕ
most_amount = 10000

-- the highest top of the vessel of a line file
abbrev pub most_top : ℕ
most_top = 2560000

-- the most litres that the drawn vessel of a line file loses at a pour
abbrev pub most_draw : ℕ
most_draw = 10000

-- the bytes of the longest name of a place
abbrev pub longest_name : ℕ
longest_name = 32

-- the lowest byte that a name may have, which is the blank
abbrev pub first_letter : ℕ
first_letter = 32

-- the highest byte that a name may have, which is the last printable one
abbrev pub last_letter : ℕ
last_letter = 126

-- the most bytes that the names of a line file take
abbrev pub longest_names : ℕ
longest_names = most_places * longest_name

-- the bytes of the longest line file
abbrev pub longest_file : ℕ
longest_file = longest_names + record_size * (most_moves + most_places) + trailer_size
