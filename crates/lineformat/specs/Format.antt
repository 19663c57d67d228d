-- The line file: the bytes of a line, and the line that some bytes spell.
use Rattle.std.specs.Prelude.{ℕ, ◌+◌, ◌-◌, ◌*◌, List, [], ◌∷◌, ◌++◌, map, length, take, drop, pos, slice_index, slice_index_or}
use Rattle.std.specs.Int.{w16, w32, to_le_bytes, from_le_bytes, cast_signed, cast_unsigned}
use Rattle.std.specs.List.{flat_map, range_with_len}
use Rattle.game.specs.declared.Owner.TheVariants.{Ours}
use Rattle.game.specs.Owners.{owner_number}
use Rattle.lineformat.specs.declared.Kind.TheVariants.{Lip}
use Rattle.lineformat.specs.declared.MoveRecord.{MoveRecord}
use Rattle.lineformat.specs.declared.Numbers.{Numbers}
use Rattle.lineformat.specs.declared.PlaceRecord.{PlaceRecord}
use Rattle.lineformat.specs.declared.Spots.{Spots}
use Rattle.lineformat.specs.Kinds.{kind_number}
use Rattle.lineformat.specs.Limits.{trailer_size, record_size, only_version}

-- a line: its places, the moves and the letters of all of them one after another, and its vessel by its numbers
pub record Line : Type 0 where
  pub places : List PlaceRecord
  pub moves : List MoveRecord
  pub names : List ℕ
  pub kind : ℕ
  pub top : ℕ
  pub draw : ℕ

-- the record that stands for a move that a line does not have
abbrev pub no_move : MoveRecord
no_move = record { target = 0; amount = pos 0 }

-- the record that stands for a place that a line does not have
abbrev pub no_place : PlaceRecord
no_place = record { owner = 0; letters = 0; moves = 0 }

-- the record of place p of a line
abbrev pub place_of : Line → ℕ → PlaceRecord
place_of l p = slice_index_or l.places p no_place

-- the record of move m of a line, counted over all its places
abbrev pub move_of : Line → ℕ → MoveRecord
move_of l m = slice_index_or l.moves m no_move

-- the built-in line: one place of ours without a name, which leads to itself with 0; lip 0
abbrev pub built_in : Line
built_in =
    record {
      places = record { owner = owner_number Ours; letters = 0; moves = 1 } ∷ [];
      moves = no_move ∷ [];
      names = [];
      kind = kind_number Lip;
      top = 0;
      draw = 0;
    }

-- the bytes of a move: the place that it leads to, then its litres in two's complement
abbrev pub move_bytes : MoveRecord → List ℕ
move_bytes m = to_le_bytes w16 m.target ++ to_le_bytes w16 (cast_unsigned w16 m.amount)

-- the bytes of a place: a byte for whose it is, one for how long its name is, and two that count its moves
abbrev pub place_bytes : PlaceRecord → List ℕ
place_bytes p = p.owner ∷ p.letters ∷ to_le_bytes w16 p.moves

-- how many bytes the records of a line take
abbrev pub record_bytes : Numbers → ℕ
record_bytes n = record_size * (n.moves + n.places)

-- the bytes of a trailer: the five numbers of a line, the version, and how many bytes its records take
abbrev pub trailer_bytes : Numbers → List ℕ
trailer_bytes n =
    to_le_bytes w16 n.places ++ (to_le_bytes w16 n.moves ++ (to_le_bytes w32 n.top ++ (to_le_bytes w16 n.draw
    ++ (n.kind ∷ only_version ∷ to_le_bytes w32 (record_bytes n)))))

-- the five numbers of a line that its file's trailer has
abbrev pub numbers_of : Line → Numbers
numbers_of l = record { places = length l.places; moves = length l.moves; top = l.top; draw = l.draw; kind = l.kind }

-- the file of a line: names, moves, places, trailer
unfoldable pub encode : Line → List ℕ
encode l = l.names ++ (flat_map move_bytes l.moves ++ (flat_map place_bytes l.places ++ trailer_bytes (numbers_of l)))

-- the number that the 2 bytes at an offset spell, low byte first
abbrev pub two_at : List ℕ → ℕ → ℕ
two_at bs o = from_le_bytes w16 (drop o bs)

-- the number that the 4 bytes at an offset spell, low byte first
abbrev pub four_at : List ℕ → ℕ → ℕ
four_at bs o = from_le_bytes w32 (drop o bs)

-- the move that the 4 bytes at an offset spell
abbrev pub move_at : List ℕ → ℕ → MoveRecord
move_at bs o = record { target = two_at bs o; amount = cast_signed w16 (two_at bs (o + 2)) }

-- the place that the 4 bytes at an offset spell
abbrev pub place_at : List ℕ → ℕ → PlaceRecord
place_at bs o = record { owner = slice_index bs o; letters = slice_index bs (o + 1); moves = two_at bs (o + 2) }

-- the offset of the trailer of a file
abbrev pub trailer : List ℕ → ℕ
trailer bs = length bs - trailer_size

-- the offset of each of the five numbers in the trailer of a file
abbrev pub offsets_in : List ℕ → Spots
offsets_in bs =
    record { places = trailer bs; moves = trailer bs + 2; top = trailer bs + 4; draw = trailer bs + 8; kind = trailer bs + 10 }

-- the five numbers in the trailer of a file
abbrev pub numbers_in : List ℕ → Numbers
numbers_in bs =
    record {
      places = two_at bs (offsets_in bs).places;
      moves = two_at bs (offsets_in bs).moves;
      top = four_at bs (offsets_in bs).top;
      draw = two_at bs (offsets_in bs).draw;
      kind = slice_index bs (offsets_in bs).kind;
    }

-- the offset of the version of a file
abbrev pub version_offset : List ℕ → ℕ
version_offset bs = trailer bs + 11

-- the version that a file says it is of
abbrev pub version_in : List ℕ → ℕ
version_in bs = slice_index bs (version_offset bs)

-- the offset of the distance of a file
abbrev pub distance_offset : List ℕ → ℕ
distance_offset bs = trailer bs + 12

-- how many bytes the records take, as the trailer of a file says it
abbrev pub distance_in : List ℕ → ℕ
distance_in bs = four_at bs (distance_offset bs)

-- how many places a file has, as its trailer says it
abbrev pub places_in : List ℕ → ℕ
places_in bs = (numbers_in bs).places

-- how many moves a file has, as its trailer says it
abbrev pub moves_in : List ℕ → ℕ
moves_in bs = (numbers_in bs).moves

-- the offset at which the places of a file begin, by the offset at which they end
abbrev pub places_from : ℕ → List ℕ → ℕ
places_from end bs = end - record_size * places_in bs

-- the offset at which the moves of a file begin and its names end, by the offset at which its places end
abbrev pub moves_from : ℕ → List ℕ → ℕ
moves_from end bs = end - record_bytes (numbers_in bs)

-- the n records from an offset on, by what stands at each
abbrev pub records_at : {R : Type 0} → (List ℕ → ℕ → R) → List ℕ → ℕ → ℕ → List R
records_at at bs o n = map (λ i. at bs (o + i * record_size)) (range_with_len 0 n)

-- the line that the bytes of a file spell whose places end at an offset
abbrev pub line_before : ℕ → List ℕ → Line
line_before end bs =
    record {
      places = records_at place_at bs (places_from end bs) (places_in bs);
      moves = records_at move_at bs (moves_from end bs) (moves_in bs);
      names = take (moves_from end bs) bs;
      kind = (numbers_in bs).kind;
      top = (numbers_in bs).top;
      draw = (numbers_in bs).draw;
    }

-- the line that the bytes of a file spell: its places end where its trailer begins
unfoldable pub line_of : List ℕ → Line
line_of bs = line_before (trailer bs) bs
