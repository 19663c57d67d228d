-- What reading, filling tables and writing refuse: each check, and the checks of each call in their order.
use Rattle.std.specs.Prelude.{ℕ, Bool, cond, not, ◌||◌, List, [], ◌∷◌, ◌++◌, length, ◌==◌, nat_lt, unsigned_abs}
use Rattle.std.specs.Int.{is_in_range}
use Rattle.std.specs.List.{position}
use Rattle.hopper.specs.Faults.{Check, check, check_at}
use Rattle.hopper.specs.declared.Layer.TheVariants.{Bytes, File, Line as OfLine, Rest}
use Rattle.hopper.specs.declared.Refusal.TheVariants as refusal
use Rattle.hopper.specs.Refusing.{passes}
use Rattle.lineformat.specs.declared.MoveRecord.{MoveRecord}
use Rattle.lineformat.specs.declared.Numbers.{Numbers}
use Rattle.lineformat.specs.declared.PlaceRecord.{PlaceRecord}
use Rattle.lineformat.specs.declared.Spots.{Spots}
use Rattle.lineformat.specs.Limits.{longest_file, trailer_size, only_version, last_kind, drawn_kind, last_owner, most_places, most_moves, most_amount, most_top, most_draw, longest_name, first_letter, last_letter}
use Rattle.lineformat.specs.Format.{Line, numbers_of, record_bytes, encode, line_of, trailer, offsets_in, numbers_in, version_offset, version_in, distance_offset, distance_in}
use Rattle.lineformat.specs.WellFormed.{move_total, letter_total}

-- a drawn vessel's draw is out of range, or another's is not 0
abbrev pub bad_draw : ℕ → ℕ → Bool
bad_draw kind draw = cond (kind == drawn_kind) (not (is_in_range 1 most_draw draw)) (not (draw == 0))

-- a place record has a number of no owner, or too long a name, or no moves
abbrev pub bad_place : PlaceRecord → Bool
bad_place p = nat_lt last_owner p.owner || (nat_lt longest_name p.letters || p.moves == 0)

-- a byte is none that a name may have, which are the printable ones
abbrev pub bad_letter : ℕ → Bool
bad_letter b = not (is_in_range first_letter last_letter b)

-- a move record of a line of n places leads to none of them, or has an amount out of range
abbrev pub bad_move : ℕ → MoveRecord → Bool
bad_move n m = not (nat_lt m.target n) || nat_lt most_amount (unsigned_abs m.amount)

-- refusal 1: a file is longer than any
abbrev pub long_check : ℕ → Check
long_check size = check (nat_lt longest_file size) refusal.FileTooLong Bytes longest_file

-- refusal 2: a file has no room for a trailer
abbrev pub short_check : ℕ → Check
short_check size = check (nat_lt size trailer_size) refusal.FileTooShort Bytes size

-- refusal 3: a file is of another version
abbrev pub version_check : ℕ → ℕ → Check
version_check version spot = check (not (version == only_version)) refusal.UnknownVersion File spot

-- refusal 4: a number is of no kind
abbrev pub kind_check : ℕ → ℕ → Check
kind_check kind spot = check (nat_lt last_kind kind) refusal.UnknownKind File spot

-- refusal 5: there is no place, or there are too many
abbrev pub places_check : ℕ → ℕ → Check
places_check places spot = check (not (is_in_range 1 most_places places)) refusal.PlacesOutOfRange File spot

-- refusal 6: there are fewer moves than places, or too many
abbrev pub moves_check : ℕ → ℕ → ℕ → Check
moves_check places moves spot = check (not (is_in_range places most_moves moves)) refusal.MovesOutOfRange File spot

-- refusal 7: a top is too high
abbrev pub top_check : ℕ → ℕ → Check
top_check top spot = check (nat_lt most_top top) refusal.VesselOutOfRange File spot

-- refusal 7: a draw does not go with the kind
abbrev pub draw_check : ℕ → ℕ → ℕ → Check
draw_check kind draw spot = check (bad_draw kind draw) refusal.VesselOutOfRange File spot

-- refusal 8: a distance is not what the records take
abbrev pub distance_check : Numbers → ℕ → ℕ → Check
distance_check n distance spot = check (not (distance == record_bytes n)) refusal.WrongDistance File spot

-- refusal 9: a distance back from an offset leads past the start
abbrev pub start_check : ℕ → ℕ → Check
start_check distance end = check (nat_lt end distance) refusal.DistancePastStart Bytes end

-- refusal 10: the first bad record among those of the places
abbrev pub place_records_check : Line → Check
place_records_check l = check_at (position bad_place l.places) refusal.BadPlaceRecord OfLine

-- refusal 11: the places have more or fewer moves between them than there are
abbrev pub move_total_check : Line → Check
move_total_check l = check (not (move_total l.places == length l.moves)) refusal.TotalsDiffer OfLine (length l.places)

-- refusal 11: the places have longer or shorter names between them than there are
abbrev pub letter_total_check : Line → Check
letter_total_check l = check (not (letter_total l.places == length l.names)) refusal.TotalsDiffer OfLine (length l.places)

-- refusal 12: the first bad byte of the names
abbrev pub letters_check : Line → Check
letters_check l = check_at (position bad_letter l.names) refusal.BadNameByte File

-- refusal 13: the first bad record among those of the moves
abbrev pub move_records_check : Line → Check
move_records_check l = check_at (position (bad_move (length l.places)) l.moves) refusal.BadMoveRecord OfLine

-- refusal 14: a table has no room for so many records
abbrev pub table_check : ℕ → ℕ → Check
table_check room needed = check (nat_lt room needed) refusal.TableTooShort Rest needed

-- refusal 15: the output has no room for a file of so many bytes
abbrev pub room_check : ℕ → ℕ → Check
room_check room needed = check (nat_lt room needed) refusal.OutputTooShort Rest needed

-- what is checked of the five numbers of a line, with the spot of each
unfoldable pub number_checks : Numbers → Spots → List Check
number_checks n spot =
    kind_check n.kind spot.kind
    ∷ places_check n.places spot.places
    ∷ moves_check n.places n.moves spot.moves
    ∷ top_check n.top spot.top
    ∷ draw_check n.kind n.draw spot.draw
    ∷ []

-- what is checked of the records and the names of a line, each over the whole line before the next
unfoldable pub record_checks : Line → List Check
record_checks l =
    place_records_check l ∷ move_total_check l ∷ letter_total_check l ∷ letters_check l ∷ move_records_check l ∷ []

-- what is checked of the length of a file
unfoldable pub size_checks : List ℕ → List Check
size_checks bs = long_check (length bs) ∷ short_check (length bs) ∷ []

-- what is checked of a trailer and of the records that end at an offset, with the offset of each field as its spot
unfoldable pub field_checks : ℕ → List ℕ → List Check
field_checks end bs =
    version_check (version_in bs) (version_offset bs)
    ∷ (number_checks (numbers_in bs) (offsets_in bs)
    ++ (distance_check (numbers_in bs) (distance_in bs) (distance_offset bs) ∷ start_check (distance_in bs) end ∷ []))

-- what is checked of a file before its records
unfoldable pub trailer_checks : List ℕ → List Check
trailer_checks bs = size_checks bs ++ field_checks (trailer bs) bs

-- what reading a file checks: its trailer, then the line that it spells
unfoldable pub read_checks : List ℕ → List Check
read_checks bs = trailer_checks bs ++ record_checks (line_of bs)

-- reading accepts a file
abbrev pub accepts : List ℕ → Bool
accepts bs = passes (read_checks bs)

-- what filling tables of these lengths from a line checks
unfoldable pub unpack_checks : Line → ℕ → ℕ → List Check
unpack_checks l places moves = table_check places (length l.places) ∷ table_check moves (length l.moves) ∷ []

-- where writing reports a number of a line that it refuses: at the number itself
abbrev pub spots_of : Numbers → Spots
spots_of n = record { places = n.places; moves = n.moves; top = n.top; draw = n.draw; kind = n.kind }

-- what writing a line checks before the room
unfoldable pub line_checks : Line → List Check
line_checks l = number_checks (numbers_of l) (spots_of (numbers_of l)) ++ record_checks l

-- what writing a line into so much room checks
unfoldable pub write_checks : Line → ℕ → List Check
write_checks l room = line_checks l ++ (room_check room (length (encode l)) ∷ [])
