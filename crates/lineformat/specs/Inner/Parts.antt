-- Where the parts of a file lie, and how long they are.
use Rattle.std.specs.Prelude.{◌≡◌, ℕ, ◌+◌, ◌*◌, ◌≤◌, List, length}
use Rattle.lineformat.specs.declared.Numbers.{Numbers}
use Rattle.lineformat.specs.Format.{Line, numbers_of, encode, line_of, trailer, places_from, moves_from}
use Rattle.lineformat.specs.Limits.{most_places, most_moves, longest_names, record_size, trailer_size}

-- the numbers of a file with a sound trailer, and where its places and its moves begin
pub record PartsOf (bs : List ℕ) (numbers : Numbers) (first names : ℕ) : Type 0 where
  pub numbers_are : numbers ≡ numbers_of (line_of bs)
  pub count_places : numbers.places ≡ length (line_of bs).places
  pub count_moves : numbers.moves ≡ length (line_of bs).moves
  pub count_names : names ≡ length (line_of bs).names
  pub first_is : first ≡ places_from (trailer bs) bs
  pub names_end : names ≡ moves_from (trailer bs) bs
  pub few_places : numbers.places ≤ most_places
  pub moves_end : names + numbers.moves * record_size ≡ first
  pub places_end : first + numbers.places * record_size + trailer_size ≡ length bs

-- the length of the file of a line, and that its parts are short
pub record SizeOf (l : Line) (n : ℕ) : Type 0 where
  pub size_is : n ≡ length (encode l)
  pub parts_are : n ≡ length l.names + length l.moves * record_size + length l.places * record_size + trailer_size
  pub few_places : length l.places ≤ most_places
  pub few_moves : length l.moves ≤ most_moves
  pub few_letters : length l.names ≤ longest_names
