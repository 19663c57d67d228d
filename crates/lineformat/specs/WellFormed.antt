-- Which lines are well formed, and the moves and the name of each place.
use Rattle.std.specs.Prelude.{◌≡◌, ℕ, ◌<◌, ◌≤◌, cond, List, length, take, drop, Some, None, Option, ◌≢◌, nat_lt, unsigned_abs}
use Rattle.std.specs.Int.{IsInRange}
use Rattle.std.specs.List.{All, sum_by}
use Rattle.lineformat.specs.declared.MoveRecord.{MoveRecord}
use Rattle.lineformat.specs.declared.Numbers.{Numbers}
use Rattle.lineformat.specs.declared.PlaceRecord.{PlaceRecord}
use Rattle.lineformat.specs.Limits.{last_kind, drawn_kind, last_owner, most_places, most_moves, most_amount, most_top, most_draw, longest_name, first_letter, last_letter}
use Rattle.lineformat.specs.Format.{Line, numbers_of, place_of}

-- how many moves some place records count
abbrev pub move_total : List PlaceRecord → ℕ
move_total ps = sum_by (λ p. p.moves) ps

-- how many letters some place records count
abbrev pub letter_total : List PlaceRecord → ℕ
letter_total ps = sum_by (λ p. p.letters) ps

-- how many moves the first p places of a line have
abbrev pub moves_before : Line → ℕ → ℕ
moves_before l p = move_total (take p l.places)

-- how many letters the names of the first p places of a line have
abbrev pub letters_before : Line → ℕ → ℕ
letters_before l p = letter_total (take p l.places)

-- the moves of a place, which come after those of the places before it
abbrev pub moves_of : Line → ℕ → List MoveRecord
moves_of l p = take (place_of l p).moves (drop (moves_before l p) l.moves)

-- the name of a place, which comes after those of the places before it
abbrev pub name_of : Line → ℕ → List ℕ
name_of l p = take (place_of l p).letters (drop (letters_before l p) l.names)

-- the letters of a place's name with their offset, which is what the names before it take; nothing where there is no such place
abbrev pub name_at : Line → ℕ → Option (List ℕ × ℕ)
name_at l p = cond (nat_lt p (length l.places)) (Some (name_of l p, letters_before l p)) None

-- a draw is sound: from 1 to the most for drawn, and 0 for any other kind
abbrev pub SoundDraw : ℕ → ℕ → Type 0
SoundDraw kind draw = (kind ≡ drawn_kind → IsInRange 1 most_draw draw) × ((kind ≢ drawn_kind) → draw ≡ 0)

-- the five numbers of a line are within the limits of a line file, with no fewer moves than places
pub record SoundNumbers (n : Numbers) : Type 0 where
  pub kinds : n.kind ≤ last_kind
  pub few_places : IsInRange 1 most_places n.places
  pub few_moves : IsInRange n.places most_moves n.moves
  pub low_top : n.top ≤ most_top
  pub drawn : SoundDraw n.kind n.draw

-- a place record is sound: its number is of an owner, its name is not too long, and it has a move
pub record SoundPlaceRecord (p : PlaceRecord) : Type 0 where
  pub owned : p.owner ≤ last_owner
  pub named : p.letters ≤ longest_name
  pub moving : 1 ≤ p.moves

-- a move record of a line of n places is sound: it leads to one of them, and its amount is not out of range
pub record SoundMoveRecord (n : ℕ) (m : MoveRecord) : Type 0 where
  pub leads : m.target < n
  pub limits : unsigned_abs m.amount ≤ most_amount

-- a line that a file can hold: its numbers, places, letters and moves are sound, and its places have all its moves and names between them
pub record WellFormedLine (l : Line) : Type 0 where
  pub numbers : SoundNumbers (numbers_of l)
  pub each_place : All SoundPlaceRecord l.places
  pub all_moves : move_total l.places ≡ length l.moves
  pub all_names : letter_total l.places ≡ length l.names
  pub each_letter : All (IsInRange first_letter last_letter) l.names
  pub each_move : All (SoundMoveRecord (length l.places)) l.moves
