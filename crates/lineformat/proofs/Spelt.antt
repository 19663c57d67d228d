-- The parts of the line that some bytes spell.
use Rattle.std.proofs.Common.{◌≡◌, ℕ, zero, suc, ◌+◌, ◌-◌, ◌*◌, ◌<◌, ◌≤◌, List, [], ◌∷◌, ltb, length, get_or, take, drop, is_some, Some, None, Option, Ok, Err, Result, Bor, sym, refl, ap, ◌∙◌, arith}
use Rattle.std.specs.List.{slice_get}
use Rattle.std.specs.Option.{IfSome}
use Rattle.std.specs.Result.{IsOk, MatchResult}
use Rattle.std.specs.Str.{IsUtf8, IsValidUpTo, valid_up_to}
use Rattle.std.specs.declared.str.Utf8Error.{Utf8Error}
use Rattle.std.proofs.lemmas.List.FromFn.{length-map-range_with_len, get_or-map-range_with_len}
use Rattle.std.proofs.lemmas.List.{get_or_past, get_or-take, get_or-drop, length-take-le, length-take, length-drop, drop-take, take-take}
use Rattle.std.proofs.lemmas.Bool.{true≢false, ltb-true, ltb-false}
use Rattle.std.proofs.lemmas.Option.{slice_get-get_or, slice_get_past}
use Rattle.lineformat.specs.declared.Numbers.{Numbers}
use Rattle.lineformat.specs.declared.PlaceRecord.{PlaceRecord}
use Rattle.lineformat.specs.Limits.{record_size}
use Rattle.lineformat.specs.Format.{Line, place_of, no_place, two_at, place_at, move_at, records_at, line_of, numbers_of, trailer, numbers_in, places_in, moves_in, places_from, moves_from}
use Rattle.lineformat.specs.WellFormed.{moves_before, moves_of, name_at}

-- the number at an offset, by the bytes from there on
one_on : (bs : List ℕ) (o : ℕ) → get_or (drop o bs) 0 0 ≡ get_or bs o 0
one_on bs o = get_or-drop o bs 0 0 ∙ ap (λ i. get_or bs i 0) (let z : o + 0 ≡ o = omega arith in z)

pub two_is : (bs : List ℕ) (o : ℕ) → two_at bs o ≡ get_or bs o 0 + get_or bs (o + 1) 0 * 256
two_is bs o =
    let a = one_on bs o in
    let b = get_or-drop o bs 1 0 in
    cc

pub count_places : (bs : List ℕ) → length (line_of bs).places ≡ places_in bs
unfolding line_of
count_places bs = length-map-range_with_len (λ i. place_at bs (places_from (trailer bs) bs + i * record_size)) 0 (places_in bs)

pub count_moves : (bs : List ℕ) → length (line_of bs).moves ≡ moves_in bs
unfolding line_of
count_moves bs = length-map-range_with_len (λ i. move_at bs (moves_from (trailer bs) bs + i * record_size)) 0 (moves_in bs)

pub count_names : (bs : List ℕ) → length (line_of bs).names ≡ moves_from (trailer bs) bs
unfolding line_of
count_names bs = length-take-le (moves_from (trailer bs) bs) bs (omega arith)

pub names_are : (bs : List ℕ) → (line_of bs).names ≡ take (moves_from (trailer bs) bs) bs
unfolding line_of
names_are bs = refl

-- a part of the names is that part of the file
pub in_names : (bs : List ℕ) (o k : ℕ) → o + k ≤ length (line_of bs).names → take k (drop o (line_of bs).names) ≡ take k (drop o bs)
unfolding line_of
in_names bs o k h =
    let B : ℕ = moves_from (trailer bs) bs in
    let c : length (take B bs) ≡ B = count_names bs in
    let e : B ≡ o + (B - o) = omega arith in
    ap (λ x. take k (drop o (take x bs))) e ∙ ap (take k) (drop-take o (B - o) bs) ∙ take-take k (B - o) (drop o bs) (omega arith)

-- one of a part of a list
pub nth_part : {X : Type 0} (xs : List X) (o k m : ℕ) (d : X) → m < k → o + k ≤ length xs → slice_get (take k (drop o xs)) m ≡ slice_get xs (o + m)
nth_part xs o k m d h l =
    let long : length (take k (drop o xs)) ≡ k = length-take-le k (drop o xs) (simp length-drop (omega arith)) in
    slice_get-get_or (take k (drop o xs)) m d (omega arith) ∙ ap Some (get_or-take k (drop o xs) m d h ∙ get_or-drop o xs m d) ∙ sym (slice_get-get_or xs (o + m) d (omega arith))

pub nth_part_past : {X : Type 0} (xs : List X) (o k m : ℕ) → k ≤ m → slice_get (take k (drop o xs)) m ≡ None
nth_part_past xs o k m h = slice_get_past (take k (drop o xs)) m (simp length-take (omega arith))

-- the numbers in the trailer are those of the line
pub numbers_are : (bs : List ℕ) → numbers_in bs ≡ numbers_of (line_of bs)
unfolding line_of
numbers_are bs =
    let N : ℕ → ℕ → Numbers = λ n m. record { places = n; moves = m; top = (numbers_in bs).top; draw = (numbers_in bs).draw; kind = (numbers_in bs).kind } in
    ap (λ n. N n (moves_in bs)) (sym (count_places bs)) ∙ ap (N (length (line_of bs).places)) (sym (count_moves bs))

-- one letter of the names
pub one_letter : (bs : List ℕ) (i : ℕ) → i < length (line_of bs).names → get_or (line_of bs).names i 0 ≡ get_or bs i 0
unfolding line_of
one_letter bs i h = get_or-take (moves_from (trailer bs) bs) bs i 0 (let n = count_names bs in omega arith)

-- the records of the line are those that the file has from where they begin
pub places_spelt : (bs : List ℕ) → (line_of bs).places ≡ records_at place_at bs (places_from (trailer bs) bs) (length (line_of bs).places)
unfolding line_of
places_spelt bs = ap (records_at place_at bs (places_from (trailer bs) bs)) (sym (count_places bs))

pub moves_spelt : (bs : List ℕ) → (line_of bs).moves ≡ records_at move_at bs (moves_from (trailer bs) bs) (length (line_of bs).moves)
unfolding line_of
moves_spelt bs = ap (records_at move_at bs (moves_from (trailer bs) bs)) (sym (count_moves bs))

-- one of the records from an offset on
pub one_record : {R : Type 0} (at : List ℕ → ℕ → R) (bs : List ℕ) (from n i : ℕ) (xs : List R) → xs ≡ records_at at bs from n → i < n → slice_get xs i ≡ Some (at bs (from + i * record_size))
one_record at bs from n i xs e h =
    let f = λ (k : ℕ). at bs (from + k * record_size) in
    let l = length-map-range_with_len f 0 n in
    ap (λ ys. slice_get ys i) e ∙ slice_get-get_or (records_at at bs from n) i (f i) (omega arith) ∙ ap Some (get_or-map-range_with_len f 0 n i i (f i) h (omega arith))

-- what was read, by what is known of it: the record of a number, or nothing where there is no such record
pub read_record : {R : Type 0} {P : R → Type 0} (at : List ℕ → ℕ → R) (bs : List ℕ) (from n i : ℕ) (xs : List R) → xs ≡ records_at at bs from n → n ≡ length xs
    → ((r : R) → P r → r ≡ at bs (from + i * record_size)) → (o : Option R) → is_some o ≡ ltb i n → IfSome o P → o ≡ slice_get xs i
read_record at bs from n i xs e k h None b q = sym (slice_get_past xs i (let l = ltb-false i n (sym b) in omega arith))
read_record at bs from n i xs e k h (Some r) b q = ap Some (h r q) ∙ sym (one_record at bs from n i xs e (ltb-true i n (sym b)))

-- an absent place has no moves
pub no_moves : (l : Line) (p m : ℕ) → length l.places ≤ p → slice_get (moves_of l p) m ≡ None
no_moves l p m h =
    let e : place_of l p ≡ no_place = get_or_past l.places p no_place h in
    ap (λ (x : PlaceRecord). slice_get (take x.moves (drop (moves_before l p) l.moves)) m) e

-- where there is no item of a number, the list is not that long
pub absent : {X : Type 0} (xs : List X) (i : ℕ) → slice_get xs i ≡ None → length xs ≤ i
absent [] i e = omega arith
absent (x ∷ xs) zero e = absurd (true≢false (ap is_some e))
absent (x ∷ xs) (suc i) e = let h = absent xs i e in omega arith

-- bytes that are text are taken as text
pub is_ok_text : (bs : List ℕ) → IsUtf8 bs → (r : Result (Bor (List ℕ)) Utf8Error)
    → MatchResult r (λ s. (s.now ≡ bs) × IsUtf8 bs) (λ e. (IsUtf8 bs → ⊥) × IsValidUpTo bs (valid_up_to e)) → IsOk r
is_ok_text bs u (Ok s) m = refl
is_ok_text bs u (Err e) m = absurd (m.0 u)

-- the bytes of the built-in line
abbrev pub built_in_file : List ℕ
built_in_file = 0 ∷ 0 ∷ 0 ∷ 0 ∷ 0 ∷ 0 ∷ 1 ∷ 0 ∷ 1 ∷ 0 ∷ 1 ∷ 0 ∷ 0 ∷ 0 ∷ 0 ∷ 0 ∷ 0 ∷ 0 ∷ 0 ∷ 1 ∷ 8 ∷ 0 ∷ 0 ∷ 0 ∷ []

-- the name of a place is the part of the file from an offset to an end, and text
pub record NameIn (l : Line) (file : List ℕ) (p offset end : ℕ) : Type 0 where
  pub name_is : name_at l p ≡ Some (take (end - offset) (drop offset file), offset)
  pub is_text : IsUtf8 (take (end - offset) (drop offset file))
  pub rising : offset ≤ end
  pub inside : end ≤ length file
