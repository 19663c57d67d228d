-- The bytes of a well-formed line are accepted, and spell that line.
use Rattle.std.proofs.Common.{◌≡◌, ℕ, zero, suc, ◌+◌, ◌*◌, ◌^◌, ◌<◌, ◌≤◌, true, List, [], ◌∷◌, ◌++◌, length, get_or, take, drop, ℤ, pos, negsuc, nat_abs, sym, refl, ap, ◌∙◌, subst, le_of_suc-le-suc, not-suc-le-zero, arith, w16, SFits, to_z, of_z, rules}
use Rattle.std.specs.Int.{w32, to_le_bytes, from_le_bytes}
use Rattle.std.specs.List.{flat_map as joined, All}
use Rattle.std.proofs.lemmas.List.{append_assoc, length-append, take_at, drop_at, drop-drop, get_or-drop}
use Rattle.std.proofs.lemmas.Int.{to_z-of_z}
use Rattle.std.proofs.lemmas.Nat.{from_le_bytes-to_le_bytes_2, from_le_bytes-to_le_bytes_4}
use Rattle.std.proofs.lemmas.List.FromFn.{fill_by_all}
use Rattle.std.proofs.lemmas.List.Sums.{sum_by-le, get_or-le-sum_by}
use Rattle.hopper.specs.Refusing.{passes}
use Rattle.hopper.proofs.Refusing.{pass_both}
use Rattle.lineformat.specs.declared.MoveRecord.{MoveRecord}
use Rattle.lineformat.specs.declared.PlaceRecord.{PlaceRecord}
use Rattle.lineformat.specs.Limits.{most_amount, longest_name, longest_names, record_size, trailer_size, only_version}
use Rattle.lineformat.specs.Format.{Line, numbers_of, record_bytes, move_bytes, place_bytes, trailer_bytes, move_at, place_at, records_at, no_move, no_place, encode, line_of, trailer, numbers_in, version_in, distance_in, places_in, moves_in, places_from, moves_from}
use Rattle.lineformat.specs.WellFormed.{SoundNumbers, WellFormedLine}
use Rattle.lineformat.specs.Inner.Parts.{SizeOf}
use Rattle.lineformat.specs.Checks.{trailer_checks, record_checks, read_checks, accepts}
use Rattle.lineformat.proofs.Spelt.{numbers_are}
use Rattle.lineformat.proofs.Tables.{length_joined}
use Rattle.lineformat.proofs.Sound.{SoundTrailer, trailer_passes, records_pass}
use Rattle.lineformat.proofs.Tests.{draw_small}

fits_small : (z : ℤ) → nat_abs z ≤ most_amount → SFits w16 z
fits_small (pos n) h = record { sfits = omega arith }
fits_small (negsuc n) h = record { sfits = omega arith }

-- what follows the records before one of them begins with its bytes
from_record : {R : Type 0} (f : R → List ℕ) → ((r : R) → length (f r) ≡ record_size) → (front : List ℕ) (xs : List R) (rest : List ℕ) (o k : ℕ) (d : R)
    → length front ≡ o → k < length xs → (after : List ℕ) × (drop (o + k * record_size) (front ++ (joined f xs ++ rest)) ≡ f (get_or xs k d) ++ after)
from_record f four front [] rest o k d e h = absurd (not-suc-le-zero h)
from_record f four front (x ∷ xs) rest o zero d e h =
    (joined f xs ++ rest, drop_at front ((f x ++ joined f xs) ++ rest) (o + 0 * record_size) (omega arith) ∙ append_assoc (f x) (joined f xs) rest)
from_record f four front (x ∷ xs) rest o (suc k) d e h =
    let l : length (front ++ f x) ≡ o + record_size = length-append front (f x) ∙ (let q = four x in omega arith) in
    let i = from_record f four (front ++ f x) xs rest (o + record_size) k d l (le_of_suc-le-suc h) in
    let a : front ++ ((f x ++ joined f xs) ++ rest) ≡ (front ++ f x) ++ (joined f xs ++ rest) =
    ap (λ t. front ++ t) (append_assoc (f x) (joined f xs) rest) ∙ sym (append_assoc front (f x) (joined f xs ++ rest)) in
    (i.0, ap (drop (o + suc k * record_size)) a ∙ ap (λ n. drop n ((front ++ f x) ++ (joined f xs ++ rest))) (let z : o + suc k * record_size ≡ o + record_size + k * record_size = omega arith in z) ∙ i.1)

-- records spell themselves, where the bytes of each do
records_again : {R : Type 0} (f : R → List ℕ) (at : List ℕ → ℕ → R) (d : R) (P : R → Type 0) → ((r : R) → length (f r) ≡ record_size)
    → ((r : R) (bs : List ℕ) (o : ℕ) (after : List ℕ) → P r → drop o bs ≡ f r ++ after → r ≡ at bs o)
    → (front : List ℕ) (xs : List R) (rest : List ℕ) (o : ℕ) → length front ≡ o → All P xs → records_at at (front ++ (joined f xs ++ rest)) o (length xs) ≡ xs
records_again f at d P four back front xs rest o e fit =
    let B : List ℕ = front ++ (joined f xs ++ rest) in
    sym (fill_by_all (λ i. at B (o + i * record_size)) xs (length xs) d refl
    (λ k h. let a = from_record f four front xs rest o k d e h in back (get_or xs k d) B (o + k * record_size) a.0 (fit k d h) a.1))

abbrev MoveFits : MoveRecord → Type 0
MoveFits m = (m.target < 2 ^ 16) × SFits w16 m.amount

move_back : (m : MoveRecord) (bs : List ℕ) (o : ℕ) (after : List ℕ) → MoveFits m → drop o bs ≡ move_bytes m ++ after → m ≡ move_at bs o
move_back m bs o after fit e =
    let d : drop (o + 2) bs ≡ to_le_bytes w16 (of_z w16 m.amount) ++ after = sym (drop-drop 2 o bs) ∙ ap (drop 2) e in
    let t : from_le_bytes w16 (drop o bs) ≡ m.target = ap (from_le_bytes w16) e ∙ from_le_bytes-to_le_bytes_2 m.target fit.0 in
    let a : to_z w16 (from_le_bytes w16 (drop (o + 2) bs)) ≡ m.amount =
    ap (λ x. to_z w16 (from_le_bytes w16 x)) d ∙ ap (to_z w16) (from_le_bytes-to_le_bytes_2 (of_z w16 m.amount) (search (rules, fit.1))) ∙ to_z-of_z w16 m.amount fit.1 in
    ap (λ x. let r : MoveRecord = record { target = x; amount = m.amount } in r) (sym t) ∙ ap (λ y. let r : MoveRecord = record { target = from_le_bytes w16 (drop o bs); amount = y } in r) (sym a)

place_back : (p : PlaceRecord) (bs : List ℕ) (o : ℕ) (after : List ℕ) → p.moves < 2 ^ 16 → drop o bs ≡ place_bytes p ++ after → p ≡ place_at bs o
place_back p bs o after fit e =
    let d : drop (o + 2) bs ≡ to_le_bytes w16 p.moves ++ after = sym (drop-drop 2 o bs) ∙ ap (drop 2) e in
    let a : get_or bs o 0 ≡ p.owner = ap (λ i. get_or bs i 0) (let z : o ≡ o + 0 = omega arith in z) ∙ sym (get_or-drop o bs 0 0) ∙ ap (λ x. get_or x 0 0) e in
    let b : get_or bs (o + 1) 0 ≡ p.letters = sym (get_or-drop o bs 1 0) ∙ ap (λ x. get_or x 1 0) e in
    let c : from_le_bytes w16 (drop (o + 2) bs) ≡ p.moves = ap (from_le_bytes w16) d ∙ from_le_bytes-to_le_bytes_2 p.moves fit in
    ap (λ x. let r : PlaceRecord = record { owner = x; letters = p.letters; moves = p.moves } in r) (sym a)
    ∙ ap (λ x. let r : PlaceRecord = record { owner = get_or bs o 0; letters = x; moves = p.moves } in r) (sym b)
    ∙ ap (λ x. let r : PlaceRecord = record { owner = get_or bs o 0; letters = get_or bs (o + 1) 0; moves = x } in r) (sym c)

-- the parts of a file and their sizes
module _ (l : Line) where
  abbrev M : List ℕ
  M = joined move_bytes l.moves

  abbrev P : List ℕ
  P = joined place_bytes l.places

  abbrev T : List ℕ
  T = trailer_bytes (numbers_of l)

  pub size : length (encode l) ≡ length l.names + (length l.moves * record_size + (length l.places * record_size + trailer_size))
  unfolding encode
  size =
      let a = length-append l.names (M ++ (P ++ T)) in
      let b = length-append M (P ++ T) in
      let c = length-append P T in
      let d = length_joined move_bytes (λ x. refl) l.moves in
      let e = length_joined place_bytes (λ x. refl) l.places in
      omega arith

  by_moves : encode l ≡ l.names ++ (M ++ (P ++ T))
  unfolding encode
  by_moves = refl

  by_places : encode l ≡ (l.names ++ M) ++ (P ++ T)
  by_places = by_moves ∙ sym (append_assoc l.names M (P ++ T))

  before_places : length (l.names ++ M) ≡ length l.names + length l.moves * record_size
  before_places = length-append l.names M ∙ ap (λ x. length l.names + x) (length_joined move_bytes (λ x. refl) l.moves)

  -- from an offset in the trailer on
  from_trailer : (k : ℕ) → drop (trailer (encode l) + k) (encode l) ≡ drop k T
  from_trailer k =
      let s = size in
      let a = length-append (l.names ++ M) P in
      let b = before_places in
      let c = length_joined place_bytes (λ x. refl) l.places in
      sym (drop-drop k (trailer (encode l)) (encode l))
      ∙ ap (λ x. drop k (drop (trailer (encode l)) x)) (by_places ∙ sym (append_assoc (l.names ++ M) P T))
      ∙ ap (drop k) (drop_at ((l.names ++ M) ++ P) T (trailer (encode l)) (omega arith))

  one_in : (k : ℕ) → get_or (encode l) (trailer (encode l) + k) 0 ≡ get_or (drop k T) 0 0
  one_in k =
      let o : ℕ = trailer (encode l) + k in
      ap (λ i. get_or (encode l) i 0) (let z : o ≡ o + 0 = omega arith in z) ∙ sym (get_or-drop o (encode l) 0 0) ∙ ap (λ x. get_or x 0 0) (from_trailer k)

  places_are : length l.places < 2 ^ 16 → places_in (encode l) ≡ length l.places
  places_are h =
      ap (λ o. from_le_bytes w16 (drop o (encode l))) (let z : trailer (encode l) ≡ trailer (encode l) + 0 = omega arith in z)
      ∙ ap (from_le_bytes w16) (from_trailer 0) ∙ from_le_bytes-to_le_bytes_2 (length l.places) h

  moves_are : length l.moves < 2 ^ 16 → moves_in (encode l) ≡ length l.moves
  moves_are h = ap (from_le_bytes w16) (from_trailer 2) ∙ from_le_bytes-to_le_bytes_2 (length l.moves) h

  top_is : l.top < 2 ^ 32 → (numbers_in (encode l)).top ≡ l.top
  top_is h = ap (from_le_bytes w32) (from_trailer 4) ∙ from_le_bytes-to_le_bytes_4 l.top h

  draw_is : l.draw < 2 ^ 16 → (numbers_in (encode l)).draw ≡ l.draw
  draw_is h = ap (from_le_bytes w16) (from_trailer 8) ∙ from_le_bytes-to_le_bytes_2 l.draw h

  kind_is : (numbers_in (encode l)).kind ≡ l.kind
  kind_is = one_in 10

  version_is : version_in (encode l) ≡ only_version
  version_is = one_in 11

  distance_is : record_bytes (numbers_of l) < 2 ^ 32 → distance_in (encode l) ≡ record_bytes (numbers_of l)
  distance_is h = ap (from_le_bytes w32) (from_trailer 12) ∙ from_le_bytes-to_le_bytes_4 (record_bytes (numbers_of l)) h

abbrev line_with : List PlaceRecord → List MoveRecord → List ℕ → ℕ → ℕ → ℕ → Line
line_with ps ms ns k t d = record { places = ps; moves = ms; names = ns; kind = k; top = t; draw = d }

same_parts : (ps qs : List PlaceRecord) (ms os : List MoveRecord) (ns rs : List ℕ) (k h t u d e : ℕ)
    → ps ≡ qs → ms ≡ os → ns ≡ rs → k ≡ h → t ≡ u → d ≡ e → line_with ps ms ns k t d ≡ line_with qs os rs h u e
same_parts ps qs ms os ns rs k h t u d e a b c f g i = cc

-- lines of equal parts are equal
pub same_line : (l m : Line) → m.places ≡ l.places → m.moves ≡ l.moves → m.names ≡ l.names → m.kind ≡ l.kind → m.top ≡ l.top → m.draw ≡ l.draw → m ≡ l
same_line l m a b c d e f =
    same_parts m.places l.places m.moves l.moves m.names l.names m.kind l.kind m.top l.top m.draw l.draw a b c d e f

pub spelt_encode : (l : Line) → WellFormedLine l → line_of (encode l) ≡ l
unfolding line_of
spelt_encode l w =
    let np = w.numbers.few_places.1 in
    let nm = w.numbers.few_moves.1 in
    let B : List ℕ = encode l in
    let s = size l in
    let pi : places_in B ≡ length l.places = places_are l (omega arith) in
    let mi : moves_in B ≡ length l.moves = moves_are l (omega arith) in
    let pf : places_from (trailer B) B ≡ length l.names + length l.moves * record_size = omega arith in
    let mf : moves_from (trailer B) B ≡ length l.names = omega arith in
    let ps : records_at place_at B (places_from (trailer B) B) (places_in B) ≡ l.places =
    ap (λ x. records_at place_at B x (places_in B)) pf ∙ ap (records_at place_at B (length l.names + length l.moves * record_size)) pi
    ∙ ap (λ x. records_at place_at x (length l.names + length l.moves * record_size) (length l.places)) (by_places l)
    ∙ records_again place_bytes place_at no_place (λ p. p.moves < 2 ^ 16) (λ p. refl) place_back (l.names ++ M l) l.places (T l) (length l.names + length l.moves * record_size) (before_places l)
    (λ k d h. let a = get_or-le-sum_by (λ (p : PlaceRecord). p.moves) l.places k d h in let b = w.all_moves in omega arith) in
    let ms : records_at move_at B (moves_from (trailer B) B) (moves_in B) ≡ l.moves =
    ap (λ x. records_at move_at B x (moves_in B)) mf ∙ ap (records_at move_at B (length l.names)) mi
    ∙ ap (λ x. records_at move_at x (length l.names) (length l.moves)) (by_moves l)
    ∙ records_again move_bytes move_at no_move MoveFits (λ m. refl) move_back l.names l.moves (P l ++ T l) (length l.names) refl
    (λ k d h. let m = w.each_move k d h in let t = m.leads in (omega arith, fits_small (get_or l.moves k d).amount m.limits)) in
    let ns : take (moves_from (trailer B) B) B ≡ l.names =
    ap (λ x. take x B) mf ∙ ap (take (length l.names)) (by_moves l) ∙ take_at l.names (M l ++ (P l ++ T l)) (length l.names) refl in
    same_line l (line_of B) ps ms ns (kind_is l) (top_is l (let a = w.numbers.low_top in omega arith)) (draw_is l (let a = draw_small l.kind l.draw w.numbers.drawn in omega arith))

-- all names together
pub names_few : (l : Line) → WellFormedLine l → length l.names ≤ longest_names
names_few l w =
    let a = sum_by-le (λ (p : PlaceRecord). p.letters) longest_name l.places (λ p d h. (w.each_place p d h).named) in
    let b = w.all_names in
    let c = w.numbers.few_places.1 in
    omega arith

pub size_of : (l : Line) → WellFormedLine l → (n : ℕ) → n ≡ length l.names + length l.moves * record_size + length l.places * record_size + trailer_size → SizeOf l n
size_of l w n e =
    let s = size l in
    record { size_is = omega arith; parts_are = e; few_places = w.numbers.few_places.1; few_moves = w.numbers.few_moves.1; few_letters = names_few l w }

trailer_encode : (l : Line) → WellFormedLine l → SoundTrailer (encode l)
trailer_encode l w =
    let np = w.numbers.few_places.1 in
    let nm = w.numbers.few_moves.1 in
    let ns = names_few l w in
    let s = size l in
    let e : numbers_in (encode l) ≡ numbers_of l = numbers_are (encode l) ∙ ap numbers_of (spelt_encode l w) in
    let d = distance_is l (omega arith) in
    record {
      not_long = omega arith;
      not_short = omega arith;
      version = version_is l;
      numbers = subst SoundNumbers (sym e) w.numbers;
      distance = d ∙ ap record_bytes (sym e);
      inside = omega arith;
    }

pub accepts_encode : (l : Line) → WellFormedLine l → accepts (encode l) ≡ true
unfolding read_checks
accepts_encode l w =
    pass_both (trailer_checks (encode l)) (record_checks (line_of (encode l))) (trailer_passes (encode l) (trailer_encode l w)) (ap (λ x. passes (record_checks x)) (spelt_encode l w) ∙ records_pass l w)
