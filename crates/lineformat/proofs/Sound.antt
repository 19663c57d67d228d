-- A trailer is sound, and a line well formed, exactly where the checks pass it.
use Rattle.std.proofs.Common.{◌≡◌, ℕ, ◌+◌, ◌-◌, ◌<◌, ◌≤◌, true, false, not, ◌||◌, eqb, ltb, List, [], ◌∷◌, ◌++◌, length, take, drop, nat_abs, Some, None, sym, ap, ◌∙◌, subst, arith}
use Rattle.std.specs.Int.{IsInRange}
use Rattle.std.specs.List.{slice_get, All}
use Rattle.std.specs.Str.{IsUtf8}
use Rattle.std.proofs.lemmas.Bool.{cond-true, ltb-true, ltb-false, le-ltb, lt-ltb, or_from, or_parts, eqb-false, ne_eqb, not-false}
use Rattle.std.proofs.lemmas.List.Elements.{All-take, All-drop}
use Rattle.std.proofs.lemmas.List.Sums.{sum_by_more_le}
use Rattle.std.proofs.lemmas.Str.{IsUtf8-from_ascii}
use Rattle.std.proofs.lemmas.Str.Ascii.{IsAscii-from_all}
use Rattle.hopper.specs.Refusing.{passes}
use Rattle.hopper.proofs.Refusing.{none_fails, all_pass, untrue, untrue_passes, unfound, unfound_passes, passed_both, pass_both}
use Rattle.lineformat.specs.declared.MoveRecord.{MoveRecord}
use Rattle.lineformat.specs.declared.Numbers.{Numbers}
use Rattle.lineformat.specs.declared.PlaceRecord.{PlaceRecord}
use Rattle.lineformat.specs.declared.Spots.{Spots}
use Rattle.lineformat.specs.Inner.Parts.{PartsOf}
use Rattle.lineformat.specs.Limits.{longest_file, trailer_size, only_version, last_kind, last_owner, most_places, most_moves, most_amount, most_top, longest_name, first_letter, last_letter}
use Rattle.lineformat.specs.Format.{Line, numbers_of, record_bytes, place_of, no_place, no_move, line_of, trailer, numbers_in, offsets_in, version_offset, version_in, distance_offset, distance_in, places_in, moves_in, places_from, moves_from}
use Rattle.lineformat.specs.WellFormed.{move_total, letter_total, moves_before, letters_before, moves_of, name_of, SoundNumbers, SoundPlaceRecord, SoundMoveRecord, WellFormedLine}
use Rattle.lineformat.specs.Checks.{bad_place, bad_letter, bad_move, version_check, distance_check, start_check, number_checks, record_checks, size_checks, field_checks, trailer_checks, read_checks, accepts, unpack_checks}
use Rattle.lineformat.proofs.Tests.{within, not_outside, equal_no, no_equal, draw_sound, draw_good}
use Rattle.lineformat.proofs.Scan.{none_bad, none_found}
use Rattle.lineformat.proofs.Spelt.{count_places, count_moves, count_names, in_names, nth_part, numbers_are, NameIn}

pub numbers_sound : (n : Numbers) (spot : Spots) → passes (number_checks n spot) ≡ true → SoundNumbers n
unfolding number_checks
numbers_sound n spot e =
    let p = none_fails (number_checks n spot) e in
    record {
      kinds = ltb-false last_kind n.kind (untrue _ _ p.0);
      few_places = not_outside 1 most_places n.places (untrue _ _ p.1.0);
      few_moves = not_outside n.places most_moves n.moves (untrue _ _ p.1.1.0);
      low_top = ltb-false most_top n.top (untrue _ _ p.1.1.1.0);
      drawn = draw_sound n.kind n.draw (untrue _ _ p.1.1.1.1.0);
    }

pub numbers_pass : (n : Numbers) (spot : Spots) → SoundNumbers n → passes (number_checks n spot) ≡ true
unfolding number_checks
numbers_pass n spot s =
    all_pass (number_checks n spot) (
      untrue_passes _ _ (le-ltb last_kind n.kind s.kinds),
      (
        untrue_passes _ _ (within 1 most_places n.places s.few_places),
        (
          untrue_passes _ _ (within n.places most_moves n.moves s.few_moves),
          (
            untrue_passes _ _ (le-ltb most_top n.top s.low_top),
            (untrue_passes _ _ (draw_good n.kind n.draw s.drawn), tt),
          ),
        ),
      ),
    )

-- a trailer that passes the checks up to the distance
pub record SoundTrailer (bs : List ℕ) : Type 0 where
  pub not_long : length bs ≤ longest_file
  pub not_short : trailer_size ≤ length bs
  pub version : version_in bs ≡ only_version
  pub numbers : SoundNumbers (numbers_in bs)
  pub distance : distance_in bs ≡ record_bytes (numbers_in bs)
  pub inside : distance_in bs ≤ trailer bs

pub trailer_sound : (bs : List ℕ) → passes (trailer_checks bs) ≡ true → SoundTrailer bs
unfolding trailer_checks size_checks field_checks
trailer_sound bs e =
    let N = number_checks (numbers_in bs) (offsets_in bs) in
    let D = distance_check (numbers_in bs) (distance_in bs) (distance_offset bs) ∷ start_check (distance_in bs) (trailer bs) ∷ [] in
    let V = version_check (version_in bs) (version_offset bs) in
    let p = passed_both (size_checks bs) (V ∷ (N ++ D)) e in
    let v = passed_both (V ∷ []) (N ++ D) p.1 in
    let q = passed_both N D v.1 in
    let s = none_fails (size_checks bs) p.0 in
    let d = none_fails D q.1 in
    record {
      not_long = ltb-false longest_file (length bs) (untrue _ _ s.0);
      not_short = ltb-false (length bs) trailer_size (untrue _ _ s.1.0);
      version = no_equal (version_in bs) only_version (untrue _ _ (none_fails (V ∷ []) v.0).0);
      numbers = numbers_sound (numbers_in bs) (offsets_in bs) q.0;
      distance = no_equal (distance_in bs) (record_bytes (numbers_in bs)) (untrue _ _ d.0);
      inside = ltb-false (trailer bs) (distance_in bs) (untrue _ _ d.1.0);
    }

pub trailer_passes : (bs : List ℕ) → SoundTrailer bs → passes (trailer_checks bs) ≡ true
unfolding trailer_checks size_checks field_checks
trailer_passes bs s =
    let N = number_checks (numbers_in bs) (offsets_in bs) in
    let D = distance_check (numbers_in bs) (distance_in bs) (distance_offset bs) ∷ start_check (distance_in bs) (trailer bs) ∷ [] in
    let V = version_check (version_in bs) (version_offset bs) in
    pass_both (size_checks bs) (V ∷ (N ++ D))
    (all_pass (size_checks bs) (untrue_passes _ _ (le-ltb longest_file (length bs) s.not_long), (untrue_passes _ _ (le-ltb (length bs) trailer_size s.not_short), tt)))
    (pass_both (V ∷ []) (N ++ D) (all_pass (V ∷ []) (untrue_passes _ _ (equal_no (version_in bs) only_version s.version), tt))
    (pass_both N D (numbers_pass (numbers_in bs) (offsets_in bs) s.numbers)
    (all_pass D (untrue_passes _ _ (equal_no (distance_in bs) (record_bytes (numbers_in bs)) s.distance), (untrue_passes _ _ (le-ltb (trailer bs) (distance_in bs) s.inside), tt)))))

place_sound : (p : PlaceRecord) → bad_place p ≡ false → SoundPlaceRecord p
place_sound p e =
    let a = or_parts (ltb last_owner p.owner) (ltb longest_name p.letters || eqb p.moves 0) e in
    let b = or_parts (ltb longest_name p.letters) (eqb p.moves 0) a.1 in
    record {
      owned = ltb-false last_owner p.owner a.0;
      named = ltb-false longest_name p.letters b.0;
      moving = (let z : p.moves ≡ 0 → ⊥ = eqb-false p.moves 0 b.1 in omega arith);
    }

place_good : (p : PlaceRecord) → SoundPlaceRecord p → bad_place p ≡ false
place_good p s =
    or_from (ltb last_owner p.owner) (ltb longest_name p.letters || eqb p.moves 0) (le-ltb last_owner p.owner s.owned)
    (or_from (ltb longest_name p.letters) (eqb p.moves 0) (le-ltb longest_name p.letters s.named) (ne_eqb p.moves 0 (λ z. let m = s.moving in omega arith)))

move_sound : (n : ℕ) (m : MoveRecord) → bad_move n m ≡ false → SoundMoveRecord n m
move_sound n m e =
    let a = or_parts (not (ltb m.target n)) (ltb most_amount (nat_abs m.amount)) e in
    record { leads = ltb-true m.target n (not-false (ltb m.target n) a.0); limits = ltb-false most_amount (nat_abs m.amount) a.1 }

move_good : (n : ℕ) (m : MoveRecord) → SoundMoveRecord n m → bad_move n m ≡ false
move_good n m s = or_from (not (ltb m.target n)) (ltb most_amount (nat_abs m.amount)) (ap not (lt-ltb m.target n s.leads)) (le-ltb most_amount (nat_abs m.amount) s.limits)

pub well_formed : (l : Line) → SoundNumbers (numbers_of l) → passes (record_checks l) ≡ true → WellFormedLine l
unfolding record_checks
well_formed l n e =
    let q = none_fails (record_checks l) e in
    record {
      numbers = n;
      each_place = none_bad bad_place SoundPlaceRecord place_sound l.places (unfound _ _ q.0);
      all_moves = no_equal (move_total l.places) (length l.moves) (untrue _ _ q.1.0);
      all_names = no_equal (letter_total l.places) (length l.names) (untrue _ _ q.1.1.0);
      each_letter = none_bad bad_letter (IsInRange first_letter last_letter) (not_outside first_letter last_letter) l.names (unfound _ _ q.1.1.1.0);
      each_move = none_bad (bad_move (length l.places)) (SoundMoveRecord (length l.places)) (move_sound (length l.places)) l.moves (unfound _ _ q.1.1.1.1.0);
    }

pub records_pass : (l : Line) → WellFormedLine l → passes (record_checks l) ≡ true
unfolding record_checks
records_pass l w =
    all_pass (record_checks l) (
      unfound_passes _ _ (none_found bad_place SoundPlaceRecord place_good l.places no_place w.each_place),
      (
        untrue_passes _ _ (equal_no (move_total l.places) (length l.moves) w.all_moves),
        (
          untrue_passes _ _ (equal_no (letter_total l.places) (length l.names) w.all_names),
          (
            unfound_passes _ _ (none_found bad_letter (IsInRange first_letter last_letter) (within first_letter last_letter) l.names 0 w.each_letter),
            (unfound_passes _ _ (none_found (bad_move (length l.places)) (SoundMoveRecord (length l.places)) (move_good (length l.places)) l.moves no_move w.each_move), tt),
          ),
        ),
      ),
    )

-- the moves of a place lie within the moves, and its name within the names
pub in_moves : (l : Line) → WellFormedLine l → (p : ℕ) → p < length l.places → moves_before l p + (place_of l p).moves ≤ length l.moves
in_moves l w p h = let a = sum_by_more_le (λ (r : PlaceRecord). r.moves) l.places p no_place h in let b = w.all_moves in omega arith

pub in_letters : (l : Line) → WellFormedLine l → (p : ℕ) → p < length l.places → letters_before l p + (place_of l p).letters ≤ length l.names
in_letters l w p h = let a = sum_by_more_le (λ (r : PlaceRecord). r.letters) l.places p no_place h in let b = w.all_names in omega arith

-- the trailer of a file that is accepted passes its checks
pub accepted_passes : (bs : List ℕ) → accepts bs ≡ true → passes (trailer_checks bs) ≡ true
unfolding read_checks
accepted_passes bs e = (passed_both (trailer_checks bs) (record_checks (line_of bs)) e).0

-- the trailer and the line of a file that is accepted
pub accepted_trailer : (bs : List ℕ) → accepts bs ≡ true → SoundTrailer bs
accepted_trailer bs e = trailer_sound bs (accepted_passes bs e)

-- a file whose two tables pass is accepted
pub accepted_of : (bs : List ℕ) → passes (trailer_checks bs) ≡ true → passes (record_checks (line_of bs)) ≡ true → accepts bs ≡ true
unfolding read_checks
accepted_of bs e f = pass_both (trailer_checks bs) (record_checks (line_of bs)) e f

-- the parts of a file with a sound trailer
pub parts_of : (bs : List ℕ) (numbers : Numbers) (first names : ℕ) → SoundTrailer bs → numbers ≡ numbers_in bs → first ≡ places_from (trailer bs) bs → names ≡ moves_from (trailer bs) bs → PartsOf bs numbers first names
parts_of bs numbers first names s e f g =
    let z = numbers_are bs in
    let ep : numbers.places ≡ places_in bs = ap (λ (n : Numbers). n.places) e in
    let em : numbers.moves ≡ moves_in bs = ap (λ (n : Numbers). n.moves) e in
    let cp = count_places bs in
    let cm = count_moves bs in
    let cn = count_names bs in
    let few = s.numbers.few_places.1 in
    let d = s.distance in
    let i = s.inside in
    let room = s.not_short in
    record {
      numbers_are = e ∙ z;
      count_places = omega arith;
      count_moves = omega arith;
      count_names = omega arith;
      first_is = f;
      names_end = g;
      few_places = omega arith;
      moves_end = omega arith;
      places_end = omega arith;
    }

pub accepted_line : (bs : List ℕ) → accepts bs ≡ true → WellFormedLine (line_of bs)
unfolding read_checks
accepted_line bs e =
    well_formed (line_of bs) (subst SoundNumbers (numbers_are bs) (accepted_trailer bs e).numbers) (passed_both (trailer_checks bs) (record_checks (line_of bs)) e).1

-- the name of a place of a well-formed line, in its file
pub name_in : (bs : List ℕ) → WellFormedLine (line_of bs) → (p offset letters : ℕ) → p < length (line_of bs).places → offset ≡ letters_before (line_of bs) p → letters ≡ (place_of (line_of bs) p).letters
    → NameIn (line_of bs) bs p offset (offset + letters)
name_in bs w p o k h eo ek =
    let l = line_of bs in
    let i = in_letters l w p h in
    let c = count_names bs in
    let z : o + k - o ≡ k = omega arith in
    let ascii : ℕ → Type 0 = λ b. b < 128 in
    let letters_ascii : All ascii l.names = λ j d h. let q = (w.each_letter j d h).1 in omega arith in
    let here : name_of l p ≡ take (o + k - o) (drop o bs) =
    ap (λ x. take x (drop (letters_before l p) l.names)) (sym ek) ∙ ap (λ x. take k (drop x l.names)) (sym eo) ∙ in_names bs o k (omega arith) ∙ ap (λ x. take x (drop o bs)) (sym z) in
    record {
      name_is = cond-true (ltb p (length l.places)) (Some (name_of l p, letters_before l p)) None (lt-ltb p (length l.places) h)
          ∙ ap (λ x. Some (x, letters_before l p)) here ∙ ap (λ x. Some (take (o + k - o) (drop o bs), x)) (sym eo);
      is_text = subst IsUtf8 here (IsUtf8-from_ascii (name_of l p) (IsAscii-from_all (name_of l p) (All-take ascii (place_of l p).letters (drop (letters_before l p) l.names) (All-drop ascii (letters_before l p) l.names letters_ascii))));
      rising = omega arith;
      inside = omega arith;
    }

-- the number in the file of a move of a place
pub move_in : (l : Line) → WellFormedLine l → (p m before count : ℕ) → p < length l.places → before ≡ moves_before l p → count ≡ (place_of l p).moves → m < count
    → (slice_get (moves_of l p) m ≡ slice_get l.moves (before + m)) × (before + m < length l.moves)
move_in l w p m b k h eb ek lt =
    let i = in_moves l w p h in
    (nth_part l.moves (moves_before l p) (place_of l p).moves m no_move (omega arith) i ∙ ap (λ x. slice_get l.moves (x + m)) (sym eb), omega arith)

-- tables that pass the checks are long enough
pub tables_fit : (l : Line) (places moves : ℕ) → passes (unpack_checks l places moves) ≡ true → (length l.places ≤ places) × (length l.moves ≤ moves)
unfolding unpack_checks
tables_fit l places moves e =
    let p = none_fails (unpack_checks l places moves) e in
    (ltb-false places (length l.places) (untrue _ _ p.0), ltb-false moves (length l.moves) (untrue _ _ p.1.0))
