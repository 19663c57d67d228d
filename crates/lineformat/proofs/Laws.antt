-- The laws of the line file.
use Rattle.std.proofs.Common.{◌≡◌, ℕ, ◌+◌, ◌*◌, true, List, [], ◌∷◌, length, get_or, sym, ap, ◌∙◌, w8, Fits, arith}
use Rattle.std.proofs.lemmas.Bool.{ltb-false, le-ltb}
use Rattle.hopper.specs.Refusing.{passes}
use Rattle.hopper.proofs.Refusing.{none_fails, all_pass, untrue, untrue_passes, passed_both, pass_both}
use Rattle.lineformat.specs.Format.{Line, numbers_of, encode, line_of}
use Rattle.lineformat.specs.WellFormed.{WellFormedLine}
use Rattle.lineformat.specs.Checks.{accepts, room_check, number_checks, record_checks, spots_of, line_checks, write_checks}
use Rattle.lineformat.specs.Limits.{record_size, trailer_size}
use Rattle.lineformat.specs.Inner.Parts.{SizeOf}
use Rattle.lineformat.specs.Laws.{AcceptsJustTheWritten, WritesJustTheWellFormed}
use Rattle.lineformat.proofs.Sound.{numbers_sound, numbers_pass, well_formed, records_pass, accepted_trailer, accepted_line}
use Rattle.lineformat.proofs.Decoded.{Octets, encode_spelt}
use Rattle.lineformat.proofs.Encoded.{size_of, spelt_encode, accepts_encode}

pub accepts_just_the_written : (bs : List ℕ) → Octets bs → AcceptsJustTheWritten bs
accepts_just_the_written bs b =
    record {
      read_is_written = λ e. (accepted_line bs e, encode_spelt bs b (accepted_trailer bs e));
      written_is_read = λ l w e. (ap accepts (sym e) ∙ accepts_encode l w, ap line_of (sym e) ∙ spelt_encode l w);
    }

-- the law of a file, whose bytes fit their type
pub file_law : (bs : List ℕ) → ((i : ℕ) → Fits w8 (get_or bs i 0)) → AcceptsJustTheWritten bs
file_law bs f = accepts_just_the_written bs (λ i. let h = f i in omega arith)

-- a line that passes all checks but the last, and the other way round
pub formed_line : (l : Line) → passes (line_checks l) ≡ true → WellFormedLine l
unfolding line_checks
formed_line l e =
    let n = numbers_of l in
    let p = passed_both (number_checks n (spots_of n)) (record_checks l) e in
    well_formed l (numbers_sound n (spots_of n) p.0) p.1

line_passes : (l : Line) → WellFormedLine l → passes (line_checks l) ≡ true
unfolding line_checks
line_passes l w = let n = numbers_of l in pass_both (number_checks n (spots_of n)) (record_checks l) (numbers_pass n (spots_of n) w.numbers) (records_pass l w)

-- the size of the file of a line that passes all checks but the last
pub passed_size : (l : Line) → passes (line_checks l) ≡ true → (n : ℕ) → n ≡ length l.names + length l.moves * record_size + length l.places * record_size + trailer_size → SizeOf l n
passed_size l e = size_of l (formed_line l e)

pub writes_just_the_well_formed : (l : Line) (room : ℕ) → WritesJustTheWellFormed l room
unfolding write_checks
writes_just_the_well_formed l room =
    let R = room_check room (length (encode l)) ∷ [] in
    record {
      written_is_formed = λ e. (let p = passed_both (line_checks l) R e in
          (formed_line l p.0, ltb-false room (length (encode l)) (untrue _ _ (none_fails R p.1).0)));
      formed_is_written = λ w h. pass_both (line_checks l) R (line_passes l w) (all_pass R (untrue_passes _ _ (le-ltb room (length (encode l)) h), tt));
      reads_back = λ w. (accepts_encode l w, spelt_encode l w);
    }

-- a well-formed line that spells a file is written as that file
pub writes_again : (bs : List ℕ) → WellFormedLine (line_of bs) → encode (line_of bs) ≡ bs → (l : Line) → l ≡ line_of bs → (passes (write_checks l (length bs)) ≡ true) × (encode l ≡ bs)
writes_again bs w z l q =
    let s : length (encode (line_of bs)) ≡ length bs = ap length z in
    (ap (λ x. passes (write_checks x (length bs))) q ∙ (writes_just_the_well_formed (line_of bs) (length bs)).formed_is_written w (omega arith), ap encode q ∙ z)
