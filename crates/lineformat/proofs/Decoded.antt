-- The bytes of the line that some bytes spell are those bytes.
use Rattle.std.proofs.Common.{◌≡◌, ℕ, zero, suc, ◌+◌, ◌*◌, ◌<◌, ◌≤◌, List, [], ◌∷◌, ◌++◌, map, length, get_or, take, drop, sym, refl, ap, ◌∙◌, ⊎_elim, arith, w16, to_z, of_z}
use Rattle.std.specs.Int.{w32, to_le_bytes, from_le_bytes}
use Rattle.std.specs.List.{flat_map, range_with_len}
use Rattle.std.proofs.lemmas.Bool.{cases_lt}
use Rattle.std.proofs.lemmas.List.{append_assoc, append-nil, drop_more, drop-drop, take-append-drop, drop_all, length-take-le, length-take, length-drop, get_or-take, get_or-drop, get_or_past}
use Rattle.std.proofs.lemmas.Int.{of_z-to_z}
use Rattle.std.proofs.lemmas.Nat.{le_bytes_2, le_bytes_4}
use Rattle.lineformat.specs.declared.Numbers.{Numbers}
use Rattle.lineformat.specs.Limits.{record_size, trailer_size, only_version}
use Rattle.lineformat.specs.Format.{two_at, four_at, move_bytes, place_bytes, record_bytes, trailer_bytes, move_at, place_at, records_at, encode, line_of, trailer, numbers_in, places_in, moves_in, places_from, moves_from}
use Rattle.lineformat.proofs.Sound.{SoundTrailer}
use Rattle.lineformat.proofs.Spelt.{two_is, count_places, count_moves}

-- each is a byte
abbrev pub Octets : List ℕ → Type 0
Octets bs = (i : ℕ) → get_or bs i 0 < 256

-- a part of a list, and what follows it
joined : (bs part : List ℕ) (o k q : ℕ) → part ≡ take k (drop o bs) → o + k ≡ q → part ++ drop q bs ≡ drop o bs
joined bs part o k q e f =
    ap (λ x. x ++ drop q bs) e ∙ ap (λ n. take k (drop o bs) ++ drop n bs) (sym f) ∙ ap (λ x. take k (drop o bs) ++ x) (sym (drop-drop k o bs)) ∙ take-append-drop k (drop o bs)

one_on : (bs : List ℕ) (o q : ℕ) → o + 1 ≡ q → q ≤ length bs → get_or bs o 0 ∷ drop q bs ≡ drop o bs
one_on bs o q e h = ap (λ n. get_or bs o 0 ∷ drop n bs) (sym e) ∙ sym (drop_more bs o 0 (omega arith))

part_octets : (bs : List ℕ) (o k : ℕ) → Octets bs → Octets (take k (drop o bs))
part_octets bs o k b i = ⊎_elim
    (λ h. let e = get_or-take k (drop o bs) i 0 h in let f = get_or-drop o bs i 0 in let l = b (o + i) in omega arith)
    (λ h. let l : length (take k (drop o bs)) ≤ i = simp length-take (omega (arith, h)) in let e = get_or_past (take k (drop o bs)) i 0 l in omega arith)
    (cases_lt i k)

part_long : (bs : List ℕ) (o k : ℕ) → o + k ≤ length bs → length (take k (drop o bs)) ≡ k
part_long bs o k h = length-take-le k (drop o bs) (simp length-drop (omega arith))

-- the bytes of a number that two or four bytes spell
two_again : (bs : List ℕ) (o : ℕ) → Octets bs → o + 2 ≤ length bs → to_le_bytes w16 (two_at bs o) ≡ take 2 (drop o bs)
two_again bs o b h = le_bytes_2 (take 2 (drop o bs)) (two_at bs o) (part_long bs o 2 h) (part_octets bs o 2 b) (front (drop o bs))
  where
    front : (xs : List ℕ) → from_le_bytes w16 xs ≡ from_le_bytes w16 (take 2 xs)
    front [] = refl
    front (x ∷ []) = refl
    front (x ∷ y ∷ xs) = refl

four_again : (bs : List ℕ) (o : ℕ) → Octets bs → o + 4 ≤ length bs → to_le_bytes w32 (four_at bs o) ≡ take 4 (drop o bs)
four_again bs o b h = le_bytes_4 (take 4 (drop o bs)) (four_at bs o) (part_long bs o 4 h) (part_octets bs o 4 b) (front (drop o bs))
  where
    front : (xs : List ℕ) → from_le_bytes w32 xs ≡ from_le_bytes w32 (take 4 xs)
    front [] = refl
    front (x ∷ []) = refl
    front (x ∷ y ∷ []) = refl
    front (x ∷ y ∷ z ∷ []) = refl
    front (x ∷ y ∷ z ∷ w ∷ xs) = refl

two_on : (bs : List ℕ) (o q : ℕ) → Octets bs → o + 2 ≡ q → q ≤ length bs → to_le_bytes w16 (two_at bs o) ++ drop q bs ≡ drop o bs
two_on bs o q b e h = joined bs (to_le_bytes w16 (two_at bs o)) o 2 q (two_again bs o b (omega arith)) e

-- a record and what follows it
move_there : (bs : List ℕ) (o q : ℕ) → Octets bs → o + record_size ≡ q → q ≤ length bs → move_bytes (move_at bs o) ++ drop q bs ≡ drop o bs
move_there bs o q b e h =
    let t : ℕ = two_at bs (o + 2) in
    let w : of_z w16 (to_z w16 t) ≡ t = of_z-to_z w16 t (let x = b (o + 2) in let y = b (o + 2 + 1) in let z = two_is bs (o + 2) in omega arith) in
    ap (λ n. (to_le_bytes w16 (two_at bs o) ++ to_le_bytes w16 n) ++ drop q bs) w
    ∙ append_assoc (to_le_bytes w16 (two_at bs o)) (to_le_bytes w16 t) (drop q bs)
    ∙ ap (λ x. to_le_bytes w16 (two_at bs o) ++ x) (two_on bs (o + 2) q b (omega arith) h)
    ∙ two_on bs o (o + 2) b refl (omega arith)

place_there : (bs : List ℕ) (o q : ℕ) → Octets bs → o + record_size ≡ q → q ≤ length bs → place_bytes (place_at bs o) ++ drop q bs ≡ drop o bs
place_there bs o q b e h =
    ap (λ x. get_or bs o 0 ∷ get_or bs (o + 1) 0 ∷ x) (two_on bs (o + 2) q b (omega arith) h)
    ∙ ap (λ x. get_or bs o 0 ∷ x) (one_on bs (o + 1) (o + 2) (omega arith) (omega arith))
    ∙ one_on bs o (o + 1) refl (omega arith)

-- records from an offset on, and what follows them
rows_there : {X : Type 0} (g : X → List ℕ) (at : ℕ → X) (bs : List ℕ) (o a m : ℕ)
    → ((i : ℕ) → a ≤ i → i < a + m → g (at i) ++ drop (o + (i + 1) * record_size) bs ≡ drop (o + i * record_size) bs)
    → flat_map g (map at (range_with_len a m)) ++ drop (o + (a + m) * record_size) bs ≡ drop (o + a * record_size) bs
rows_there g at bs o a zero h = ap (λ n. drop n bs) (let z : o + (a + 0) * record_size ≡ o + a * record_size = omega arith in z)
rows_there g at bs o a (suc m) h =
    let q : flat_map g (map at (range_with_len (a + 1) m)) ++ drop (o + (a + 1 + m) * record_size) bs ≡ drop (o + (a + 1) * record_size) bs = rows_there g at bs o (a + 1) m (λ i l u. h i (omega arith) (omega arith)) in
    append_assoc (g (at a)) (flat_map g (map at (range_with_len (a + 1) m))) (drop (o + (a + suc m) * record_size) bs)
    ∙ ap (λ n. g (at a) ++ (flat_map g (map at (range_with_len (a + 1) m)) ++ drop n bs)) (let z : o + (a + suc m) * record_size ≡ o + (a + 1 + m) * record_size = omega arith in z)
    ∙ ap (λ t. g (at a) ++ t) q
    ∙ h a (omega arith) (omega arith)

-- all records from an offset on, and what follows them
records_there : {X : Type 0} (g : X → List ℕ) (at : List ℕ → ℕ → X) (bs : List ℕ) → ((o q : ℕ) → o + record_size ≡ q → q ≤ length bs → g (at bs o) ++ drop q bs ≡ drop o bs)
    → (o n q : ℕ) → o + n * record_size ≡ q → q ≤ length bs → flat_map g (records_at at bs o n) ++ drop q bs ≡ drop o bs
records_there g at bs there o n q e h =
    ap (λ m. flat_map g (records_at at bs o n) ++ drop m bs) (let z : q ≡ o + (0 + n) * record_size = omega arith in z)
    ∙ rows_there g (λ i. at bs (o + i * record_size)) bs o 0 n (λ i l u. there (o + i * record_size) (o + (i + 1) * record_size) (omega arith) (omega arith))
    ∙ ap (λ m. drop m bs) (let z : o + 0 * record_size ≡ o = omega arith in z)

trailer_there : (bs : List ℕ) → Octets bs → SoundTrailer bs → trailer_bytes (numbers_in bs) ≡ drop (trailer bs) bs
trailer_there bs b s =
    let t : ℕ = trailer bs in
    let room : t + trailer_size ≡ length bs = (let z = s.not_short in omega arith) in
    let n = numbers_in bs in
    let distance : to_le_bytes w32 (record_bytes n) ≡ drop (t + 12) bs =
    ap (to_le_bytes w32) (sym s.distance) ∙ sym (append-nil _) ∙ ap (λ x. to_le_bytes w32 (four_at bs (t + 12)) ++ x) (sym (drop_all (t + 16) bs (omega arith)))
    ∙ joined bs (to_le_bytes w32 (four_at bs (t + 12))) (t + 12) 4 (t + 16) (four_again bs (t + 12) b (omega arith)) (omega arith) in
    let kind : n.kind ∷ only_version ∷ to_le_bytes w32 (record_bytes n) ≡ drop (t + 10) bs =
    ap (λ x. n.kind ∷ only_version ∷ x) distance ∙ ap (λ v. n.kind ∷ v ∷ drop (t + 12) bs) (sym s.version)
    ∙ ap (λ x. n.kind ∷ x) (one_on bs (t + 11) (t + 12) (omega arith) (omega arith)) ∙ one_on bs (t + 10) (t + 11) (omega arith) (omega arith) in
    let draw : to_le_bytes w16 n.draw ++ (n.kind ∷ only_version ∷ to_le_bytes w32 (record_bytes n)) ≡ drop (t + 8) bs =
    ap (λ x. to_le_bytes w16 n.draw ++ x) kind ∙ two_on bs (t + 8) (t + 10) b (omega arith) (omega arith) in
    let top = ap (λ x. to_le_bytes w32 n.top ++ x) draw ∙ joined bs (to_le_bytes w32 n.top) (t + 4) 4 (t + 8) (four_again bs (t + 4) b (omega arith)) (omega arith) in
    let moves = ap (λ x. to_le_bytes w16 n.moves ++ x) top ∙ two_on bs (t + 2) (t + 4) b (omega arith) (omega arith) in
    ap (λ x. to_le_bytes w16 n.places ++ x) moves ∙ two_on bs t (t + 2) b refl (omega arith)

pub encode_spelt : (bs : List ℕ) → Octets bs → SoundTrailer bs → encode (line_of bs) ≡ bs
unfolding encode line_of
encode_spelt bs b s =
    let P = records_at place_at bs (places_from (trailer bs) bs) (places_in bs) in
    let M = records_at move_at bs (moves_from (trailer bs) bs) (moves_in bs) in
    let N : ℕ → ℕ → Numbers = λ n m. record { places = n; moves = m; top = (numbers_in bs).top; draw = (numbers_in bs).draw; kind = (numbers_in bs).kind } in
    let d = s.distance in
    let i = s.inside in
    let n = s.not_short in
    let t1 : trailer_bytes (N (length P) (length M)) ≡ drop (trailer bs) bs =
    ap (λ x. trailer_bytes (N x (length M))) (count_places bs) ∙ ap (λ x. trailer_bytes (N (places_in bs) x)) (count_moves bs) ∙ trailer_there bs b s in
    let p1 = records_there place_bytes place_at bs (λ o q. place_there bs o q b) (places_from (trailer bs) bs) (places_in bs) (trailer bs) (omega arith) (omega arith) in
    let m1 = records_there move_bytes move_at bs (λ o q. move_there bs o q b) (moves_from (trailer bs) bs) (moves_in bs) (places_from (trailer bs) bs) (omega arith) (omega arith) in
    ap (λ x. take (moves_from (trailer bs) bs) bs ++ (flat_map move_bytes M ++ (flat_map place_bytes P ++ x))) t1
    ∙ ap (λ x. take (moves_from (trailer bs) bs) bs ++ (flat_map move_bytes M ++ x)) p1
    ∙ ap (λ x. take (moves_from (trailer bs) bs) bs ++ x) m1
    ∙ take-append-drop (moves_from (trailer bs) bs) bs
