-- Loops that fill and write tables, one step, over any record.
use Rattle.std.proofs.Common.{◌≡◌, ℕ, ◌+◌, ◌-◌, ◌*◌, ◌<◌, ◌≤◌, List, [], ◌∷◌, ◌++◌, map, length, get_or, take, drop, set, sym, refl, ap, ◌∙◌, arith}
use Rattle.std.specs.List.{flat_map, range_with_len}
use Rattle.std.proofs.lemmas.List.{append_assoc, append-nil, length-append, length-take-le, take_at, drop_at, drop-drop, take_more, drop_more, set-append_right}
use Rattle.std.proofs.lemmas.Grind.{flat_map-append}
use Rattle.std.proofs.lemmas.List.FromFn.{map-range_with_len_more, length-map-range_with_len}
use Rattle.lineformat.specs.Limits.{record_size}

-- a table filled by f up to i, and then at i
pub fill_step : {X : Type 0} (f : ℕ → X) (o : List X) (i : ℕ) → i < length o
    → set (map f (range_with_len 0 i) ++ drop i o) i (f i) ≡ map f (range_with_len 0 (i + 1)) ++ drop (i + 1) o
fill_step f o i h =
    let a = set-append_right (map f (range_with_len 0 i)) (drop i o) i i (f i) (length-map-range_with_len f 0 i) (omega arith) in
    let b : set (drop i o) (i - i) (f i) ≡ f i ∷ drop (i + 1) o =
    ap (λ n. set (drop i o) n (f i)) (let z : i - i ≡ 0 = omega arith in z) ∙ ap (λ xs. set xs 0 (f i)) (drop_more o i (f i) h) in
    let e = map-range_with_len_more f 0 i i (omega arith) in
    let g = append_assoc (map f (range_with_len 0 i)) (f i ∷ []) (drop (i + 1) o) in
    cc

pub length_joined : {X : Type 0} (f : X → List ℕ) → ((x : X) → length (f x) ≡ record_size) → (xs : List X) → length (flat_map f xs) ≡ length xs * record_size
length_joined f four [] = refl
length_joined f four (x ∷ xs) = length-append (f x) (flat_map f xs) ∙ (let a = four x in let b = length_joined f four xs in omega arith)

-- records written up to i, and then at i
pub put_step : {X : Type 0} (f : X → List ℕ) → ((x : X) → length (f x) ≡ record_size) → (o : List ℕ) (base : ℕ) (xs : List X) (i at : ℕ) (d : X)
    → i < length xs → base ≤ length o → at ≡ base + i * record_size → (s : List ℕ) → s ≡ take base o ++ (flat_map f (take i xs) ++ drop (base + i * record_size) o)
    → take at s ++ (f (get_or xs i d) ++ drop (at + record_size) s) ≡ take base o ++ (flat_map f (take (i + 1) xs) ++ drop (base + (i + 1) * record_size) o)
put_step f four o base xs i at d h l e s q =
    let A : List ℕ = take base o ++ flat_map f (take i xs) in
    let la : length A ≡ at =
    length-append (take base o) (flat_map f (take i xs)) ∙
    (let p = length-take-le base o l in let r = length_joined f four (take i xs) in let t = length-take-le i xs (omega arith) in omega arith) in
    let s1 : s ≡ A ++ drop (base + i * record_size) o = q ∙ sym (append_assoc (take base o) (flat_map f (take i xs)) (drop (base + i * record_size) o)) in
    let t1 : take at s ≡ A = ap (take at) s1 ∙ take_at A (drop (base + i * record_size) o) at la in
    let d1 : drop at s ≡ drop (base + i * record_size) o = ap (drop at) s1 ∙ drop_at A (drop (base + i * record_size) o) at la in
    let d2 : drop (at + record_size) s ≡ drop (base + (i + 1) * record_size) o =
    sym (drop-drop record_size at s) ∙ ap (drop record_size) d1 ∙ drop-drop record_size (base + i * record_size) o ∙ ap (λ n. drop n o) (let z : base + i * record_size + record_size ≡ base + (i + 1) * record_size = omega arith in z) in
    let j1 : flat_map f (take (i + 1) xs) ≡ flat_map f (take i xs) ++ f (get_or xs i d) =
    ap (flat_map f) (take_more xs i d h) ∙ flat_map-append f (take i xs) (get_or xs i d ∷ []) ∙ ap (λ t. flat_map f (take i xs) ++ t) (append-nil (f (get_or xs i d))) in
    let g1 = append_assoc (take base o) (flat_map f (take i xs)) (f (get_or xs i d) ++ drop (base + (i + 1) * record_size) o) in
    let g2 = append_assoc (flat_map f (take i xs)) (f (get_or xs i d)) (drop (base + (i + 1) * record_size) o) in
    cc

-- a part put after what is there already
pub put_more : (o s front part : List ℕ) (at k : ℕ) → s ≡ front ++ drop at o → length front ≡ at → length part ≡ k
    → take at s ++ (part ++ drop (at + k) s) ≡ (front ++ part) ++ drop (at + k) o
put_more o s front part at k e f g =
    let t : take at s ≡ front = ap (take at) e ∙ take_at front (drop at o) at f in
    let d : drop at s ≡ drop at o = ap (drop at) e ∙ drop_at front (drop at o) at f in
    let q : drop (at + k) s ≡ drop (at + k) o = sym (drop-drop k at s) ∙ ap (drop k) d ∙ drop-drop k at o in
    ap (λ x. x ++ (part ++ drop (at + k) s)) t ∙ ap (λ x. front ++ (part ++ x)) q ∙ sym (append_assoc front part (drop (at + k) o))
