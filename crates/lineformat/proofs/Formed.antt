-- The game of a well-formed line keeps the rules of games, and answers by the line's records.
use Rattle.std.proofs.Common.{◌≡◌, ℕ, zero, suc, ◌+◌, ◌<◌, ◌≤◌, true, List, [], ◌∷◌, map, length, drop, nat_abs, is_some, Some, None, Option, Ok, Err, Result, sym, refl, ap, ◌∙◌, subst, ⊎_elim, le_of_suc-le-suc, not-suc-le-zero, arith}
use Rattle.std.specs.List.{slice_get}
use Rattle.std.specs.Option.{option_map}
use Rattle.std.specs.Result.{result_ok}
use Rattle.std.proofs.lemmas.List.{length-map, length-take-le, length-drop}
use Rattle.std.proofs.lemmas.Option.{slice_get-get_or, slice_get-map, slice_get_past, slice_get_within, get_or_from_slice_get}
use Rattle.std.proofs.lemmas.Bool.{cases_lt, false≢true}
use Rattle.game.specs.declared.Edge.{Edge}
use Rattle.game.specs.declared.Owner.{Owner}
use Rattle.game.specs.declared.Owner.TheVariants.{Ours, Theirs}
use Rattle.game.specs.declared.UnknownOwner.{UnknownOwner}
use Rattle.game.specs.Game.{Place, SoundPlace, WellFormed}
use Rattle.game.specs.Owners.{NamesOwner}
use Rattle.hopper.specs.Boards.{owner_at, moves_at, step_at}
use Rattle.lineformat.specs.declared.PlaceRecord.{PlaceRecord}
use Rattle.lineformat.specs.Limits.{last_owner, most_amount}
use Rattle.lineformat.specs.Format.{Line, line_of, place_of, move_of, no_place, no_move}
use Rattle.lineformat.specs.WellFormed.{WellFormedLine, moves_of, moves_before}
use Rattle.lineformat.specs.Checks.{accepts}
use Rattle.lineformat.specs.Games.{game_of, place_from, edge_from, owner_from}
use Rattle.lineformat.proofs.Sound.{accepted_line, in_moves, move_in}
use Rattle.lineformat.proofs.Spelt.{no_moves, nth_part_past}

-- a place has as many moves as its record says
count_of : (l : Line) → WellFormedLine l → (p : ℕ) → p < length l.places → length (map edge_from (moves_of l p)) ≡ (place_of l p).moves
count_of l w p h =
    let i = in_moves l w p h in
    length-map (moves_of l p) edge_from ∙ length-take-le (place_of l p).moves (drop (moves_before l p) l.moves) (simp length-drop (omega arith))

-- each move of a place is a move of the line
one_of : (l : Line) → WellFormedLine l → (p : ℕ) → p < length l.places → (m : ℕ) (e : Edge) → slice_get (map edge_from (moves_of l p)) m ≡ Some e
    → (j : ℕ) × (j < length l.moves) × (e ≡ edge_from (move_of l j))
one_of l w p h m e q = ⊎_elim (λ s. inside s) (λ s. absurd (past s)) (cases_lt m (place_of l p).moves)
  where
    past : (place_of l p).moves ≤ m → ⊥
    past s =
        let a : slice_get (moves_of l p) m ≡ None = nth_part_past l.moves (moves_before l p) (place_of l p).moves m s in
        let b : ◌≡◌ {A = Option Edge} None (Some e) = sym (ap (option_map edge_from) a) ∙ sym (slice_get-map edge_from (moves_of l p) m) ∙ q in
        false≢true (ap is_some b)

    inside : m < (place_of l p).moves → (j : ℕ) × (j < length l.moves) × (e ≡ edge_from (move_of l j))
    inside s =
        let j : ℕ = moves_before l p + m in
        let a = move_in l w p m (moves_before l p) (place_of l p).moves h refl refl s in
        let b : slice_get l.moves j ≡ Some (move_of l j) = slice_get-get_or l.moves j no_move a.1 in
        let d : ◌≡◌ {A = Option Edge} (Some (edge_from (move_of l j))) (Some e) = sym (ap (option_map edge_from) (a.0 ∙ b)) ∙ sym (slice_get-map edge_from (moves_of l p) m) ∙ q in
        (j, a.1, cc)

game_formed : (l : Line) → WellFormedLine l → WellFormed (game_of l)
game_formed l w =
    record {
      some_place = w.numbers.few_places.0;
      few_places = (let a = w.numbers.few_places.1 in omega arith);
      here = λ p h. here p h;
      gone = λ p h. ap (option_map (place_from l p)) (slice_get_past l.places p h);
    }
  where
    here : (p : ℕ) → p < length l.places → (q : Place) × ((game_of l).at p ≡ Some q) × SoundPlace (game_of l) q
    here p h =
        let n : length (map edge_from (moves_of l p)) ≡ (place_of l p).moves = count_of l w p h in
        let s = (w.each_place p no_place h).moving in
        let i = in_moves l w p h in
        let f = w.numbers.few_moves.1 in (
          place_from l p (place_of l p),
          ap (option_map (place_from l p)) (slice_get-get_or l.places p no_place h),
          record {
            sound = record {
              some_move = omega arith;
              few_moves = omega arith;
              targets = λ m e x. (let o = one_of l w p h m e x in let t = (w.each_move o.0 no_move o.1).leads in let z : e.target ≡ (move_of l o.0).target = ap (λ (y : Edge). y.target) o.2 in omega arith);
            };
            amounts = λ m e x. (let o = one_of l w p h m e x in let t = (w.each_move o.0 no_move o.1).limits in let z : nat_abs e.amount ≡ nat_abs (move_of l o.0).amount = ap (λ (y : Edge). nat_abs y.amount) o.2 in omega arith);
          },
        )

-- an accepted file is a game
pub file_formed : (bs : List ℕ) → accepts bs ≡ true → WellFormed (game_of (line_of bs))
file_formed bs e = game_formed (line_of bs) (accepted_line bs e)

-- its moves pour no more than those of a line file may
pub file_amounts : (bs : List ℕ) → accepts bs ≡ true → (p m : ℕ) (q : Place) (e : Edge) → (game_of (line_of bs)).at p ≡ Some q → slice_get q.moves m ≡ Some e
    → nat_abs e.amount ≤ most_amount
file_amounts bs ok p m q e at is =
    let l = line_of bs in
    let w = accepted_line bs ok in
    let h : p < length l.places = ⊎_elim (λ s. s) (λ s. absurd (false≢true (ap is_some (sym (ap (option_map (place_from l p)) (slice_get_past l.places p s)) ∙ at)))) (cases_lt p (length l.places)) in
    let there : Some (place_from l p (place_of l p)) ≡ Some q = sym (ap (option_map (place_from l p)) (slice_get-get_or l.places p no_place h)) ∙ at in
    let same : place_from l p (place_of l p) ≡ q = cc in
    let o = one_of l w p h m e (subst (λ (r : Place). slice_get r.moves m ≡ Some e) (sym same) is) in
    let t = (w.each_move o.0 no_move o.1).limits in
    let z : nat_abs e.amount ≡ nat_abs (move_of l o.0).amount = ap (λ (y : Edge). nat_abs y.amount) o.2 in
    omega arith

-- what the game answers of a place, from the records
pub moves_is : (l : Line) → WellFormedLine l → (p : ℕ) (r : PlaceRecord) → slice_get l.places p ≡ Some r → moves_at ((game_of l).at p) ≡ Some r.moves
moves_is l w p r e = ⊎_elim (λ h. inside h) (λ h. absurd (past h)) (cases_lt p (length l.places))
  where
    past : length l.places ≤ p → ⊥
    past h = let b : ◌≡◌ {A = Option PlaceRecord} None (Some r) = sym (slice_get_past l.places p h) ∙ e in false≢true (ap is_some b)

    inside : p < length l.places → moves_at ((game_of l).at p) ≡ Some r.moves
    inside h =
        let a = slice_get-get_or l.places p no_place h in
        let q : place_of l p ≡ r = cc in
        ap (λ x. moves_at (option_map (place_from l p) x)) e ∙ ap Some (count_of l w p h ∙ ap (λ (x : PlaceRecord). x.moves) q)

-- the owner that the number of a place names is the owner of the place
pub owner_is : (l : Line) → WellFormedLine l → (p : ℕ) (r : PlaceRecord) → slice_get l.places p ≡ Some r
    → (o : Result Owner UnknownOwner) → NamesOwner r.owner o → result_ok o ≡ owner_at ((game_of l).at p)
owner_is l w p r e o n = named o r.owner low n ∙ sym (ap (λ x. owner_at (option_map (place_from l p) x)) e)
  where
    low : r.owner ≤ 1
    low =
        let q : place_of l p ≡ r = get_or_from_slice_get l.places p r no_place e in
        let a : (place_of l p).owner ≤ last_owner = (w.each_place p no_place (slice_get_within l.places p r e)).owned in
        let b = ap (λ (x : PlaceRecord). x.owner) q in
        omega arith

    named : (o : Result Owner UnknownOwner) (k : ℕ) → k ≤ 1 → NamesOwner k o → result_ok o ≡ Some (owner_from k)
    named (Ok Ours) k h n = ap (λ x. Some (owner_from x)) n
    named (Ok Theirs) k h n = ap (λ x. Some (owner_from x)) n
    named (Err x) zero h n = absurd (n.1 Ours refl)
    named (Err x) (suc zero) h n = absurd (n.1 Theirs refl)
    named (Err x) (suc (suc k)) h n = absurd (not-suc-le-zero (le_of_suc-le-suc h))

pub step_is : (l : Line) (p m : ℕ) → step_at ((game_of l).at p) m ≡ option_map edge_from (slice_get (moves_of l p) m)
step_is l p m = ⊎_elim (λ h. inside h) (λ h. past h) (cases_lt p (length l.places))
  where
    inside : p < length l.places → step_at ((game_of l).at p) m ≡ option_map edge_from (slice_get (moves_of l p) m)
    inside h = ap (λ x. step_at (option_map (place_from l p) x) m) (slice_get-get_or l.places p no_place h) ∙ slice_get-map edge_from (moves_of l p) m

    past : length l.places ≤ p → step_at ((game_of l).at p) m ≡ option_map edge_from (slice_get (moves_of l p) m)
    past h = ap (λ x. step_at (option_map (place_from l p) x) m) (slice_get_past l.places p h) ∙ sym (ap (option_map edge_from) (no_moves l p m h))
