-- The cases of the two small lines, by computing rows and decisions.
use Rattle.std.proofs.Common.{◌≡◌, ℕ, zero, suc, ◌+◌, ◌-◌, ◌<◌, ◌≤◌, Bool, true, false, cond, T, List, [], ◌∷◌, length, Some, None, Option, sym, refl, ◌∙◌, subst, arith}
use native.Mathlib.Decide.{dec_lt}
use Rattle.std.specs.List.{slice_get}
use Rattle.game.specs.Game.{Edge, Place, Game, SoundPlace, WellFormed}
use Rattle.game.specs.Vessel.{Table, Hopper, Keeps, lip, closed, drawn, unlimited}
use Rattle.game.specs.Fill.{Holds, Good, IsMark, LeastGood, IsRow, IsLeast, Repeats, FirstRepeat}
use Rattle.game.specs.Rows.{Need, Graded, need_lip, need_drawn}
use Rattle.game.proofs.RowMaking.{row_of}
use Rattle.game.specs.Cases.{two, line_p, line_q, LeastAre, MarksAre, SomeMark, IsLargestMark, WorkedCases}
use Rattle.game.proofs.Base.{none_some, some_inj, not_dec, stable, find, choice_dec, pours_dec, step_dec, holds_dec, holds_le}
use Rattle.game.proofs.Lip.{lip_at_drop_sum_is_no_lip}
use Rattle.game.proofs.Rows.{need_makes_rows, repeated_row_is_least_good, unique}
use Rattle.game.proofs.Stages.{stage_good}
use Rattle.game.proofs.Vessels.{vessels_keep_rules}

below_two : (P : ℕ → Type 0) → P 0 → P 1 → (p : ℕ) → p < 2 → P p
below_two P a b zero lt = a
below_two P a b (suc zero) lt = b
below_two P a b (suc (suc p)) lt = absurd (omega arith)

past_two : (a b : Place) (p : ℕ) → 2 ≤ p → two a b p ≡ None
past_two a b zero le = absurd (omega arith)
past_two a b (suc zero) le = absurd (omega arith)
past_two a b (suc (suc p)) le = refl

one_move : (P : Edge → Type 0) (x : Edge) → P x → (m : ℕ) (e : Edge) → slice_get (x ∷ []) m ≡ Some e → P e
one_move P x a zero e h = subst P (some_inj h) a
one_move P x a (suc m) e h = absurd (none_some h)

two_moves : (P : Edge → Type 0) (x y : Edge) → P x → P y → (m : ℕ) (e : Edge) → slice_get (x ∷ y ∷ []) m ≡ Some e → P e
two_moves P x y a b zero e h = subst P (some_inj h) a
two_moves P x y a b (suc zero) e h = subst P (some_inj h) b
two_moves P x y a b (suc (suc m)) e h = absurd (none_some h)

formed_p : WellFormed line_p
formed_p =
    record {
      some_place = omega arith;
      few_places = omega arith;
      here = below_two (λ p. (q : Place) × (line_p.at p ≡ Some q) × SoundPlace line_p q)
          (_, refl, record { sound = record { some_move = omega arith; few_moves = omega arith; targets = one_move _ _ (omega arith) }; amounts = one_move _ _ (omega arith) })
          (_, refl, record { sound = record { some_move = omega arith; few_moves = omega arith; targets = one_move _ _ (omega arith) }; amounts = one_move _ _ (omega arith) });
      gone = past_two _ _;
    }

formed_q : WellFormed line_q
formed_q =
    record {
      some_place = omega arith;
      few_places = omega arith;
      here = below_two (λ p. (q : Place) × (line_q.at p ≡ Some q) × SoundPlace line_q q)
          (_, refl, record { sound = record { some_move = omega arith; few_moves = omega arith; targets = two_moves _ _ _ (omega arith) (omega arith) }; amounts = two_moves _ _ _ (omega arith) (omega arith) })
          (_, refl, record { sound = record { some_move = omega arith; few_moves = omega arith; targets = two_moves _ _ _ (omega arith) (omega arith) }; amounts = two_moves _ _ _ (omega arith) (omega arith) });
      gone = past_two _ _;
    }

-- ---- the rows, computed by need
-- row j and the next one come out the same
abbrev Same : Game → Need → ℕ → Type 0
Same g need j = (p : ℕ) → p < g.places → row_of g need j p ≡ row_of g need (suc j) p

module _ (g : Game) (wf : WellFormed g) (v : Hopper) (keeps : Keeps v) (need : Need) (graded : Graded v need) (j : ℕ) where
  rows : (i : ℕ) → IsRow g v i (row_of g need i)
  rows = need_makes_rows g wf v keeps need graded

  repeats : Same g need j → Repeats g v j
  repeats same = (row_of g need j, rows j, λ p lt. subst (IsLeast (λ c. (c ≤ v.top) × Holds g v.table (suc j) p c)) (sym (same p lt)) (rows (suc j) p lt))

  repeats_same : (i : ℕ) → Repeats g v i → Same g need i
  repeats_same i w p lt =
      unique.row g v i (row_of g need i) w.0 (rows i) w.1 p lt ∙ unique.row g v (suc i) w.0 (row_of g need (suc i)) w.2 (rows (suc i)) p lt

  module _ (same : Same g need j) where
    least_row : (p : ℕ) → p < g.places → LeastGood g v.table p (row_of g need j p)
    unfolding repeats
    least_row p lt = let w = repeats same in repeated_row_is_least_good g wf v keeps need graded j w.0 w.1 w.2 p lt

    rounds : ((i : ℕ) → i < j → ¬ Same g need i) → FirstRepeat g v j
    rounds before = (repeats same, λ i lt w. before i lt (repeats_same i w))

zero_not : {n : ℕ} → Some 0 ≡ Some (suc n) → ⊥
zero_not e = omega (arith, some_inj e)

up_to_1 : (S : ℕ → Type 0) → ¬ S 0 → (i : ℕ) → i < 1 → ¬ S i
up_to_1 S a zero lt = a
up_to_1 S a (suc i) lt = absurd (omega arith)

up_to_2 : (S : ℕ → Type 0) → ¬ S 0 → ¬ S 1 → (i : ℕ) → i < 2 → ¬ S i
up_to_2 S a b zero lt = a
up_to_2 S a b (suc zero) lt = b
up_to_2 S a b (suc (suc i)) lt = absurd (omega arith)

up_to_3 : (S : ℕ → Type 0) → ¬ S 0 → ¬ S 1 → ¬ S 2 → (i : ℕ) → i < 3 → ¬ S i
up_to_3 S a b c zero lt = a
up_to_3 S a b c (suc zero) lt = b
up_to_3 S a b c (suc (suc zero)) lt = c
up_to_3 S a b c (suc (suc (suc i))) lt = absurd (omega arith)

case_p6 : LeastAre line_p (lip 6).table (Some 0) (Some 5) × FirstRepeat line_p (lip 6) 1
case_p6 =
    let s : Same line_p (need_lip 6) 1 = below_two (λ p. row_of line_p (need_lip 6) 1 p ≡ row_of line_p (need_lip 6) 2 p) refl refl in
    let k = vessels_keep_rules 6 0 (omega arith) in
    let l = least_row line_p formed_p (lip 6) k.lip_keeps (need_lip 6) k.lip_graded 1 s in
    ((l 0 (omega arith), l 1 (omega arith)), rounds line_p formed_p (lip 6) k.lip_keeps (need_lip 6) k.lip_graded 1 s (up_to_1 (Same line_p (need_lip 6)) (λ e. zero_not (e 1 (omega arith)))))

case_p5 : LeastAre line_p (lip 5).table (Some 0) (Some 5) × FirstRepeat line_p (lip 5) 1
case_p5 =
    let s : Same line_p (need_lip 5) 1 = below_two (λ p. row_of line_p (need_lip 5) 1 p ≡ row_of line_p (need_lip 5) 2 p) refl refl in
    let k = vessels_keep_rules 5 0 (omega arith) in
    let l = least_row line_p formed_p (lip 5) k.lip_keeps (need_lip 5) k.lip_graded 1 s in
    ((l 0 (omega arith), l 1 (omega arith)), rounds line_p formed_p (lip 5) k.lip_keeps (need_lip 5) k.lip_graded 1 s (up_to_1 (Same line_p (need_lip 5)) (λ e. zero_not (e 1 (omega arith)))))

case_p4 : LeastAre line_p (lip 4).table None None × FirstRepeat line_p (lip 4) 2
case_p4 =
    let s : Same line_p (need_lip 4) 2 = below_two (λ p. row_of line_p (need_lip 4) 2 p ≡ row_of line_p (need_lip 4) 3 p) refl refl in
    let k = vessels_keep_rules 4 0 (omega arith) in
    let l = least_row line_p formed_p (lip 4) k.lip_keeps (need_lip 4) k.lip_graded 2 s in
    ((l 0 (omega arith), l 1 (omega arith)), rounds line_p formed_p (lip 4) k.lip_keeps (need_lip 4) k.lip_graded 2 s (up_to_2 (Same line_p (need_lip 4)) (λ e. none_some (sym (e 1 (omega arith)))) (λ e. none_some (sym (e 0 (omega arith))))))

case_drawn : LeastAre line_p (drawn 6 1).table None None × FirstRepeat line_p (drawn 6 1) 3
case_drawn =
    let s : Same line_p (need_drawn 6 1) 3 = below_two (λ p. row_of line_p (need_drawn 6 1) 3 p ≡ row_of line_p (need_drawn 6 1) 4 p) refl refl in
    let k = vessels_keep_rules 6 1 (omega arith) in
    let l = least_row line_p formed_p (drawn 6 1) k.drawn_keeps (need_drawn 6 1) k.drawn_graded 3 s in (
      (l 0 (omega arith), l 1 (omega arith)),
      rounds line_p formed_p (drawn 6 1) k.drawn_keeps (need_drawn 6 1) k.drawn_graded 3 s (up_to_3 (Same line_p (need_drawn 6 1)) (λ e. zero_not (e 1 (omega arith))) (λ e. none_some (sym (e 0 (omega arith)))) (λ e. none_some (sym (e 1 (omega arith))))),
    )

case_q10 : LeastAre line_q (lip 10).table (Some 0) (Some 2) × FirstRepeat line_q (lip 10) 1
case_q10 =
    let s : Same line_q (need_lip 10) 1 = below_two (λ p. row_of line_q (need_lip 10) 1 p ≡ row_of line_q (need_lip 10) 2 p) refl refl in
    let k = vessels_keep_rules 10 0 (omega arith) in
    let l = least_row line_q formed_q (lip 10) k.lip_keeps (need_lip 10) k.lip_graded 1 s in
    ((l 0 (omega arith), l 1 (omega arith)), rounds line_q formed_q (lip 10) k.lip_keeps (need_lip 10) k.lip_graded 1 s (up_to_1 (Same line_q (need_lip 10)) (λ e. zero_not (e 1 (omega arith)))))

case_free : LeastAre line_p unlimited (Some 0) (Some 5)
case_free = (
  (lip_at_drop_sum_is_no_lip line_p formed_p 5 (omega arith) 0 (omega arith) (Some 0)).0 case_p5.0.0,
  (lip_at_drop_sum_is_no_lip line_p formed_p 5 (omega arith) 1 (omega arith) (Some 5)).0 case_p5.0.1,
)

-- ---- marks, by decisions
holds_yes : {A : Type 0} → Dec A → Bool
holds_yes (yes a) = true
holds_yes (no n) = false

holds_no : {A : Type 0} → Dec A → Bool
holds_no (yes a) = false
holds_no (no n) = true

from_yes : {A : Type 0} (d : Dec A) → T (holds_yes d) → A
unfolding holds_yes
from_yes (yes a) h = a
from_yes (no n) h = absurd h

from_no : {A : Type 0} (d : Dec A) → T (holds_no d) → ¬ A
unfolding holds_no
from_no (yes a) h = absurd h
from_no (no n) h = n

marked : (g : Game) (t : Table) (p c n : ℕ) → T (holds_yes (holds_dec g t n p c)) → T (holds_no (holds_dec g t (suc n) p c)) → IsMark g t p c (Some (suc n))
marked g t p c n y m = (
  from_no (holds_dec g t (suc n) p c) m,
  λ i lt. let e : n ≡ (n - i) + i = omega arith in holds_le g t (n - i) i p c (subst (λ (k : ℕ). Holds g t k p c) e (from_yes (holds_dec g t n p c) y)),
)

all_below : ℕ → (ℕ → Bool) → Bool
all_below zero f = true
all_below (suc n) f = cond (f n) (all_below n f) false

all_at : (n : ℕ) (f : ℕ → Bool) → T (all_below n f) → (y : ℕ) → y < n → T (f y)
unfolding all_below
all_at zero f h y lt = absurd (omega arith)
all_at (suc n) f h y lt = go (f n) refl h (dec_lt y n) (λ k less. all_at n f k y less)
  where
    go : (b : Bool) → f n ≡ b → T (cond b (all_below n f) false) → Dec (y < n) → (T (all_below n f) → y < n → T (f y)) → T (f y)
    go true e k (yes less) ih = ih k less
    go true e k (no not) ih = let same : n ≡ y = omega arith in subst (λ (z : ℕ). T (f z)) same (subst T (sym e) tt)
    go false e k d ih = absurd k

follows : {A B : Type 0} → Dec A → Dec B → Bool
follows (yes a) (yes b) = true
follows (yes a) (no n) = false
follows (no n) d = true

from_follows : {A B : Type 0} (d : Dec A) (e : Dec B) → T (follows d e) → A → B
unfolding follows
from_follows (yes a) (yes b) h x = b
from_follows (yes a) (no n) h x = absurd h
from_follows (no n) e h x = absurd (n x)

settled : Game → Hopper → ℕ → Bool
settled g v j = all_below g.places (λ p. all_below (suc v.top) (λ c. follows (holds_dec g v.table j p c) (holds_dec g v.table (suc j) p c)))

settled_good : (g : Game) → WellFormed g → (v : Hopper) → Keeps v → (j : ℕ) → T (settled g v j) → (p c : ℕ) → p < g.places → c ≤ v.top
    → T (holds_yes (holds_dec g v.table j p c)) → Good g v.table p c
unfolding settled
settled_good g wf v keeps j ok p c lt le y =
    stage_good g wf v keeps.within j
    (λ p lt c lc. from_follows (holds_dec g v.table j p c) (holds_dec g v.table (suc j) p c)
    (all_at (suc v.top) (λ c. follows (holds_dec g v.table j p c) (holds_dec g v.table (suc j) p c))
    (all_at g.places (λ p. all_below (suc v.top) (λ c. follows (holds_dec g v.table j p c) (holds_dec g v.table (suc j) p c))) ok p lt) c lc))
    p c lt le (from_yes (holds_dec g v.table j p c) y)

case_closed_p : MarksAre line_p (closed 6).table 0 0 (None ∷ None ∷ Some 1 ∷ Some 1 ∷ Some 1 ∷ Some 1 ∷ Some 1 ∷ []) × MarksAre line_p (closed 6).table 1 0 (Some 1 ∷ Some 1 ∷ Some 1 ∷ Some 1 ∷ Some 1 ∷ None ∷ None ∷ [])
unfolding holds_yes holds_no holds_dec step_dec choice_dec find pours_dec not_dec stable all_below follows settled
case_closed_p =
    let k = (vessels_keep_rules 6 0 (omega arith)).closed_keeps in
    let good : (p c : ℕ) → p < 2 → c ≤ 6 → T (holds_yes (holds_dec line_p (closed 6).table 1 p c)) → Good line_p (closed 6).table p c =
    settled_good line_p formed_p (closed 6) k 1 tt in
    let one : (p c : ℕ) → T (holds_no (holds_dec line_p (closed 6).table 1 p c)) → IsMark line_p (closed 6).table p c (Some 1) = λ p c m. marked line_p (closed 6).table p c 0 tt m in (
      (good 0 0 (omega arith) (omega arith) tt, (good 0 1 (omega arith) (omega arith) tt, (one 0 2 tt, (one 0 3 tt, (one 0 4 tt, (one 0 5 tt, (one 0 6 tt, tt))))))),
      (one 1 0 tt, (one 1 1 tt, (one 1 2 tt, (one 1 3 tt, (one 1 4 tt, (good 1 5 (omega arith) (omega arith) tt, (good 1 6 (omega arith) (omega arith) tt, tt))))))),
    )

case_closed_q : MarksAre line_q (closed 5).table 0 0 (Some 4 ∷ Some 4 ∷ Some 3 ∷ Some 3 ∷ Some 2 ∷ Some 2 ∷ []) × MarksAre line_q (closed 5).table 1 0 (Some 1 ∷ Some 1 ∷ Some 1 ∷ Some 1 ∷ Some 1 ∷ Some 1 ∷ [])
unfolding holds_yes holds_no holds_dec step_dec choice_dec find pours_dec not_dec stable
case_closed_q =
    let m : (p c n : ℕ) → T (holds_yes (holds_dec line_q (closed 5).table n p c)) → T (holds_no (holds_dec line_q (closed 5).table (suc n) p c)) → IsMark line_q (closed 5).table p c (Some (suc n)) =
    marked line_q (closed 5).table in (
      (m 0 0 3 tt tt, (m 0 1 3 tt tt, (m 0 2 2 tt tt, (m 0 3 2 tt tt, (m 0 4 1 tt tt, (m 0 5 1 tt tt, tt)))))),
      (m 1 0 0 tt tt, (m 1 1 0 tt tt, (m 1 2 0 tt tt, (m 1 3 0 tt tt, (m 1 4 0 tt tt, (m 1 5 0 tt tt, tt)))))),
    )

-- ---- the largest mark
-- each of the marks is at most n
AtMost : ℕ → List (Option ℕ) → Type 0
AtMost n [] = Unit
AtMost n (None ∷ os) = AtMost n os
AtMost n (Some k ∷ os) = (k ≤ n) × AtMost n os

bounded : (g : Game) (t : Table) (p n c : ℕ) (os : List (Option ℕ)) → AtMost n os → MarksAre g t p c os
    → (d k : ℕ) → c ≤ d → d < c + length os → IsMark g t p d (Some k) → k ≤ n
unfolding AtMost
bounded g t p n c [] small marks d k le lt mark = absurd (omega arith)
bounded g t p n c (o ∷ os) small marks d k le lt mark = go (dec_lt c d) o small marks.0 (λ s less. bounded g t p n (suc c) os s marks.1 d k less (omega arith) mark)
  where
    here : (o : Option ℕ) → IsMark g t p c o → c ≡ d → o ≡ Some k
    here o m e = unique.mark g t p d o (Some k) (subst (λ (x : ℕ). IsMark g t p x o) e m) mark

    go : Dec (c < d) → (o : Option ℕ) → AtMost n (o ∷ os) → IsMark g t p c o → (AtMost n os → c < d → k ≤ n) → k ≤ n
    go (yes less) None s m ih = ih s less
    go (yes less) (Some x) s m ih = ih s.1 less
    go (no not) None s m ih = absurd (none_some (here None m (omega arith)))
    go (no not) (Some x) s m ih = let e = some_inj (here (Some x) m (omega arith)) in omega (arith, s.0)

rounds_p : IsLargestMark line_p (closed 6) 1
unfolding AtMost
rounds_p = record {
  most = λ k w.
      below_two (λ p. IsMark line_p (closed 6).table p w.1 (Some k) → k ≤ 1)
      (bounded line_p (closed 6).table 0 1 0 (None ∷ None ∷ Some 1 ∷ Some 1 ∷ Some 1 ∷ Some 1 ∷ Some 1 ∷ []) (omega arith, (omega arith, (omega arith, (omega arith, (omega arith, tt))))) case_closed_p.0 w.1 k (omega arith) (omega (arith, w.3)))
      (bounded line_p (closed 6).table 1 1 0 (Some 1 ∷ Some 1 ∷ Some 1 ∷ Some 1 ∷ Some 1 ∷ None ∷ None ∷ []) (omega arith, (omega arith, (omega arith, (omega arith, (omega arith, tt))))) case_closed_p.1 w.1 k (omega arith) (omega (arith, w.3)))
      w.0 w.2 w.4;
  attained = (1, 0, omega arith, omega arith, case_closed_p.1.0);
}

rounds_q : IsLargestMark line_q (closed 5) 4
unfolding AtMost
rounds_q = record {
  most = λ k w.
      below_two (λ p. IsMark line_q (closed 5).table p w.1 (Some k) → k ≤ 4)
      (bounded line_q (closed 5).table 0 4 0 (Some 4 ∷ Some 4 ∷ Some 3 ∷ Some 3 ∷ Some 2 ∷ Some 2 ∷ []) (omega arith, (omega arith, (omega arith, (omega arith, (omega arith, (omega arith, tt)))))) case_closed_q.0 w.1 k (omega arith) (omega (arith, w.3)))
      (bounded line_q (closed 5).table 1 4 0 (Some 1 ∷ Some 1 ∷ Some 1 ∷ Some 1 ∷ Some 1 ∷ Some 1 ∷ []) (omega arith, (omega arith, (omega arith, (omega arith, (omega arith, (omega arith, tt)))))) case_closed_q.1 w.1 k (omega arith) (omega (arith, w.3)))
      w.0 w.2 w.4;
  attained = (0, 0, omega arith, omega arith, case_closed_q.0.0);
}

pub worked_cases : WorkedCases
worked_cases = record {
  formed = (formed_p, formed_q);
  drops = refl;
  p_lip6 = case_p6;
  p_lip5 = case_p5;
  p_lip4 = case_p4;
  p_unlimited = case_free;
  p_drawn = case_drawn;
  p_closed = case_closed_p;
  p_closed_rounds = rounds_p;
  q_lip10 = case_q10;
  q_closed = case_closed_q;
  q_closed_rounds = rounds_q;
}
