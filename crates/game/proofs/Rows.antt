-- Rows: each from the one before, repeated ones, and how soon one repeats.
use Rattle.std.proofs.Common.{◌≡◌, ℕ, zero, suc, ◌<◌, ◌≤◌, min, max, ◌⊎◌, List, [], ◌∷◌, ℤ, Some, None, Option, sym, refl, ap, ◌∙◌, subst, inl, inr, arith}
use native.Mathlib.Decide.{dec_lt, dec_le}
use Rattle.std.specs.List.{slice_get}
use Rattle.game.specs.Game.{Owner, Ours, Theirs, Edge, Place, Game, WellFormed, InLimits}
use Rattle.game.specs.Vessel.{Table, Hopper, Keeps}
use Rattle.game.specs.Fill.{Choice, Step, Holds, Good, IsMark, IsLeast, AtMostOne, Row, IsRow, LeastGood}
use Rattle.game.specs.Forced.{Forces}
use Rattle.game.specs.Rows.{Reaches, Parts, Need, Graded}
use Rattle.game.proofs.RowMaking.{lesser, greater, best, need_if, serves, best_at, next_row, row_of}
use Rattle.game.proofs.Theorems.{NeedMakesRows, RepeatedRowIsLeastGood, SomeRowRepeats, Unique}
use Rattle.game.proofs.Base.{none_some, some_inj, stable, SomeMove, EachMove, each_cons, Through, choice_map, good_by, holds_pred}
use Rattle.game.proofs.Force.{sound_at}
use Rattle.game.proofs.Lip.{simulate, step_through, least_at_most, least_is}
use Rattle.game.proofs.Stages.{last_stage}
use Rattle.game.proofs.Levels.{good_level}

-- ---- numbers with never
abbrev AtMost : Option ℕ → ℕ → Type 0
AtMost o c = (n : ℕ) × (o ≡ Some n) × (n ≤ c)

lesser_out : (x y : Option ℕ) (c : ℕ) → AtMost (lesser x y) c → AtMost x c ⊎ AtMost y c
lesser_out None y c a = inr a
lesser_out (Some x) None c a = inl a
lesser_out (Some x) (Some y) c a = go (dec_le x c)
  where
    same : min x y ≡ a.0
    same = some_inj a.1

    go : Dec (x ≤ c) → AtMost (Some x) c ⊎ AtMost (Some y) c
    go (yes le) = inl (x, refl, le)
    go (no not) = inr (y, refl, omega (arith, same, a.2))

lesser_left : (x y : Option ℕ) (c : ℕ) → AtMost x c → AtMost (lesser x y) c
lesser_left None y c a = absurd (none_some a.1)
lesser_left (Some x) None c a = a
lesser_left (Some x) (Some y) c a = (min x y, refl, omega (arith, some_inj a.1, a.2))

lesser_right : (x y : Option ℕ) (c : ℕ) → AtMost y c → AtMost (lesser x y) c
lesser_right None y c a = a
lesser_right (Some x) None c a = absurd (none_some a.1)
lesser_right (Some x) (Some y) c a = (min x y, refl, omega (arith, some_inj a.1, a.2))

greater_out : (x y : Option ℕ) (c : ℕ) → AtMost (greater x y) c → AtMost x c × AtMost y c
greater_out None y c a = absurd (none_some a.1)
greater_out (Some x) None c a = absurd (none_some a.1)
greater_out (Some x) (Some y) c a =
    let same : max x y ≡ a.0 = some_inj a.1 in
    ((x, refl, omega (arith, a.2)), (y, refl, omega (arith, a.2)))

greater_in : (x y : Option ℕ) (c : ℕ) → AtMost x c → AtMost y c → AtMost (greater x y) c
greater_in None y c a b = absurd (none_some a.1)
greater_in (Some x) None c a b = absurd (none_some b.1)
greater_in (Some x) (Some y) c a b = (max x y, refl, omega (arith, some_inj a.1, a.2, some_inj b.1, b.2))

best_out : (o : Owner) (f : Edge → Option ℕ) (ms : List Edge) (c : ℕ) → AtMost (best o f ms) c → Choice o ms (λ e. AtMost (f e) c)
best_out Ours f [] c a = absurd (none_some a.1)
best_out Ours f (x ∷ xs) c a = go (lesser_out (f x) (best Ours f xs) c a) (best_out Ours f xs c)
  where
    go : AtMost (f x) c ⊎ AtMost (best Ours f xs) c → (AtMost (best Ours f xs) c → SomeMove xs (λ e. AtMost (f e) c)) → SomeMove (x ∷ xs) (λ e. AtMost (f e) c)
    go (inl h) ih = (0, x, refl, h)
    go (inr h) ih = let w = ih h in (suc w.0, w.1, w.2, w.3)
best_out Theirs f [] c a = λ m e h. absurd (none_some h)
best_out Theirs f (x ∷ xs) c a =
    let w = greater_out (f x) (best Theirs f xs) c a in
    each_cons (λ e. AtMost (f e) c) x xs w.0 (best_out Theirs f xs c w.1)

best_some : (f : Edge → Option ℕ) (ms : List Edge) (c m : ℕ) (e : Edge) → slice_get ms m ≡ Some e → AtMost (f e) c → AtMost (best Ours f ms) c
best_some f [] c m e h a = absurd (none_some h)
best_some f (x ∷ xs) c zero e h a = lesser_left (f x) (best Ours f xs) c (subst (λ (z : Edge). AtMost (f z) c) (sym (some_inj h)) a)
best_some f (x ∷ xs) c (suc m) e h a = lesser_right (f x) (best Ours f xs) c (best_some f xs c m e h a)

best_each : (f : Edge → Option ℕ) (ms : List Edge) (c : ℕ) → EachMove ms (λ e. AtMost (f e) c) → AtMost (best Theirs f ms) c
best_each f [] c all = (0, refl, omega arith)
best_each f (x ∷ xs) c all = greater_in (f x) (best Theirs f xs) c (all 0 x refl) (best_each f xs c (λ m e h. all (suc m) e h))

best_in : (o : Owner) (f : Edge → Option ℕ) (ms : List Edge) (c : ℕ) → Choice o ms (λ e. AtMost (f e) c) → AtMost (best o f ms) c
best_in Ours f ms c w = best_some f ms c w.0 w.1 w.2 w.3
best_in Theirs f ms c w = best_each f ms c w

best_top : (top : ℕ) (o : Owner) (f : Edge → Option ℕ) → ((e : Edge) (n : ℕ) → f e ≡ Some n → n ≤ top) → (ms : List Edge) (n : ℕ) → best o f ms ≡ Some n → n ≤ top
best_top top Ours f small [] n h = absurd (none_some h)
best_top top Ours f small (x ∷ xs) n h = go (f x) (best Ours f xs) (small x) (best_top top Ours f small xs) h
  where
    go : (a b : Option ℕ) → ((n : ℕ) → a ≡ Some n → n ≤ top) → ((n : ℕ) → b ≡ Some n → n ≤ top) → lesser a b ≡ Some n → n ≤ top
    go None b ka kb k = kb n k
    go (Some a) None ka kb k = ka n k
    go (Some a) (Some b) ka kb k = omega (arith, ka a refl, some_inj k)
best_top top Theirs f small [] n h = omega (arith, some_inj h)
best_top top Theirs f small (x ∷ xs) n h = go (f x) (best Theirs f xs) (small x) (best_top top Theirs f small xs) h
  where
    go : (a b : Option ℕ) → ((n : ℕ) → a ≡ Some n → n ≤ top) → ((n : ℕ) → b ≡ Some n → n ≤ top) → greater a b ≡ Some n → n ≤ top
    go None b ka kb k = absurd (none_some k)
    go (Some a) None ka kb k = absurd (none_some k)
    go (Some a) (Some b) ka kb k = omega (arith, ka a refl, kb b refl, some_inj k)

is_least : (top : ℕ) (P : ℕ → Type 0) (o : Option ℕ) → ((n : ℕ) → o ≡ Some n → n ≤ top) → ((c : ℕ) → P c → AtMost o c) → ((c : ℕ) → c ≤ top → AtMost o c → P c) → IsLeast P o
is_least top P None small out back = λ c pc. none_some (out c pc).1
is_least top P (Some n) small out back =
    (back n (small n refl) (n, refl, omega arith), λ d lt pd. let a = out d pd in omega (arith, some_inj a.1, a.2))

-- ---- graded tables
module _ (g : Game) (wf : WellFormed g) (v : Hopper) (keeps : Keeps v) (need : Need) (graded : Graded v need) where
  need_least : (wanted c : ℕ) (a : ℤ) (o : Option ℕ) → Parts v.top (Reaches v.table wanted a) o → Reaches v.table wanted a c → AtMost o c
  need_least wanted c a None is r = absurd (is c r)
  need_least wanted c a (Some n) is r = (n, refl, stable (dec_le n c) (λ not. is.2 c (omega arith) r))

  need_does : (wanted c : ℕ) (a : ℤ) (o : Option ℕ) → Parts v.top (Reaches v.table wanted a) o → AtMost o c → c ≤ v.top → Reaches v.table wanted a c
  need_does wanted c a None is m le = absurd (none_some m.1)
  need_does wanted c a (Some n) is m le = is.1 c (omega (arith, some_inj m.1, m.2)) le

  higher : (c c' : ℕ) (a : ℤ) (d : ℕ) → (c ≤ c') × (c' ≤ v.top) → InLimits a → v.table c a ≡ Some d → (d' : ℕ) × (v.table c' a ≡ Some d') × ((d ≤ d') × (d' ≤ v.top))
  higher c c' a d r lim h =
      let m = need_least d c a (need d a) (graded d a) (d, h, omega arith) in
      let w = need_does d c' a (need d a) (graded d a) (m.0, m.1, omega (arith, m.2, r.0)) r.1 in
      (w.0, w.1, (w.2, keeps.within c' a w.0 w.1))

  pub holds_up : (i p c c' : ℕ) → (c ≤ c') × (c' ≤ v.top) → Holds g v.table i p c → Holds g v.table i p c'
  holds_up = simulate g wf v.table v.table (λ c c'. (c ≤ c') × (c' ≤ v.top)) higher

  serve_out : (j : ℕ) (row : Row) → IsRow g v j row → (c : ℕ) (e : Edge) → e.target < g.places → Through v.table (Holds g v.table j) c e → AtMost (serves need row e) c
  serve_out j row is c e lt th =
      let l = least_at_most (λ c. (c ≤ v.top) × Holds g v.table j e.target c) (row e.target) (is e.target lt) th.0 (keeps.within c e.amount th.0 th.1, th.2) in
      subst (λ (o : Option ℕ). AtMost (need_if need e.amount o) c) (sym l.1)
      (need_least l.0 c e.amount (need l.0 e.amount) (graded l.0 e.amount) (th.0, th.1, l.2))

  serve_in : (j : ℕ) (row : Row) → IsRow g v j row → (c : ℕ) (e : Edge) → e.target < g.places → c ≤ v.top → AtMost (serves need row e) c → Through v.table (Holds g v.table j) c e
  serve_in j row is c e lt le m = go (row e.target) refl m
    where
      go : (o : Option ℕ) → row e.target ≡ o → AtMost (need_if need e.amount o) c → Through v.table (Holds g v.table j) c e
      go None h m = absurd (none_some m.1)
      go (Some y) h m =
          let r = need_does y c e.amount (need y e.amount) (graded y e.amount) m le in
          let l = least_is (λ c. (c ≤ v.top) × Holds g v.table j e.target c) (row e.target) y h (is e.target lt) in
          (r.0, r.1, holds_up j e.target y r.0 (r.2, keeps.within c e.amount r.0 r.1) l.0.1)

  serve_top : (row : Row) (e : Edge) (n : ℕ) → serves need row e ≡ Some n → n ≤ v.top
  serve_top row e n h = go (row e.target) h
    where
      at : (o : Option ℕ) (wanted : ℕ) → Parts v.top (Reaches v.table wanted e.amount) o → o ≡ Some n → n ≤ v.top
      at None wanted is k = absurd (none_some k)
      at (Some m) wanted is k = subst (λ (z : ℕ). z ≤ v.top) (some_inj k) is.0

      go : (o : Option ℕ) → need_if need e.amount o ≡ Some n → n ≤ v.top
      go None k = absurd (none_some k)
      go (Some wanted) k = at (need wanted e.amount) wanted (graded wanted e.amount) k

  next_row_lem : (j : ℕ) (row : Row) → IsRow g v j row → IsRow g v (suc j) (next_row g need row)
  next_row_lem j row is p lt =
      let w = wf.here p lt in
      let q : Place = w.0 in
      subst (λ (o : Option Place). IsLeast (λ c. (c ≤ v.top) × Holds g v.table (suc j) p c) (best_at need row o)) (sym w.1)
      (is_least v.top (λ c. (c ≤ v.top) × Holds g v.table (suc j) p c) (best q.owner (serves need row) q.moves)
      (λ n h. best_top v.top q.owner (serves need row) (serve_top row) q.moves n h)
      (λ c pc.
      best_in q.owner (serves need row) q.moves c
      (choice_map q.owner q.moves (Through v.table (Holds g v.table j) c) (λ e. AtMost (serves need row e) c)
      (λ m e mv th. serve_out j row is c e (w.2.sound.targets m e mv) th)
      (subst (λ (r : Place). Choice r.owner r.moves (Through v.table (Holds g v.table j) c)) (some_inj (sym pc.1.1 ∙ w.1)) pc.1.2)))
      (λ c le m. (
        le,
        (
          q,
          w.1,
          choice_map q.owner q.moves (λ e. AtMost (serves need row e) c) (Through v.table (Holds g v.table j) c)
              (λ k e mv a. serve_in j row is c e (w.2.sound.targets k e mv) le a)
              (best_out q.owner (serves need row) q.moves c m),
        ),
      )))

  all_rows : (j : ℕ) → IsRow g v j (row_of g need j)
  all_rows zero p lt = ((omega arith, tt), λ d less pd. omega arith)
  all_rows (suc j) p lt = next_row_lem j (row_of g need j) (all_rows j) p lt

  -- ---- a row that repeats
  module _ (j : ℕ) (row : Row) (here : IsRow g v j row) (there : IsRow g v (suc j) row) where
    Served : ℕ → ℕ → Type 0
    Served p c = (p < g.places) × AtMost (row p) c × (c ≤ v.top)

    served_step : (p c : ℕ) → Served p c → Step g v.table Served p c
    unfolding Served
    served_step p c s =
        let x : ℕ = s.1.0 in
        let l = least_is (λ c. (c ≤ v.top) × Holds g v.table (suc j) p c) (row p) x s.1.1 (there p s.0) in
        step_through g wf v.table v.table (Holds g v.table j) Served p c c
        (λ q at m e mv th.
        let d≤ : th.0 ≤ v.top = keeps.within c e.amount th.0 th.1 in
        let lt : e.target < g.places = (sound_at g wf p q at).sound.targets m e mv in
        (th.0, th.1, (lt, least_at_most (λ c. (c ≤ v.top) × Holds g v.table j e.target c) (row e.target) (here e.target lt) th.0 (d≤, th.2), d≤)))
        (holds_up (suc j) p x c (s.1.2, s.2) l.0.1)

    row_good : (p c : ℕ) → p < g.places → AtMost (row p) c → c ≤ v.top → Good g v.table p c
    unfolding Served
    row_good p c lt m le i = good_by g v.table Served served_step i p c (lt, m, le)

    row_top : (p : ℕ) → p < g.places → (n : ℕ) → row p ≡ Some n → n ≤ v.top
    row_top p lt n h = (least_is (λ c. (c ≤ v.top) × Holds g v.table j p c) (row p) n h (here p lt)).0.0

    repeated : (p : ℕ) → p < g.places → LeastGood g v.table p (row p)
    repeated p lt =
        is_least v.top (Good g v.table p) (row p) (row_top p lt)
        (λ c good. least_at_most (λ c. (c ≤ v.top) × Holds g v.table j p c) (row p) (here p lt) c (good_level g wf v keeps.above p c good, good j))
        (λ c le m. row_good p c lt m le)

pub need_makes_rows : NeedMakesRows
need_makes_rows g wf v keeps need graded j = all_rows g wf v keeps need graded j

pub repeated_row_is_least_good : RepeatedRowIsLeastGood
repeated_row_is_least_good g wf v keeps need graded j row here there p lt = repeated g wf v keeps need graded j row here there p lt

-- ---- one of each
least_unique : (P : ℕ → Type 0) → AtMostOne (IsLeast P)
least_unique P None None l l' = refl
least_unique P None (Some c') l l' = absurd (l c' l'.0)
least_unique P (Some c) None l l' = absurd (l' c l.0)
least_unique P (Some c) (Some c') l l' = go (dec_lt c c') (dec_lt c' c)
  where
    go : Dec (c < c') → Dec (c' < c) → Some c ≡ Some c'
    go (yes lt) d = absurd (l'.1 c lt l.0)
    go (no n) (yes lt) = absurd (l.1 c' lt l'.0)
    go (no n) (no m) = ap Some (omega arith)

least_map : (P Q : ℕ → Type 0) → ((c : ℕ) → P c → Q c) → ((c : ℕ) → Q c → P c) → (o : Option ℕ) → IsLeast P o → IsLeast Q o
least_map P Q f b None l = λ c q. l c (b c q)
least_map P Q f b (Some c) l = (f c l.0, λ d lt q. l.1 d lt (b d q))

pub some_row_repeats : SomeRowRepeats
some_row_repeats g v rows is =
    let w = last_stage g v in
    let P : ℕ → ℕ → ℕ → Type 0 = λ j p c. (c ≤ v.top) × Holds g v.table j p c in (
      w.0,
      w.1,
      λ p lt.
          least_unique (P w.0 p) (rows w.0 p) (rows (suc w.0) p) (is w.0 p lt)
          (least_map (P (suc w.0) p) (P w.0 p) (λ c h. (h.0, holds_pred g v.table w.0 p c h.1)) (λ c h. (h.0, w.2 p lt c (omega (arith, h.0)) h.1)) (rows (suc w.0) p) (is (suc w.0) p lt)),
    )

mark_least : (g : Game) (t : Table) (p c : ℕ) (o : Option ℕ) → IsMark g t p c o → IsLeast (λ i. ¬ Holds g t i p c) o
mark_least g t p c None good = λ i n. n (good i)
mark_least g t p c (Some n) m = (m.0, λ i lt k. k (m.1 i lt))

pub unique : Unique
unique = record {
  mark = λ g t p c o o' m m'. least_unique (λ i. ¬ Holds g t i p c) o o' (mark_least g t p c o m) (mark_least g t p c o' m');
  forced = λ g target p. least_unique (λ i. Forces g target i p);
  least = λ g t p. least_unique (Good g t p);
  row = λ g v j r s m m' p lt. least_unique (λ c. (c ≤ v.top) × Holds g v.table j p c) (r p) (s p) (m p lt) (m' p lt);
}
