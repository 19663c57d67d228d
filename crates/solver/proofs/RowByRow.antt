-- Rows one after another, until one repeats.
use Rattle.std.proofs.Common.{◌≡◌, ℕ, suc, ◌+◌, ◌*◌, ◌<◌, ◌≤◌, Bool, true, false, ◌⊎◌, ◌↔◌, List, [], ◌∷◌, length, slice_index, take, Some, None, Ok, Err, Option, Result, sym, refl, ap, ◌∙◌, subst, inl, inr, arith}
use native.Mathlib.Decide.{dec_lt}
use Rattle.game.specs.Game.{Game, WellFormed, drop_sum}
use Rattle.game.specs.Vessel.{Table, Hopper, Keeps, lip, unlimited}
use Rattle.game.specs.Fill.{Holds, Good, IsLeast, Row, IsRow, LeastGood, Repeats}
use Rattle.game.specs.Rows.{Parts, Need, Graded}
use Rattle.game.specs.Published.{LowerWeakUpperBound, LowerBound}
use Rattle.game.proofs.Base.{holds_dec}
use Rattle.game.proofs.Bounded.{least_below}
use Rattle.game.proofs.Levels.{good_level}
use Rattle.game.proofs.Lip.{lip_at_drop_sum_is_no_lip}
use Rattle.game.proofs.RowMaking.{row_of}
use Rattle.game.proofs.Rows.{holds_up, need_makes_rows, repeated_row_is_least_good, some_row_repeats, unique}
use Rattle.game.proofs.Weights.{lip_is_lower_weak_upper_bound, unlimited_is_lower_bound}
use Rattle.hopper.specs.declared.Fault.{Fault}
use Rattle.hopper.specs.declared.Layer.TheVariants.{Rest}
use Rattle.hopper.specs.declared.Refusal.TheVariants.{RowTooShort, RowsKeepChanging}
use Rattle.hopper.specs.Faults.{check, fault, refusal_number}
use Rattle.hopper.specs.Refusing.{verdict}
use Rattle.hopper.proofs.Boards.{step_inside}
use Rattle.solver.specs.Entries.{as_entry, entries, KeptFrom}
use Rattle.solver.specs.Least.{too_short, FirstRepeatedRow, StillChanging, LeastAnswers, HoldsLeastGood, GoodFrom, RowTells, NeverGivesUp, RowsUnique}
use Rattle.solver.specs.Inner.Rows.{IsNext, NextRow}
use Rattle.solver.proofs.Entries.{entry_inj, holds_from, holds_above, same_front, front_same}
use Rattle.solver.proofs.Marks.{lip_below_top}
use Rattle.solver.proofs.Serving.{same_next}

-- the buffer holds row j
abbrev pub HoldsRow : Game → Need → ℕ → List ℕ → Type 0
HoldsRow g need j row = (p : ℕ) → p < g.places → entries row p ≡ row_of g need j p

-- the buffers hold row j and the one after it, no row before them repeats, and the rest of both is as it was
pub record Running (g : Game) (v : Hopper) (need : Need) (row next row' next' : List ℕ) (j : ℕ) : Type 0 where
  pub one : HoldsRow g need j row'
  pub two : HoldsRow g need (suc j) next'
  pub before : (i : ℕ) → i < j → ¬ Repeats g v i
  pub kept_one : KeptFrom g.places row row'
  pub kept_two : KeptFrom g.places next next'
  pub room_one : g.places ≤ length row'
  pub room_two : g.places ≤ length next'

-- kept over two changes
kept_on : (n : ℕ) (a b c : List ℕ) → KeptFrom n a b → KeptFrom n b c → KeptFrom n a c
kept_on n a b c first then = record { same_length = then.same_length ∙ first.same_length; same_rest = λ k le. then.same_rest k le ∙ first.same_rest k le }

module _ (g : Game) (wf : WellFormed g) (v : Hopper) (keeps : Keeps v) (need : Need) (graded : Graded v need) where
  is_row : (j : ℕ) (row : List ℕ) → HoldsRow g need j row → IsRow g v j (entries row)
  is_row j row r p lt = subst (IsLeast (λ c. (c ≤ v.top) × Holds g v.table j p c)) (sym (r p lt)) (need_makes_rows g wf v keeps need graded j p lt)

  next_is : (j : ℕ) (row old next : List ℕ) → HoldsRow g need j row → NextRow g need g.places row old next → HoldsRow g need (suc j) next
  next_is j row old next r s p lt = s.front p lt ∙ same_next g need (entries row) (row_of g need j) p (λ m e is. r e.target (step_inside g wf p m e is))

  -- ---- a row that repeats
  module _ (j : ℕ) (row : List ℕ) (here : HoldsRow g need j row) (there : HoldsRow g need (suc j) row) where
    least_good : HoldsLeastGood g v row
    least_good = repeated_row_is_least_good g wf v keeps need graded j (entries row) (is_row j row here) (is_row (suc j) row there)

    good_from : GoodFrom g v row
    good_from p lt = go (entries row p) (least_good p lt)
      where
        go : (o : Option ℕ) → LeastGood g v.table p o → Parts v.top (Good g v.table p) o
        go None l = l
        go (Some n) l = (good_level g wf v keeps.above p n l.0, (λ c le high i. holds_up g wf v keeps need graded i p n c (le, high) (l.0 i)), l.1)

    no_lip : (b : ℕ) → v.table ≡ (lip b).table → drop_sum g ≤ b → (p : ℕ) → p < g.places → LeastGood g unlimited p (entries row p)
    no_lip b is le p lt =
        (lip_at_drop_sum_is_no_lip g wf b le p lt (entries row p)).0 (subst (λ (u : Table). LeastGood g u p (entries row p)) is (least_good p lt))

    -- what the repeated row tells
    pub row_tells : RowTells g v row
    row_tells = record {
      good = least_good;
      parted = good_from;
      over_lip = λ b is p c lt le.
          let low : c ≤ v.top = lip_below_top v keeps b is c le in
          let fits = keeps.top_fits in
          let same : Good g v.table p c ↔ LowerWeakUpperBound g b p c =
          subst (λ (u : Table). Good g u p c ↔ LowerWeakUpperBound g b p c) (sym is) (lip_is_lower_weak_upper_bound g wf b p c lt le) in (
            λ enough. same.0 (holds_from v.top (omega arith) (Good g v.table p) (slice_index row p) (good_from p lt) c enough low),
            λ won. holds_above v.top (omega arith) (Good g v.table p) (slice_index row p) (good_from p lt) c low (same.1 won),
          );
      without_lip = no_lip;
      lower_bound = λ b is le p lt. go p lt (entries row p) (no_lip b is le p lt);
    }
      where
        go : (p : ℕ) → p < g.places → (o : Option ℕ) → LeastGood g unlimited p o → IsLeast (LowerBound g p) o
        go p lt None l = λ c won. l c ((unlimited_is_lower_bound g wf p c lt).1 won)
        go p lt (Some x) l =
            ((unlimited_is_lower_bound g wf p x lt).0 l.0, λ d less won. l.1 d less ((unlimited_is_lower_bound g wf p d lt).1 won))

  -- ---- what a round keeps
  module _ (row next : List ℕ) where
    pub started : (row' next' : List ℕ) → ((p : ℕ) → p < g.places → slice_index row' p ≡ 0) → KeptFrom g.places row row' → KeptFrom g.places next next'
        → NextRow g need g.places row' next next' → g.places ≤ length row' → g.places ≤ length next' → Running g v need row next row' next' 0
    started row' next' zero kept kept' s one two =
        let zeros : HoldsRow g need 0 row' = λ p lt. ap as_entry (zero p lt) in record {
          one = zeros;
          two = next_is 0 row' next next' zeros s;
          before = λ i lt. absurd (omega arith);
          kept_one = kept;
          kept_two = kept';
          room_one = one;
          room_two = two;
        }

    module _ (row' next' : List ℕ) (j : ℕ) (r : Running g v need row next row' next' j) where
      -- the entries of the next row are made of this one
      pub next_made : (p : ℕ) → p < g.places → IsNext g need row' p (slice_index next' p)
      next_made p lt = r.two p lt ∙ same_next g need (row_of g need j) (entries row') p (λ m e is. sym (r.one e.target (step_inside g wf p m e is)))

      module _ (no_same : ¬ (take g.places row' ≡ take g.places next')) where
        changes : ¬ Repeats g v j
        changes w =
            no_same (same_front g.places row' next' r.room_one r.room_two (λ p lt.
            entry_inj (slice_index row' p) (slice_index next' p)
            (unique.row g v j (entries row') w.0 (is_row j row' r.one) w.1 p lt
            ∙ unique.row g v (suc j) w.0 (entries next') w.2 (is_row (suc j) next' r.two) p lt)))

        until : (i : ℕ) → i ≤ j → ¬ Repeats g v i
        until i le = elim (dec_lt i j) [
          | yes lt ↦ r.before i lt
          | no n ↦ (let e : j ≡ i = omega arith in subst (λ (k : ℕ). ¬ Repeats g v k) e changes)
        ]

        -- with the next row taken over, and the one after it made
        pub gone_on : (row'' next'' : List ℕ) → ((p : ℕ) → p < g.places → slice_index row'' p ≡ slice_index next' p) → KeptFrom g.places row' row''
            → KeptFrom g.places next' next'' → NextRow g need g.places row'' next' next'' → Running g v need row next row'' next'' (suc j)
        gone_on row'' next'' taken kept kept' s =
            let same : HoldsRow g need (suc j) row'' = λ p lt. ap as_entry (taken p lt) ∙ r.two p lt in record {
              one = same;
              two = next_is (suc j) row'' next' next'' same s;
              before = λ i lt. until i (omega arith);
              kept_one = kept_on g.places row row' row'' r.kept_one kept;
              kept_two = kept_on g.places next next' next'' r.kept_two kept';
              room_one = omega (arith, r.room_one, kept.same_length);
              room_two = omega (arith, r.room_two, kept'.same_length);
            }

        pub still_changing : StillChanging g v row row' next next' j
        still_changing = record {
          changing = until;
          row_held = is_row j row' r.one;
          next_held = is_row (suc j) next' r.two;
          row_kept = r.kept_one;
          next_kept = r.kept_two;
        }

      module _ (same : take g.places row' ≡ take g.places next') where
        again : HoldsRow g need (suc j) row'
        again p lt = ap as_entry (front_same g.places row' next' same p lt) ∙ r.two p lt

        too : HoldsRow g need j next'
        too p lt = sym (ap as_entry (front_same g.places row' next' same p lt)) ∙ r.one p lt

        pub first_repeated : FirstRepeatedRow g v row row' next next' j
        first_repeated = record {
          rounds = ((entries row', is_row j row' r.one, is_row (suc j) row' again), r.before);
          row_held = is_row j row' r.one;
          next_held = is_row j next' too;
          row_kept = r.kept_one;
          next_kept = r.kept_two;
        }

        pub repeated_tells : RowTells g v row'
        repeated_tells = row_tells j row' r.one again

-- ---- the rows do repeat, over any hopper
-- the least level up to the top of which P holds
least_level : (top : ℕ) (P : ℕ → Type 0) → ((c : ℕ) → Dec (P c)) → (o : Option ℕ) × IsLeast (λ c. (c ≤ top) × P c) o
least_level top P dec = go (least_below P dec (suc top))
  where
    go : ((i : ℕ) → i < suc top → ¬ P i) ⊎ ((i : ℕ) × (i < suc top) × P i × ((j : ℕ) → j < i → ¬ P j)) → (o : Option ℕ) × IsLeast (λ c. (c ≤ top) × P c) o
    go (inl none) = (None, λ c w. none c (let z = w.0 in omega arith) w.1)
    go (inr w) = (Some w.0, (((let z = w.1 in omega arith), w.2), λ d lt u. w.3 d lt u.1))

module _ (g : Game) (v : Hopper) where
  row_at : ℕ → Row
  row_at j p = (least_level v.top (Holds g v.table j p) (holds_dec g v.table j p)).0

  row_there : (j : ℕ) → IsRow g v j (row_at j)
  unfolding row_at
  row_there j p lt = (least_level v.top (Holds g v.table j p) (holds_dec g v.table j p)).1

  some_repeats : (j : ℕ) × (j ≤ g.places * (v.top + 1)) × Repeats g v j
  some_repeats =
      let w = some_row_repeats g v row_at row_there in (
        w.0,
        w.1,
        (
          row_at w.0,
          row_there w.0,
          λ p lt. subst (IsLeast (λ c. (c ≤ v.top) × Holds g v.table (suc w.0) p c)) (sym (w.2 p lt)) (row_there (suc w.0) p lt),
        ),
      )

-- ---- what follows of the answer
module _ (g : Game) (v : Hopper) (row row' next next' : List ℕ) (budget : ℕ) where
  pub answer_soon : (r : Result ℕ Fault) → LeastAnswers g v row row' next next' budget r → NeverGivesUp g v budget r
  answer_soon (Ok j) a = tt
  answer_soon (Err e) a = λ enough gave_up. by (too_short g (length row) (length next)) a.refused a.changing enough gave_up
    where
      by : (short : Bool) → verdict (check short RowTooShort Rest g.places ∷ Some (fault RowsKeepChanging Rest budget) ∷ []) ≡ Err e
          → (short ≡ false → StillChanging g v row row' next next' budget)
          → g.places * (v.top + 1) ≤ budget → e.refusal ≡ RowsKeepChanging → ⊥
      by true is changing enough gave_up =
          let same : fault RowTooShort Rest g.places ≡ e = cc in
          let z : ◌≡◌ {A = ℕ} 19 20 = ap (λ (f : Fault). refusal_number f.refusal) same ∙ ap refusal_number gave_up in omega arith
      by false is changing enough gave_up =
          let w = some_repeats g v in (changing refl).changing w.0 (let most = w.1 in omega arith) w.2

pub rows_unique : (g : Game) (v : Hopper) → RowsUnique g v
rows_unique g v = record { row = unique.row g v; least = unique.least g v.table }
