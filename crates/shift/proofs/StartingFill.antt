-- What a starting fill decides.
use Rattle.std.proofs.Common.{◌≡◌, ℕ, ◌+◌, ◌*◌, ◌<◌, ◌≤◌, Bool, true, false, ltb, leb, List, length, is_ok, Some, None, Ok, Option, ap, ◌∙◌, subst, ⊎_elim, arith, refl}
use Rattle.std.proofs.lemmas.Bool.{leb-false, lt-leb, le-ltb, not-false, not_from_true, or_from, cases_Bool}
use Rattle.game.specs.declared.Owner.TheVariants.{Ours, Theirs}
use Rattle.game.specs.Game.{Game, WellFormed}
use Rattle.game.specs.Vessel.{Hopper, Keeps}
use Rattle.game.specs.Fill.{Good, IsMark, LeastGood}
use Rattle.game.specs.Forced.{spill}
use Rattle.game.specs.Play.{ExactlyForced, OtherSideForces}
use Rattle.game.specs.Rows.{Need, Graded}
use Rattle.game.proofs.Base.{some_inj}
use Rattle.game.proofs.Levels.{good_level}
use Rattle.game.proofs.Lip.{lip_at_drop_sum_is_no_lip}
use Rattle.game.proofs.Rows.{unique, repeated_row_is_least_good}
use Rattle.hopper.specs.Boards.{owner_at, is_owner}
use Rattle.hopper.specs.Refusing.{passes}
use Rattle.hopper.proofs.Boards.{owner_some}
use Rattle.hopper.proofs.Refusing.{none_fails, all_pass, untrue, untrue_passes, passes_is}
use Rattle.solver.specs.Entries.{entries}
use Rattle.solver.specs.Least.{LeastAnswers, HoldsLeastGood}
use Rattle.solver.specs.Marking.{mark_checks, MarkAnswers, GoodWhereNever}
use Rattle.solver.proofs.Marks.{fills_tell, never_good, bad_forced}
use Rattle.solver.proofs.RowByRow.{answer_soon}
use Rattle.shift.specs.declared.Shift.{Shift}
use Rattle.shift.specs.Good.{is_good, has_good_move}
use Rattle.shift.specs.Checks.{open_checks, order_checks}
use Rattle.shift.specs.Answers.{opened_at, OpenAnswers}
use Rattle.shift.specs.History.{Event, History}
use Rattle.shift.specs.StartingFill.{Served, StartingFills, StartingFillsDecide}
use Rattle.shift.proofs.Answered.{each_answered}
use Rattle.shift.proofs.Served.{called_good, good_called, not_lacking, served}

module _ (g : Game) (wf : WellFormed g) (v : Hopper) (keeps : Keeps v) where
  -- ---- on the marks of an accepted `mark`
  module _ (old marks : List ℕ) (rounds : ℕ) (marked : MarkAnswers g v old marks (Ok rounds)) where
    exact : GoodWhereNever g v marks
    exact = never_good g wf v keeps old marks rounds marked.1

    -- there was room for the fills and the spill
    room : ltb (length marks) (spill g v.top + 1) ≡ false
    room =
        let passed = none_fails (mark_checks g v.top (length old)) (ap is_ok marked.0) in
        ap (λ (n : ℕ). ltb n (spill g v.top + 1)) marked.1.kept.same_length ∙ untrue _ _ passed.1.0

    good_start : (number p c : ℕ) (s : Shift) → OpenAnswers g v marks number p c (Ok s)
        → (es : List Event) (s' : Shift) → History g v marks s es s' → Served g v.table p c es s'
    good_start number p c s opened es s' h =
        let passed = none_fails (open_checks g v marks p c) (ap is_ok opened.0) in
        let inside : p < g.places = leb-false g.places p (untrue _ _ passed.1.1.0) in
        let good : Good g v.table p c = called_good g wf v keeps marks exact p c inside (not-false (is_good v.top marks p c) (untrue _ _ passed.1.1.1.1.0)) in
        served g wf v keeps marks exact es (opened_at number p c) s'
        (record { good = good; pending = tt })
        (subst (λ (x : Shift). History g v marks x es s') opened.1 h)

    good_opens : (number p c : ℕ) → p < g.places → Good g v.table p c → OpenAnswers g v marks number p c (Ok (opened_at number p c))
    good_opens number p c lt good =
        let passed = none_fails (mark_checks g v.top (length old)) (ap is_ok marked.0) in
        let low : c ≤ v.top = good_level g wf v keeps.above p c good in (
          passes_is (open_checks g v marks p c)
              (all_pass (open_checks g v marks p c) (
                passed.0,
                (
                  untrue_passes _ _ room,
                  (
                    untrue_passes _ _ (lt-leb g.places p lt),
                    (
                      untrue_passes _ _ (le-ltb v.top c low),
                      (untrue_passes _ _ (not_from_true (is_good v.top marks p c) (good_called g wf v keeps marks exact p c lt good)), tt),
                    ),
                  ),
                ),
              )),
          refl,
        )

    -- and at a place of ours its order is given out
    pub good_is_ordered : (number p c : ℕ) → owner_at (g.at p) ≡ Some Ours → Good g v.table p c
        → passes (order_checks g v marks (opened_at number p c)) ≡ true
    good_is_ordered number p c ours good =
        let lt : p < g.places = owner_some g wf p Ours ours in
        let low : c ≤ v.top = good_level g wf v keeps.above p c good in
        let own : is_owner Theirs (owner_at (g.at p)) ≡ false = ap (is_owner Theirs) ours in
        let some : has_good_move v marks c (g.at p) ≡ true =
        ⊎_elim (λ is. is) (λ none. absurd (not_lacking g wf v keeps marks exact p c good own none)) (cases_Bool (has_good_move v marks c (g.at p))) in
        all_pass (order_checks g v marks (opened_at number p c)) (
          refl,
          (
            untrue_passes _ _ (or_from (leb g.places p) (ltb v.top c) (lt-leb g.places p lt) (le-ltb v.top c low)),
            (
              untrue_passes _ _ room,
              (untrue_passes _ _ own, (untrue_passes _ _ (not_from_true (has_good_move v marks c (g.at p)) some), tt)),
            ),
          ),
        )

  -- ---- from a bad fill
  abbrev ForcedFrom : ℕ → ℕ → Type 0
  ForcedFrom p c =
      (n : ℕ) × IsMark g v.table p c (Some n) × OtherSideForces g v.table n p c
      × (c ≤ v.top → (old marks : List ℕ) (rounds : ℕ) → MarkAnswers g v old marks (Ok rounds) → n ≤ rounds)

  bad_start : (p c : ℕ) → p < g.places → ¬ Good g v.table p c → ForcedFrom p c
  bad_start p c lt bad = let w = (fills_tell g wf v keeps).each p c lt in by w.0 w.1 w.2
    where
      by : (o : Option ℕ) → IsMark g v.table p c o → ExactlyForced g v.table p c o → ForcedFrom p c
      by None mark forced = absurd (bad mark)
      by (Some n) mark forced = (
        n,
        mark,
        forced.0,
        λ le old marks rounds marked.
            let w = bad_forced g wf v keeps old marks rounds marked.1 p c lt bad in
            let same : w.0 ≡ n = some_inj (unique.mark g v.table p c (Some w.0) (Some n) w.1 mark) in
            let most = w.3 le in omega arith,
      )

  -- ---- on the rows of an accepted `least`
  least_good : (need : Need) → Graded v need → (row row' next next' : List ℕ) (budget j : ℕ)
      → LeastAnswers g v row row' next next' budget (Ok j) → HoldsLeastGood g v row'
  least_good need graded row row' next next' budget j answered p lt =
      let first = answered.2 in
      let r = first.rounds.0 in
      let same : r.0 p ≡ entries row' p = unique.row g v j r.0 (entries row') r.1 first.row_held p lt in
      subst (LeastGood g v.table p) same (repeated_row_is_least_good g wf v keeps need graded j r.0 r.1 r.2 p lt)

  starting_fills : StartingFills g v
  starting_fills = record {
    good_start_is_opened = good_opens;
    good_start_is_served = good_start;
    each_call_is_answered = each_answered g v;
    bad_start_is_forced = bad_start;
    lip_at_drop_sum_is_no_lip = lip_at_drop_sum_is_no_lip g wf;
    least_good_is_answered = least_good;
    least_never_gives_up = answer_soon g v;
  }

pub starting_fills_decide : StartingFillsDecide
starting_fills_decide g wf v keeps = starting_fills g wf v keeps
