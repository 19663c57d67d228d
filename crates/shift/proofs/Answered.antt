-- Each call on a shift is answered.
use Rattle.std.proofs.Common.{◌≡◌, ℕ, true, List, [], ◌∷◌, map, is_ok, Some, None, Ok, Err, Result, sym, refl, ap, ◌∙◌}
use Rattle.std.proofs.lemmas.Bool.{not-false}
use Rattle.game.specs.Game.{Game}
use Rattle.game.specs.Vessel.{Hopper}
use Rattle.hopper.specs.declared.Fault.{Fault}
use Rattle.hopper.specs.Boards.{step_at}
use Rattle.hopper.specs.Refusing.{verdict}
use Rattle.hopper.proofs.Refusing.{none_fails, untrue}
use Rattle.shift.specs.declared.Shift.{Shift}
use Rattle.shift.specs.Good.{pours_good, has_good_move, FirstGoodMove}
use Rattle.shift.specs.Checks.{order_checks, done_checks, withdrawn_checks, arrived_checks}
use Rattle.shift.specs.Answers.{with_order, moved, order_for}
use Rattle.shift.specs.History.{Call, AskOrder, ReportDone, ReportWithdrawn, ReportArrived, Event, Ordered, Done, Withdrawn, Arrived, call_of, Happens, History}
use Rattle.shift.proofs.Search.{first_there}

module _ (g : Game) (v : Hopper) (marks : List ℕ) where
  -- the call k on the shift s has an answer
  abbrev Answered : Shift → Call → Type 0
  Answered s k = (e : Event) × (s' : Shift) × (call_of e ≡ k) × Happens g v marks s e s'

  answered : (s : Shift) (k : Call) → Answered s k
  answered s AskOrder = by (verdict (order_checks g v marks s)) refl
    where
      by : (r : Result (Unit {0}) Fault) → verdict (order_checks g v marks s) ≡ r → Answered s AskOrder
      by (Ok u) is =
          let passed = none_fails (order_checks g v marks s) (ap is_ok is) in
          let at = g.at s.place in
          let some : has_good_move v marks s.level at ≡ true = not-false (has_good_move v marks s.level at) (untrue _ _ passed.1.1.1.1.0) in
          let w = first_there (pours_good v marks s.level) at some in
          let first : FirstGoodMove v marks s.level at w.0 = record { move = w.1; is_move = w.2; good = w.3; first = w.4 } in
          (Ordered (Ok (order_for s w.0)), with_order s (Some w.0), refl, (is, (first, refl, refl)))
      by (Err f) is = (Ordered (Err f), s, refl, (is, refl))
  answered s (ReportDone o) = by (verdict (done_checks g v s o)) refl
    where
      by : (r : Result (Unit {0}) Fault) → verdict (done_checks g v s o) ≡ r → Answered s (ReportDone o)
      by (Ok u) is = (Done o (Ok tt), moved v.table s (step_at (g.at s.place) o.mv), refl, (is, refl))
      by (Err f) is = (Done o (Err (record { fault = f; order = o })), s, refl, (is, refl, refl))
  answered s (ReportWithdrawn o) = by (verdict (withdrawn_checks s o)) refl
    where
      by : (r : Result (Unit {0}) Fault) → verdict (withdrawn_checks s o) ≡ r → Answered s (ReportWithdrawn o)
      by (Ok u) is = (Withdrawn o (Ok tt), with_order s None, refl, (is, refl))
      by (Err f) is = (Withdrawn o (Err (record { fault = f; order = o })), s, refl, (is, refl, refl))
  answered s (ReportArrived m) = by (verdict (arrived_checks g v s m)) refl
    where
      by : (r : Result (Unit {0}) Fault) → verdict (arrived_checks g v s m) ≡ r → Answered s (ReportArrived m)
      by (Ok u) is = (Arrived m (Ok tt), moved v.table s (step_at (g.at s.place) m), refl, (is, refl))
      by (Err f) is = (Arrived m (Err f), s, refl, (is, refl))

  -- and so has each list of calls
  pub each_answered : (s : Shift) (calls : List Call) → (es : List Event) × (s' : Shift) × (map call_of es ≡ calls) × History g v marks s es s'
  each_answered s [] = ([], s, refl, refl)
  each_answered s (k ∷ calls) =
      let a = answered s k in
      let rest = each_answered a.1 calls in
      let same : map call_of (a.0 ∷ rest.0) ≡ k ∷ calls = cc (a.2, rest.2) in
      (a.0 ∷ rest.0, rest.1, same, (a.1, a.3, rest.3))
