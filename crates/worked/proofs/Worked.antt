-- What is worked out of the two small lines is so.
use Rattle.std.proofs.Common.{◌≡◌, ℕ, zero, suc, ◌<◌, ◌≤◌, [], ◌∷◌, pos, negsuc, Some, sym, refl, subst, arith}
use Rattle.game.specs.declared.Edge.{Edge}
use Rattle.game.specs.Vessel.{lip, closed}
use Rattle.game.specs.Fill.{Good}
use Rattle.game.specs.Rows.{Reaches}
use Rattle.game.specs.Cases.{to, line_p, line_q}
use Rattle.game.proofs.Base.{none_some, some_inj}
use Rattle.game.proofs.Cases.{worked_cases}
use Rattle.game.proofs.Vessels.{vessels_keep_rules}
use Rattle.solver.specs.Entries.{entries}
use Rattle.solver.specs.Planning.{NeedsNoMore, Planned}
use Rattle.worked.specs.Beliefs.{GoodAtOneIsGoodAtTwo, LipBelowDropSumIsNoLip}
use Rattle.worked.specs.Worked.{Worked}

-- ---- the plan of Q
-- an empty hopper does not pour 3 litres out
not_empty : (wanted : ℕ) → ¬ Reaches (lip 10).table wanted (negsuc 2) 0
not_empty wanted r = none_some r.1

-- move 0 takes 3 litres out, and the entry is 0
not_first : ¬ NeedsNoMore line_q (lip 10) (entries (0 ∷ 2 ∷ [])) 0 0
not_first n =
    let e : to 1 (negsuc 2) ≡ n.move = some_inj n.is_move in
    let has : 0 ≡ n.has = some_inj n.entry in
    let small : n.needed ≤ 0 = omega (arith, n.enough) in
    let reach : Reaches (lip 10).table n.wanted n.move.amount 0 = n.need.1 0 small (omega arith) in
    not_empty n.wanted (subst (λ (m : Edge). Reaches (lip 10).table n.wanted m.amount 0) (sym e) reach)

-- move 1 pours 2 litres in and comes back
second : NeedsNoMore line_q (lip 10) (entries (0 ∷ 2 ∷ [])) 0 1
second =
    record {
      move = to 0 (pos 2);
      has = 0;
      wanted = 0;
      needed = 0;
      is_move = refl;
      entry = refl;
      target = refl;
      need = (vessels_keep_rules 10 0 (omega arith)).lip_graded 0 (pos 2);
      enough = omega arith;
    }

planned : Planned line_q (lip 10) (0 ∷ 2 ∷ []) 0 1
planned = record { serves = second; first = before }
  where
    before : (k : ℕ) → k < 1 → ¬ NeedsNoMore line_q (lip 10) (entries (0 ∷ 2 ∷ [])) 0 k
    before zero lt = not_first
    before (suc k) lt = absurd (omega arith)

-- ---- the beliefs
-- the pit, closed at 6, is marked 1 at 2 litres
not_at_two : ¬ Good line_p (closed 6).table 0 2
not_at_two good = worked_cases.p_closed.0.1.1.0.0 (good 1)

not_one_two : ¬ GoodAtOneIsGoodAtTwo
not_one_two belief =
    not_at_two (belief line_p 6 0 worked_cases.formed.0 (omega arith) (omega arith) (omega arith) worked_cases.p_closed.0.1.0)

not_no_lip : ¬ LipBelowDropSumIsNoLip
not_no_lip belief =
    let least = belief line_p 4 0 (Some 0) worked_cases.formed.0 refl (omega arith) worked_cases.p_unlimited.0 in
    worked_cases.p_lip4.0.0 0 least.0

pub worked : Worked
worked = record {
  lines = worked_cases;
  q_lip_10_plan = planned;
  first_litre = (refl, refl);
  last_litres = (refl, refl);
  one_not_two = (worked_cases.p_closed.0.1.0, not_at_two, not_one_two);
  lip_not_none = (worked_cases.p_unlimited.0, worked_cases.p_lip4.0.0, not_no_lip);
}
