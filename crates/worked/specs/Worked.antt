-- What is worked out of the two small lines, the pit and the press P and the line Q, and of four heights of the gauge.
use Rattle.std.specs.Prelude.{◌≡◌, [], ◌∷◌, Some, None}
use Rattle.game.specs.Vessel.{lip, closed, unlimited}
use Rattle.game.specs.Fill.{Good, LeastGood}
use Rattle.game.specs.Cases.{line_p, line_q, WorkedCases}
use Rattle.solver.specs.Planning.{Planned}
use Rattle.gauge.specs.Gauge.{litres}
use Rattle.worked.specs.Beliefs.{GoodAtOneIsGoodAtTwo, LipBelowDropSumIsNoLip}

-- all of it together; None is no good fill
pub record Worked : Type 0 where
  -- the fills, marks and rounds of both lines
  pub lines : WorkedCases
  -- Q under a lip of 10: by the row of these fills the planned move at place 0 is move 1
  pub q_lip_10_plan : Planned line_q (lip 10) (0 ∷ 2 ∷ []) 0 1
  -- the first litre comes at a height of 145 millimetres
  pub first_litre : (litres 144 ≡ 0) × (litres 145 ≡ 1)
  -- the last millimetre of the gauge brings two litres
  pub last_litres : (litres 1199 ≡ 574) × (litres 1200 ≡ 576)
  -- closed hoppers that are good at 1 litre need not be good at 2: P closed at 6 has such a place
  pub one_not_two : Good line_p (closed 6).table 0 1 × ¬ Good line_p (closed 6).table 0 2 × ¬ GoodAtOneIsGoodAtTwo
  -- lips one litre below the drop sum are not as good as none: P under a lip of 4 has no good fill where it has one without
  pub lip_not_none : LeastGood line_p unlimited 0 (Some 0) × LeastGood line_p (lip 4).table 0 None × ¬ LipBelowDropSumIsNoLip
