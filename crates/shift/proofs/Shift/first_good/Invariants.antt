use Rattle.std.proofs.Common.{◌-◌}
use Rattle.hopper.specs.Boards.{count_at}
use Rattle.shift.specs.Good.{pours_good}
use Rattle.shift.proofs.Search.{Passed}
use Rattle.shift.proofs.Shift.first_good.Given as goal

-- no move before m is good
abbrev pub invariant-loop-edge : goal.invariant-loop-edge
invariant-loop-edge g l =
    Passed (pours_good (g.V.Vessel.hopper l.vessel) l.marks l.self.level)
    ((g.B.Board.game l.board).at l.self.place) l.m

-- the moves that are left
abbrev pub decreases-loop-edge : goal.decreases-loop-edge
decreases-loop-edge g l = count_at ((g.B.Board.game l.board).at l.self.place) - l.m
