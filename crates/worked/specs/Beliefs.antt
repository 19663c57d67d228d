-- Two beliefs about hoppers, neither of which is so.
use Rattle.std.specs.Prelude.{◌≡◌, ℕ, ◌+◌, ◌<◌, ◌≤◌, Option}
use Rattle.game.specs.Game.{Game, WellFormed, drop_sum}
use Rattle.game.specs.Limits.{most_top}
use Rattle.game.specs.Vessel.{lip, closed, unlimited}
use Rattle.game.specs.Fill.{Good, LeastGood}

-- a closed hopper that is good at 1 litre is good at 2
abbrev pub GoodAtOneIsGoodAtTwo : Type 0
GoodAtOneIsGoodAtTwo =
    (g : Game) (top p : ℕ) → WellFormed g → 2 ≤ top → top ≤ most_top → p < g.places → Good g (closed top).table p 1 → Good g (closed top).table p 2

-- of the drop sum a litre may be missing: a lip that much lower gives each place the least good fill that it has where nothing runs over
abbrev pub LipBelowDropSumIsNoLip : Type 0
LipBelowDropSumIsNoLip =
    (g : Game) (b p : ℕ) (o : Option ℕ) → WellFormed g → b + 1 ≡ drop_sum g → p < g.places → LeastGood g unlimited p o → LeastGood g (lip b).table p o
