-- The least good fill of a place and the move ordered there, read off marks.
use Rattle.std.specs.Prelude.{◌≡◌, ℕ, ◌<◌, Bool, true, ◌&&◌, List, Ok, Some, Option, is_some, IsSome, IfSome}
use Rattle.game.specs.declared.Owner.TheVariants.{Ours}
use Rattle.game.specs.Game.{Game, WellFormed}
use Rattle.game.specs.Vessel.{Hopper, Keeps}
use Rattle.game.specs.Fill.{Good, IsLeast, LeastGood}
use Rattle.hopper.specs.Boards.{owner_at}
use Rattle.hopper.specs.Refusing.{passes}
use Rattle.solver.specs.Marking.{MarkAnswers}
use Rattle.shift.specs.Answers.{opened_at}
use Rattle.shift.specs.Checks.{open_checks, order_checks}
use Rattle.shift.specs.Good.{is_good, FirstGoodMove}

-- r is the lowest level that the marks call good at place p, None where they call none good
abbrev pub LeastMarkedGood : ℕ → List ℕ → ℕ → Option ℕ → Type 0
LeastMarkedGood top marks p = IsLeast (λ c. is_good top marks p c ≡ true)

-- on marks that an accepted `mark` wrote, of any board over any vessel with this top, r is the least good fill of the place
abbrev pub LeastGoodByMarks : ℕ → List ℕ → ℕ → Option ℕ → Type 0
LeastGoodByMarks top marks p r =
    (g : Game) → WellFormed g → (v : Hopper) → Keeps v → v.top ≡ top → (old : List ℕ) (rounds : ℕ) → MarkAnswers g v old marks (Ok rounds)
    → p < g.places → LeastGood g v.table p r

-- a shift opens at place p and fill c, and its order is not refused
abbrev pub gives_order : Game → Hopper → List ℕ → ℕ → ℕ → Bool
gives_order g v marks p c = passes (open_checks g v marks p c) && passes (order_checks g v marks (opened_at 0 p c))

-- a move is ordered just where a shift opens at place p and fill c and its order is not refused, and it is the first poured to a good level
abbrev pub OrderedMove : Game → Hopper → List ℕ → ℕ → ℕ → Option ℕ → Type 0
OrderedMove g v marks p c r = (is_some r ≡ gives_order g v marks p c) × IfSome r (FirstGoodMove v marks c (g.at p))

-- on marks that an accepted `mark` wrote a move is ordered at each good fill of a place of ours
abbrev pub OrderedWhereGood : Game → Hopper → List ℕ → ℕ → ℕ → Option ℕ → Type 0
OrderedWhereGood g v marks p c r =
    (old : List ℕ) (rounds : ℕ) → MarkAnswers g v old marks (Ok rounds)
    → owner_at (g.at p) ≡ Some Ours → Good g v.table p c → IsSome r
