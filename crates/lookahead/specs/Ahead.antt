-- What a look-ahead answers.
use Rattle.std.specs.Prelude.{ℕ, Bool, List, [], ◌∷◌, Decides, MatchBool, Result, nat_le, nat_lt}
use Rattle.game.specs.Fill.{Holds}
use Rattle.game.specs.Play.{WeHold, OtherSideForces}
use Rattle.hopper.specs.Faults.{Check, check}
use Rattle.hopper.specs.declared.Fault.{Fault}
use Rattle.hopper.specs.declared.Layer.TheVariants.{Rest}
use Rattle.hopper.specs.declared.Refusal.TheVariants.{NoSuchPlace, FillAboveTop, LookTooFar}
use Rattle.hopper.specs.Refusing.{Answers}
use Rattle.lineformat.specs.Format.{Line}
use Rattle.lineformat.specs.Games.{game_of, hopper_of}

-- the most moves that are looked ahead
abbrev pub most_ahead : ℕ
most_ahead = 6

-- the place is there, the fill is no higher than the top, and k is not too many moves
abbrev pub look_checks : Line → ℕ → ℕ → ℕ → List Check
look_checks l place fill k =
    check (nat_le (game_of l).places place) NoSuchPlace Rest place
    ∷ check (nat_lt l.top fill) FillAboveTop Rest fill
    ∷ check (nat_lt most_ahead k) LookTooFar Rest k
    ∷ []

-- true exactly if the fill holds for k moves on the line and its own vessel, in the sense in which marks say it
abbrev pub LookAnswers : Line → ℕ → ℕ → ℕ → Result Bool Fault → Type 0
LookAnswers l place fill k =
    Answers (look_checks l place fill k) (λ held. Decides held (Holds (game_of l) (hopper_of l).table k place fill)) (Unit {0})

-- where it is true, a plan of ours keeps the vessel from refusing within k moves against every reply; where it is false, one reply beats every plan within k moves
abbrev pub TellsWhoPrevails : Line → ℕ → ℕ → ℕ → Bool → Type 0
TellsWhoPrevails l place fill k held =
    MatchBool held (WeHold (game_of l) (hopper_of l).table k place fill) (OtherSideForces (game_of l) (hopper_of l).table k place fill)
