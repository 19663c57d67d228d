-- The table of an order: the checks before the search for a good move, and the one that the search decides.
use Rattle.std.proofs.Common.{◌≡◌, ℕ, ◌<◌, Bool, not, List, [], ◌∷◌, Some, Ok, sym, ap, ◌∙◌, arith}
use Rattle.game.specs.declared.Edge.{Edge}
use Rattle.game.specs.declared.Owner.TheVariants.{Theirs}
use Rattle.game.specs.Game.{Game, WellFormed}
use Rattle.game.specs.Limits.{most_moves}
use Rattle.game.specs.Vessel.{Hopper}
use Rattle.game.proofs.Force.{sound_at}
use Rattle.hopper.specs.declared.Layer.TheVariants.{Rest}
use Rattle.hopper.specs.declared.Refusal.TheVariants.{NoGoodMove}
use Rattle.hopper.specs.Boards.{step_at}
use Rattle.hopper.specs.Faults.{Check, check}
use Rattle.hopper.specs.Refusing.{verdict}
use Rattle.hopper.proofs.Boards.{nth_below, step_place}
use Rattle.hopper.proofs.Refusing.{second_decides}
use Rattle.shift.specs.declared.Shift.{Shift}
use Rattle.shift.specs.Good.{has_good_move}
use Rattle.shift.specs.Checks.{order_still_open, not_on_board, marks_too_short, place_is, no_good_move, order_checks}

-- a move has a small number
pub few : (g : Game) → WellFormed g → (p m : ℕ) (e : Edge) → step_at (g.at p) m ≡ Some e → m < most_moves
few g wf p m e is =
    let w = step_place (g.at p) m e is in
    let below = nth_below w.0.moves m e w.2 in
    let most = (sound_at g wf p w.0 w.1).sound.few_moves in omega arith

module _ (g : Game) (v : Hopper) (marks : List ℕ) (s : Shift) where
  -- the checks before the search
  abbrev pub asked : List Check
  asked = order_still_open s ∷ not_on_board g v s ∷ marks_too_short g v marks ∷ place_is g Theirs s ∷ []

  module _ (u : Unit {0}) (passed : Ok u ≡ verdict asked) where
    -- then the search decides
    pub decided : (b : Bool) → has_good_move v marks s.level (g.at s.place) ≡ b
        → verdict (order_checks g v marks s) ≡ verdict (check (not b) NoGoodMove Rest s.place ∷ [])
    decided b is =
        sym (second_decides asked (no_good_move g v marks s ∷ []) tt u passed)
        ∙ ap (λ (x : Bool). verdict (check (not x) NoGoodMove Rest s.place ∷ [])) is
