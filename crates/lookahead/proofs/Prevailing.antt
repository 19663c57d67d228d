-- Whom the answer of a look-ahead tells to prevail.
use Rattle.std.proofs.Common.{◌≡◌, ℕ, ◌<◌, Bool, true, false, is_ok, Ok, Decides, sym, refl, ap}
use Rattle.std.proofs.lemmas.Bool.{leb-false, false≢true}
use Rattle.game.specs.Fill.{Holds}
use Rattle.game.specs.Game.{WellFormed}
use Rattle.game.proofs.Force.{held_has_plan, not_held_is_forced}
use Rattle.hopper.specs.Refusing.{verdict}
use Rattle.hopper.proofs.Refusing.{none_fails, untrue}
use Rattle.lineformat.specs.Format.{Line}
use Rattle.lineformat.specs.Games.{game_of, hopper_of}
use Rattle.lookahead.specs.Ahead.{look_checks, TellsWhoPrevails}

-- a question that passes the checks is about a place of the line
pub passed_place : (l : Line) (place fill k : ℕ) → Ok tt ≡ verdict (look_checks l place fill k) → place < (game_of l).places
passed_place l place fill k e =
    let n = none_fails (look_checks l place fill k) (sym (ap is_ok e)) in
    leb-false (game_of l).places place (untrue _ _ n.0)

-- a fill that holds has a plan, one that does not has a reply
pub tells_who_prevails : (l : Line) → WellFormed (game_of l) → (place fill k : ℕ) → Ok tt ≡ verdict (look_checks l place fill k)
    → (held : Bool) → Decides held (Holds (game_of l) (hopper_of l).table k place fill) → TellsWhoPrevails l place fill k held
tells_who_prevails l wf place fill k ok true d = held_has_plan (game_of l) wf (hopper_of l).table k place fill (d.0 refl)
tells_who_prevails l wf place fill k ok false d =
    not_held_is_forced (game_of l) wf (hopper_of l).table k place fill (passed_place l place fill k ok) (λ h. false≢true (d.1 h))
