-- What an outlook is about, and the answers that it remembers.
use Rattle.std.specs.Prelude.{ℕ, ◌<◌, ◌≤◌, Bool, true, false, List, Decides}
use Rattle.std.specs.List.{All}
use Rattle.game.specs.Fill.{Holds}
use Rattle.game.specs.Game.{Game}
use Rattle.game.specs.Vessel.{Hopper}
use Rattle.hopper.specs.Any.{any_hopper}
use Rattle.hopper.specs.declared.any.AnyVessel.{AnyVessel}
use Rattle.hopper.specs.declared.any.AnyVessel.TheVariants.{OfLip, OfClosed, OfDrawn}
use Rattle.lineformat.specs.Games.{game_of}
use Rattle.linefile.specs.Held.{line_held}
use Rattle.lookahead.specs.declared.Outlook.{Outlook}
use Rattle.lookahead.specs.declared.Question.{Question}
use Rattle.lookahead.specs.declared.Remembered.{Remembered}

-- a vessel that pours no less from a higher level
abbrev pub is_ordered : AnyVessel → Bool
is_ordered (OfLip v) = true
is_ordered (OfClosed v) = false
is_ordered (OfDrawn v) = true

-- the game of the line
abbrev pub game_in : Outlook → Game
game_in o = game_of (line_held o.line.now)

-- the hopper of its vessel
abbrev pub hopper_in : Outlook → Hopper
hopper_in o = any_hopper o.vessel

-- the fill at the place holds for k moves
abbrev pub HoldsIn : Outlook → ℕ → ℕ → ℕ → Type 0
HoldsIn o = Holds (game_in o) (hopper_in o).table

-- the question is about a place of the game and a level up to the top
pub record OnBoard (o : Outlook) (q : Question) : Type 0 where
  pub place : q.place < (game_in o).places
  pub level : q.level ≤ (hopper_in o).top

-- its fill holds for as many moves as it asks
abbrev pub Held : Outlook → Question → Type 0
Held o q = HoldsIn o q.moves q.place q.level

-- wherever a fill at c holds, one at d holds, if d is up to the top
abbrev pub HoldsHigher : Outlook → ℕ → ℕ → Type 0
HoldsHigher o c d = (k p : ℕ) → d ≤ (hopper_in o).top → HoldsIn o k p c → HoldsIn o k p d

-- the answer is right
abbrev pub Right : Outlook → Remembered → Type 0
Right o a = (a.level ≤ (hopper_in o).top) × Decides a.held (HoldsIn o a.moves a.place a.level)

-- if the answer is right, it answers the question too
abbrev pub Settles : Outlook → Remembered → Question → Type 0
Settles o a q = Right o a → Decides a.held (Held o q)

-- all answers that are remembered are right
abbrev pub AllRight : Outlook → List Remembered → Type 0
AllRight o known = ∥ All (Right o) known ∥₁
