-- What one move does in an outlook.
use Rattle.std.specs.Prelude.{◌≡◌, ℕ, ◌-◌, List, Option, Some, None, IfSome}
use Rattle.std.specs.List.{All}
use Rattle.game.specs.declared.Edge.{Edge}
use Rattle.hopper.specs.Boards.{step_at}
use Rattle.lookahead.specs.declared.Outlook.{Outlook}
use Rattle.lookahead.specs.declared.Question.{Question}
use Rattle.lookahead.specs.Inner.Remembering.{game_in, hopper_in, HoldsIn, OnBoard}

-- move m of the question's place leads to the next question, which is on the board and about one move fewer
pub record IsNext (o : Outlook) (q : Question) (m : ℕ) (n : Question) : Type 0 where
  pub edge : Edge
  pub is : step_at ((game_in o).at q.place) m ≡ Some edge
  pub to : edge.target ≡ n.place
  pub poured : (hopper_in o).table q.level edge.amount ≡ Some n.level
  pub moves : n.moves ≡ q.moves - 1
  pub there : OnBoard o n

-- the vessel refuses move m of the question's place at its level
pub record Refused (o : Outlook) (q : Question) (m : ℕ) : Type 0 where
  pub edge : Edge
  pub is : step_at ((game_in o).at q.place) m ≡ Some edge
  pub refused : (hopper_in o).table q.level edge.amount ≡ None

-- some move leads from the one question to the other
abbrev pub SomeLeads : Outlook → Question → Question → Type 0
SomeLeads o q n = (m : ℕ) × IsNext o q m n

-- some move leads from the question to each of those that are there
abbrev pub AllLed : Outlook → Question → List (Option Question) → Type 0
AllLed o q = All (λ n. IfSome n (SomeLeads o q))

-- move m of the question's place leads to a fill that holds for one move fewer
abbrev pub LeadsOn : Outlook → Question → ℕ → Type 0
LeadsOn o q m =
    (e : Edge) × (step_at ((game_in o).at q.place) m ≡ Some e) × (d : ℕ) × ((hopper_in o).table q.level e.amount ≡ Some d) × HoldsIn o (q.moves - 1) e.target d
