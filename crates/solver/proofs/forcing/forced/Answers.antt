use Rattle.std.proofs.Common.{ℕ, List, Ok, Err, Result, rules}
use Rattle.game.specs.Game.{Game, WellFormed}
use Rattle.game.proofs.Brought.{forced_is_exactly_brought}
use Rattle.game.proofs.Rows.{unique}
use Rattle.hopper.specs.declared.Fault.{Fault}
use Rattle.solver.specs.Entries.{entries}
use Rattle.solver.specs.Forcing.{ForcedAnswers, ForcedPromises}
use Rattle.solver.proofs.forcing.forced.Goals as goal

promises : (g : Game) → WellFormed g → (target : ℕ) (old new : List ℕ) (r : Result ℕ Fault) → ForcedAnswers g target old new r → ForcedPromises g target old new r
promises g formed target old new (Ok rounds) a = record { answer = a; play = λ p lt. forced_is_exactly_brought g formed target p lt (entries new p) (a.1.exact p lt); unique = unique.forced g target }
promises g formed target old new (Err e) a = record { answer = a; play = tt; unique = unique.forced g target }

pub returns : goal.returns
returns g c = promises (g.B.Board.game c.args.board.now) (g.B.Board.formed c.args.board.now) c.args.target c.args.marks.now c.forced_marks.new.marks _ (search rules)
