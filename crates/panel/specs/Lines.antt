-- What the calls on the fills of a line answer.
use Rattle.std.specs.Prelude.{◌≡◌, ℕ, ◌+◌, List, Err, Result, ⊤}
use Rattle.game.specs.Forced.{spill}
use Rattle.hopper.specs.declared.Fault.{Fault}
use Rattle.hopper.specs.declared.Layer.TheVariants.{Rest}
use Rattle.hopper.specs.declared.Refusal.TheVariants.{UnknownKind}
use Rattle.hopper.specs.Faults.{fault}
use Rattle.hopper.specs.Refusing.{Answers}
use Rattle.lineformat.specs.declared.Kind.TheVariants.{Closed}
use Rattle.lineformat.specs.Checks.{read_checks}
use Rattle.lineformat.specs.Format.{Line, line_of}
use Rattle.lineformat.specs.Games.{game_of, hopper_of}
use Rattle.lineformat.specs.Kinds.{kind_number}
use Rattle.solver.specs.Least.{LeastPromises}
use Rattle.solver.specs.Marking.{MarkPromises}
use Rattle.panel.specs.Told.{OnFile}

-- how large the line of a file is: its places, and the entries that its marks need
abbrev pub FileCounted : List ℕ → Result (ℕ × ℕ) Fault → Type 0
FileCounted file =
    Answers (read_checks file) (λ n. (n.0 ≡ (game_of (line_of file)).places) × (n.1 ≡ spill (game_of (line_of file)) (line_of file).top + 1)) ⊤

-- what marking the line of a file answers
abbrev pub FileMarked : List ℕ → List ℕ → List ℕ → Result ℕ Fault → Type 0
FileMarked file old new = OnFile file (λ l. MarkPromises (game_of l) (hopper_of l) old new) (new ≡ old)

-- the fault of a line over a closed vessel, which has no rows
abbrev pub closed_fault : Fault
closed_fault = fault UnknownKind Rest (kind_number Closed)

-- what a call on the rows of a line answers: the fault of a closed vessel where the line has one, with Q; else what P says
abbrev pub OnGraded : {A : Type 0} → Type 0 → Type 0 → Line → Result A Fault → Type 0
OnGraded P Q l r = ((l.kind ≡ kind_number Closed) → (r ≡ Err closed_fault) × Q) × (¬ (l.kind ≡ kind_number Closed) → P)

-- what the least fills of the line of a file are answered by
abbrev pub FileLeast : List ℕ → List ℕ → List ℕ → List ℕ → List ℕ → ℕ → Result ℕ Fault → Type 0
FileLeast file row row' next next' budget =
    OnFile file
    (λ l r. OnGraded (LeastPromises (game_of l) (hopper_of l) row row' next next' budget r) ((row' ≡ row) × (next' ≡ next)) l r)
    ((row' ≡ row) × (next' ≡ next))
