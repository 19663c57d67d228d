-- Answers as numbers, and what a call on the bytes of a file answers.
use Rattle.std.specs.Prelude.{◌≡◌, ℕ, List, Ok, Err, Result}
use Rattle.std.specs.Result.{result_unwrap_or}
use Rattle.hopper.specs.declared.Fault.{Fault}
use Rattle.hopper.specs.Faults.{refusal_number, layer_number}
use Rattle.hopper.specs.Refusing.{verdict}
use Rattle.lineformat.specs.Format.{Line, line_of}
use Rattle.lineformat.specs.Checks.{read_checks}
use Rattle.panel.specs.declared.numbers.FaultNumbers.{FaultNumbers}

-- the numbers of a fault: of its refusal, its layer and its spot
abbrev pub fault_numbers : Fault → FaultNumbers
fault_numbers f = record { number = refusal_number f.refusal; layer = layer_number f.layer; spot = f.spot }

-- the numbers of an answer: of its fault, or 0 three times where it accepts
abbrev pub answer_numbers : {A : Type 0} → Result A Fault → FaultNumbers
answer_numbers (Ok a) = record { number = 0; layer = 0; spot = 0 }
answer_numbers (Err f) = fault_numbers f

-- the numbers are those of an answer of which P holds
abbrev pub Says : {A : Type 0} → FaultNumbers → (Result A Fault → Type 0) → Type 0
Says n P = (r : Result _ Fault) × (n ≡ answer_numbers r) × P r

-- and the value of that answer is written over the old one where it accepts
abbrev pub Writes : {A : Type 0} → FaultNumbers → A → A → (Result A Fault → Type 0) → Type 0
Writes n old new P = Says n (λ r. (new ≡ result_unwrap_or r old) × P r)

-- what a call on a file answers: where reading refuses the file, that refusal, with Q; else P of the line that the file spells
pub record OnFile {A : Type 0} (file : List ℕ) (P : Line → Result A Fault → Type 0) (Q : Type 0) (r : Result A Fault) : Type 0 where
  pub refused : (f : Fault) → verdict (read_checks file) ≡ Err f → (r ≡ Err f) × Q
  pub read : verdict (read_checks file) ≡ Ok tt → P (line_of file) r
