-- How a call refuses: by the first of its checks that fails.
use Rattle.std.specs.Prelude.{◌≡◌, Bool, cond, List, [], ◌∷◌, is_ok, Ok, Err, Result, Some, None}
use Rattle.hopper.specs.declared.Fault.{Fault}
use Rattle.hopper.specs.Faults.{Check}

-- the fault of the first check that has one, and the answer where none has
abbrev pub refuse : {A : Type 0} → List Check → A → Result A Fault
refuse [] a = Ok a
refuse (Some f ∷ cs) a = Err f
refuse (None ∷ cs) a = refuse cs a

-- what stands after a call: something new where it accepted, what stood before where it refused
abbrev pub if_accepted : {A B : Type 0} → Result A Fault → B → B → B
if_accepted r new old = cond (is_ok r) new old

-- what the checks alone answer
abbrev pub verdict : List Check → Result (Unit {0}) Fault
verdict cs = refuse cs tt

-- no check fails
abbrev pub passes : List Check → Bool
passes cs = is_ok (verdict cs)

-- a call with these checks answers r: it accepts where none fails, with P of its answer, and is else refused by the first that fails, with Q
abbrev pub Answers : {A : Type 0} → List Check → (A → Type 0) → Type 0 → Result A Fault → Type 0
Answers checks P Q (Ok a) = (verdict checks ≡ Ok tt) × P a
Answers checks P Q (Err e) = (verdict checks ≡ Err e) × Q
