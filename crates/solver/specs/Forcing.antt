-- What `forced` answers, and what its marks tell.
use Rattle.std.specs.Prelude.{◌≡◌, ℕ, ◌<◌, List, [], ◌∷◌, length, Result, IfOk, nat_le, nat_lt}
use Rattle.game.specs.Game.{Game}
use Rattle.game.specs.Fill.{IsLargest, AtMostOne}
use Rattle.game.specs.Forced.{IsForced}
use Rattle.game.specs.Play.{ExactlyBrought}
use Rattle.hopper.specs.Faults.{Check, check}
use Rattle.hopper.specs.declared.Fault.{Fault}
use Rattle.hopper.specs.declared.Layer.TheVariants.{Rest}
use Rattle.hopper.specs.declared.Refusal.TheVariants.{NoSuchPlace, MarksTooShort}
use Rattle.hopper.specs.Refusing.{Answers}
use Rattle.solver.specs.Entries.{entries, KeptFrom, HasEntry}

-- the target is a place, and the marks have room for all places
abbrev pub forced_checks : Game → ℕ → ℕ → List Check
forced_checks g target room =
    check (nat_le g.places target) NoSuchPlace Rest target ∷ check (nat_lt room g.places) MarksTooShort Rest g.places ∷ []

-- below the number of places each entry is the forced mark of its place and the others have not changed; the rounds are the largest of the marks that are numbers
pub record ForcedMarks (g : Game) (target : ℕ) (old new : List ℕ) (rounds : ℕ) : Type 0 where
  pub exact : (p : ℕ) → p < g.places → IsForced g target p (entries new p)
  pub kept : KeptFrom g.places old new
  pub largest : IsLargest (HasEntry g.places new) rounds

-- what `forced` answers, and leaves of its buffer
abbrev pub ForcedAnswers : Game → ℕ → List ℕ → List ℕ → Result ℕ Fault → Type 0
ForcedAnswers g target old new = Answers (forced_checks g target (length old)) (ForcedMarks g target old new) (new ≡ old)

-- what `forced` promises on all input: its answer, that a mark tells when the target is reached in play, and that no place has two marks
pub record ForcedPromises (g : Game) (target : ℕ) (old new : List ℕ) (r : Result ℕ Fault) : Type 0 where
  pub answer : ForcedAnswers g target old new r
  pub play : IfOk r (λ _. (p : ℕ) → p < g.places → ExactlyBrought g target p (entries new p))
  pub unique : (p : ℕ) → AtMostOne (IsForced g target p)
