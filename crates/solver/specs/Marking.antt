-- What `mark` answers, and what its marks tell.
use Rattle.std.specs.Prelude.{◌≡◌, ℕ, ◌+◌, ◌*◌, ◌<◌, ◌≤◌, ◌⊎◌, ◌↔◌, List, [], ◌∷◌, length, Some, Option, Result, IfOk, nat_lt, slice_index}
use Rattle.game.specs.Game.{Game}
use Rattle.game.specs.Limits.{most_fills}
use Rattle.game.specs.Vessel.{Hopper, lip, closed}
use Rattle.game.specs.Fill.{Good, IsMark, IsLargest, AtMostOne}
use Rattle.game.specs.Forced.{cell, spill, unfolded}
use Rattle.game.specs.Play.{ExactlyForced, OtherSideForces}
use Rattle.game.specs.Published.{LowerWeakUpperBound, IntervalBound}
use Rattle.hopper.specs.Faults.{Check, check}
use Rattle.hopper.specs.declared.Fault.{Fault}
use Rattle.hopper.specs.declared.Layer.TheVariants.{Rest}
use Rattle.hopper.specs.declared.Refusal.TheVariants.{TooManyFills, MarksTooShort}
use Rattle.hopper.specs.Refusing.{Answers}
use Rattle.solver.specs.Entries.{never, entries, KeptFrom, HasEntry}
use Rattle.solver.specs.Forcing.{ForcedMarks}

-- the fills are not too many, and the marks have room for them and the spill
abbrev pub mark_checks : Game → ℕ → ℕ → List Check
mark_checks g top room =
    check (nat_lt most_fills (spill g top)) TooManyFills Rest top ∷ check (nat_lt room (spill g top + 1)) MarksTooShort Rest (spill g top + 1) ∷ []

-- the entry of each place and level is the mark of that fill, that of the spill is 0, and no later one has changed; the rounds are the largest entry that is a number
pub record FillMarks (g : Game) (v : Hopper) (old new : List ℕ) (rounds : ℕ) : Type 0 where
  pub exact : (p c : ℕ) → p < g.places → c ≤ v.top → IsMark g v.table p c (entries new (cell v.top p c))
  pub spilt : slice_index new (spill g v.top) ≡ 0
  pub kept : KeptFrom (spill g v.top + 1) old new
  pub largest : IsLargest (HasEntry (spill g v.top + 1) new) rounds

-- what `mark` answers, and leaves of its buffer
abbrev pub MarkAnswers : Game → Hopper → List ℕ → List ℕ → Result ℕ Fault → Type 0
MarkAnswers g v old new = Answers (mark_checks g v.top (length old)) (FillMarks g v old new) (new ≡ old)

-- an entry is never just where its fill is good
abbrev pub GoodWhereNever : Game → Hopper → List ℕ → Type 0
GoodWhereNever g v marks = (p c : ℕ) → p < g.places → c ≤ v.top → (slice_index marks (cell v.top p c) ≡ never) ↔ Good g v.table p c

-- what the marks and the rounds of an accepted `mark` tell
pub record MarksTell (g : Game) (v : Hopper) (old marks : List ℕ) (rounds : ℕ) : Type 0 where
  -- they are what `forced` writes for the unfolded game, with the spill as target
  pub forced : ForcedMarks (unfolded g v) (spill g v.top) old marks rounds
  -- each entry is the number of moves within which the other side can have the vessel refuse one, or never where we can prevent that for ever
  pub exactly : (p c : ℕ) → p < g.places → c ≤ v.top → ExactlyForced g v.table p c (entries marks (cell v.top p c))
  -- the entries that are never are those of the good fills
  pub good : GoodWhereNever g v marks
  -- no other entry is above the rounds
  pub bounded : (p c : ℕ) → p < g.places → c ≤ v.top → (slice_index marks (cell v.top p c) ≡ never) ⊎ (slice_index marks (cell v.top p c) ≤ rounds)
  -- from each bad fill, above the top too, one reply beats every plan within its mark, which up to the top is at most the rounds
  pub bad : (p c : ℕ) → p < g.places → ¬ Good g v.table p c
      → (n : ℕ) × IsMark g v.table p c (Some n) × OtherSideForces g v.table n p c × (c ≤ v.top → n ≤ rounds)
  -- over a lip an entry is never just where its fill, as a credit, wins the lower-weak-upper-bound problem
  pub over_lip : (b : ℕ) → v.table ≡ (lip b).table → (p c : ℕ) → p < g.places → c ≤ b
      → (slice_index marks (cell v.top p c) ≡ never) ↔ LowerWeakUpperBound g b p c
  -- over a closed vessel an entry is never just where its fill, as a credit, wins the interval-bound problem
  pub over_closed : (b : ℕ) → v.table ≡ (closed b).table → (p c : ℕ) → p < g.places → c ≤ b
      → (slice_index marks (cell v.top p c) ≡ never) ↔ IntervalBound g b p c

-- what is so of the fills of a game and a hopper, whatever is marked
pub record FillsTell (g : Game) (v : Hopper) : Type 0 where
  -- a fill has one mark and no other
  pub unique : (p c : ℕ) → AtMostOne (IsMark g v.table p c)
  -- a fill above the top has the mark 1: the other side has the next move refused, whatever we do
  pub above : (p c : ℕ) → p < g.places → v.top < c → IsMark g v.table p c (Some 1) × OtherSideForces g v.table 1 p c
  -- each fill of each place, above the top too, has a mark, which is exact, and is no number above the number of fills up to the top
  pub each : (p c : ℕ) → p < g.places
      → (o : Option ℕ) × IsMark g v.table p c o × ExactlyForced g v.table p c o × ((n : ℕ) → o ≡ Some n → n ≤ g.places * (v.top + 1))

-- all that `mark` promises of its answer and its buffer
pub record MarkPromises (g : Game) (v : Hopper) (old new : List ℕ) (r : Result ℕ Fault) : Type 0 where
  pub answer : MarkAnswers g v old new r
  pub tells : IfOk r (MarksTell g v old new)
  pub fills : FillsTell g v
