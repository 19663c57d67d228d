-- What a starting fill decides of all that can follow, over every board and every vessel.
use Rattle.std.specs.Prelude.{◌≡◌, ℕ, ◌<◌, ◌≤◌, ◌↔◌, List, map, Some, Ok, Option, Result}
use Rattle.std.specs.List.{slice_get}
use Rattle.game.specs.Game.{Game, WellFormed, drop_sum}
use Rattle.game.specs.Vessel.{Table, Hopper, Keeps, lip, unlimited}
use Rattle.game.specs.Fill.{Good, IsMark, LeastGood}
use Rattle.game.specs.Play.{Poured, OtherSideForces}
use Rattle.game.specs.Rows.{Need, Graded}
use Rattle.hopper.specs.declared.Fault.{Fault}
use Rattle.hopper.specs.declared.Refusal.{Refusal}
use Rattle.hopper.specs.declared.Refusal.TheVariants.{NoGoodMove, VesselRefuses}
use Rattle.solver.specs.Least.{LeastAnswers, HoldsLeastGood, NeverGivesUp}
use Rattle.solver.specs.Marking.{MarkAnswers}
use Rattle.shift.specs.declared.Shift.{Shift}
use Rattle.shift.specs.Answers.{opened_at, OpenAnswers}
use Rattle.shift.specs.History.{Call, Event, call_of, refused_with, moves_made, History}

-- none of the calls was refused with this refusal
abbrev pub NeverRefusedWith : Refusal → List Event → Type 0
NeverRefusedWith r es = (k : ℕ) (e : Event) (f : Fault) → slice_get es k ≡ Some e → refused_with e ≡ Some f → ¬ (f.refusal ≡ r)

-- how a shift from place p and level c fares in the events es, after which it is s: its run was poured up to where it stands, at a good fill
pub record Served (g : Game) (t : Table) (p c : ℕ) (es : List Event) (s : Shift) : Type 0 where
  pub poured : NeverRefusedWith VesselRefuses es
  pub ordered : NeverRefusedWith NoGoodMove es
  pub led : Poured g t p c (moves_made es) s.place s.level
  pub good : Good g t s.place s.level

-- what the fills at which a shift may start decide, over one board and one vessel
pub record StartingFills (g : Game) (v : Hopper) : Type 0 where
  -- on marks that an accepted `mark` wrote, a shift is opened at every good fill
  pub good_start_is_opened : (old marks : List ℕ) (rounds : ℕ) → MarkAnswers g v old marks (Ok rounds)
      → (number p c : ℕ) → p < g.places → Good g v.table p c
      → OpenAnswers g v marks number p c (Ok (opened_at number p c))
  -- on marks that an accepted `mark` wrote, a shift that was opened is served in every history of calls
  pub good_start_is_served : (old marks : List ℕ) (rounds : ℕ) → MarkAnswers g v old marks (Ok rounds)
      → (number p c : ℕ) (s : Shift) → OpenAnswers g v marks number p c (Ok s)
      → (es : List Event) (s' : Shift) → History g v marks s es s' → Served g v.table p c es s'
  -- any list of calls, whatever its reports name, has a history
  pub each_call_is_answered : (marks : List ℕ) (s : Shift) (calls : List Call)
      → (es : List Event) × (s' : Shift) × (map call_of es ≡ calls) × History g v marks s es s'
  -- from a bad fill, above the top too, one reply beats every plan within the mark, which up to the top is at most the rounds of an accepted `mark`
  pub bad_start_is_forced : (p c : ℕ) → p < g.places → ¬ Good g v.table p c
      → (n : ℕ) × IsMark g v.table p c (Some n) × OtherSideForces g v.table n p c
      × (c ≤ v.top → (old marks : List ℕ) (rounds : ℕ) → MarkAnswers g v old marks (Ok rounds) → n ≤ rounds)
  -- over a lip no lower than the drop sum each place has the least good fill that it has without a lip, and has none where it has none
  pub lip_at_drop_sum_is_no_lip : (b : ℕ) → drop_sum g ≤ b → (p : ℕ) → p < g.places → (o : Option ℕ)
      → (LeastGood g (lip b).table p o ↔ LeastGood g unlimited p o)
  -- over a vessel that has a need an accepted `least` leaves the least good fills
  pub least_good_is_answered : (need : Need) → Graded v need → (row row' next next' : List ℕ) (budget j : ℕ)
      → LeastAnswers g v row row' next next' budget (Ok j) → HoldsLeastGood g v row'
  -- with a budget of places × (top + 1) or more `least` is not refused for rows that keep changing
  pub least_never_gives_up : (row row' next next' : List ℕ) (budget : ℕ) (r : Result ℕ Fault)
      → LeastAnswers g v row row' next next' budget r → NeverGivesUp g v budget r

-- the starting fill decides so on every board within the limits and over every vessel that keeps the rules
abbrev pub StartingFillsDecide : Type 0
StartingFillsDecide = (g : Game) → WellFormed g → (v : Hopper) → Keeps v → StartingFills g v
