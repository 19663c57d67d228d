-- What the proofs of the crates above cite of every game and every vessel that keeps the rules: the statements. What a call promises stands in the specs/ of its crate.
use Rattle.std.specs.Prelude.{◌≡◌, ℕ, suc, ◌+◌, ◌*◌, ◌<◌, ◌≤◌, ◌↔◌, Some, Option}
use Rattle.game.specs.Game.{Game, WellFormed, drop_sum}
use Rattle.game.specs.Limits.{most_fills}
use Rattle.game.specs.Vessel.{Table, Hopper, Keeps, lip, closed, drawn, unlimited}
use Rattle.game.specs.Published.{LowerWeakUpperBound, IntervalBound, LowerBound}
use Rattle.game.specs.Fill.{Step, Holds, Good, IsMark, AtMostOne, LeastGood, Row, IsRow}
use Rattle.game.specs.Forced.{Forces, IsForced, cell, spill, unfolded}
use Rattle.game.specs.Rows.{Need, Graded, need_lip, need_drawn}
use Rattle.game.proofs.RowMaking.{row_of}
use Rattle.game.specs.Play.{OtherSideForces, WeHold, WeHoldForever, ExactlyForced, ExactlyBrought}

-- A fill that does not hold for i moves, above the top too, is one from which the other side forces a refusal within i.
abbrev pub NotHeldIsForced : Type 0
NotHeldIsForced =
    (g : Game) → WellFormed g → (t : Table) (i p c : ℕ) → p < g.places
    → ¬ Holds g t i p c → OtherSideForces g t i p c

-- A fill that holds for i moves is one from which a plan of ours makes i moves without a refusal.
abbrev pub HeldHasPlan : Type 0
HeldHasPlan =
    (g : Game) → WellFormed g → (t : Table) (i p c : ℕ)
    → Holds g t i p c → WeHold g t i p c

-- From a good fill one plan of ours does so for any number of moves.
abbrev pub GoodHoldsForever : Type 0
GoodHoldsForever =
    (g : Game) → WellFormed g → (v : Hopper) → Keeps v
    → (p c : ℕ) → Good g v.table p c → WeHoldForever g v.table p c

-- Each fill up to the top has a mark, and that is no number above the number of fills.
abbrev pub EachFillHasMark : Type 0
EachFillHasMark =
    (g : Game) → WellFormed g → (v : Hopper) → Keeps v → (p c : ℕ) → p < g.places → c ≤ v.top
    → (o : Option ℕ) × IsMark g v.table p c o × ((n : ℕ) → o ≡ Some n → n ≤ g.places * (v.top + 1))

-- The mark of a fill, above the top too, is the number of moves within which a refusal can be forced.
abbrev pub MarkIsExactlyForced : Type 0
MarkIsExactlyForced =
    (g : Game) → WellFormed g → (v : Hopper) → Keeps v → (p c : ℕ) → p < g.places
    → (o : Option ℕ) → IsMark g v.table p c o → ExactlyForced g v.table p c o

-- The good fills of a lip are the credits that win the lower-weak-upper-bound problem.
abbrev pub LipIsLowerWeakUpperBound : Type 0
LipIsLowerWeakUpperBound =
    (g : Game) → WellFormed g → (b p c : ℕ) → p < g.places → c ≤ b → (Good g (lip b).table p c ↔ LowerWeakUpperBound g b p c)

-- The good fills of a closed vessel are the credits that win the interval-bound problem.
abbrev pub ClosedIsIntervalBound : Type 0
ClosedIsIntervalBound =
    (g : Game) → WellFormed g → (b p c : ℕ) → p < g.places → c ≤ b → (Good g (closed b).table p c ↔ IntervalBound g b p c)

-- The good fills of the hopper without a lip are the credits that win the lower-bound problem.
abbrev pub UnlimitedIsLowerBound : Type 0
UnlimitedIsLowerBound =
    (g : Game) → WellFormed g → (p c : ℕ) → p < g.places → (Good g unlimited p c ↔ LowerBound g p c)

-- Over a lip no lower than the drop sum each place has the least good fill that it has without a lip, and has none where it has none.
abbrev pub LipAtDropSumIsNoLip : Type 0
LipAtDropSumIsNoLip =
    (g : Game) → WellFormed g → (b : ℕ) → drop_sum g ≤ b → (p : ℕ) → p < g.places → (o : Option ℕ)
    → (LeastGood g (lip b).table p o ↔ LeastGood g unlimited p o)

-- The rows made one from another by need are the rows of lowest fills.
abbrev pub NeedMakesRows : Type 0
NeedMakesRows =
    (g : Game) → WellFormed g → (v : Hopper) → Keeps v → (need : Need) → Graded v need
    → (j : ℕ) → IsRow g v j (row_of g need j)

-- A row that is the next one too holds the least good fills.
abbrev pub RepeatedRowIsLeastGood : Type 0
RepeatedRowIsLeastGood =
    (g : Game) → WellFormed g → (v : Hopper) → Keeps v → (need : Need) → Graded v need
    → (j : ℕ) (row : Row) → IsRow g v j row → IsRow g v (suc j) row
    → (p : ℕ) → p < g.places → LeastGood g v.table p (row p)

-- By row places × (top + 1) some row is the next one too.
abbrev pub SomeRowRepeats : Type 0
SomeRowRepeats =
    (g : Game) (v : Hopper) (rows : ℕ → Row) → ((j : ℕ) → IsRow g v j (rows j))
    → (j : ℕ) × (j ≤ g.places * (v.top + 1)) × ((p : ℕ) → p < g.places → rows j p ≡ rows (suc j) p)

-- On the unfolded game the spill is forced within i moves from just those fills that do not hold for i, so the forced marks are the marks.
abbrev pub SpillIsForcedByMark : Type 0
SpillIsForcedByMark =
    (g : Game) → WellFormed g → (v : Hopper) → Keeps v → spill g v.top ≤ most_fills
    → (p c : ℕ) → p < g.places → c ≤ v.top
    → ((i : ℕ) → (Forces (unfolded g v) (spill g v.top) i (cell v.top p c) ↔ (¬ Holds g v.table i p c)))
    × ((o : Option ℕ) → IsForced (unfolded g v) (spill g v.top) (cell v.top p c) o ↔ IsMark g v.table p c o)

-- The unfolded game is a game within the limits.
abbrev pub UnfoldedIsWellFormed : Type 0
UnfoldedIsWellFormed = (g : Game) → WellFormed g → (v : Hopper) → Keeps v → WellFormed (unfolded g v)

-- Each of the three vessels keeps the rules of a vessel with its top, and lip and drawn have a need.
pub record VesselsKeepRules (top draw : ℕ) : Type 0 where
  pub lip_keeps : Keeps (lip top)
  pub closed_keeps : Keeps (closed top)
  pub drawn_keeps : Keeps (drawn top draw)
  pub lip_graded : Graded (lip top) (need_lip top)
  pub drawn_graded : Graded (drawn top draw) (need_drawn top draw)

-- A good fill has a move of ours to a good level, or at a place of theirs every move leads to one.
abbrev pub GoodLeadsOn : Type 0
GoodLeadsOn =
    (g : Game) → WellFormed g → (v : Hopper) → Keeps v
    → (p c : ℕ) → Good g v.table p c → Step g v.table (Good g v.table) p c

-- Once one more move forces no further place, more moves force none.
abbrev pub ForcedSettles : Type 0
ForcedSettles =
    (g : Game) → WellFormed g → (target i : ℕ)
    → ((p : ℕ) → p < g.places → Forces g target (suc i) p → Forces g target i p)
    → (k p : ℕ) → p < g.places → Forces g target k p → Forces g target i p

-- The forced mark of a place is the number of moves within which the run can be brought to the target.
abbrev pub ForcedIsExactlyBrought : Type 0
ForcedIsExactlyBrought =
    (g : Game) → WellFormed g → (target p : ℕ) → p < g.places
    → (o : Option ℕ) → IsForced g target p o → ExactlyBrought g target p o

-- A fill has one mark, a place one forced mark and one least good fill, and there is one row of each number.
pub record Unique : Type 0 where
  pub mark : (g : Game) (t : Table) (p c : ℕ) → AtMostOne (IsMark g t p c)
  pub forced : (g : Game) (target p : ℕ) → AtMostOne (IsForced g target p)
  pub least : (g : Game) (t : Table) (p : ℕ) → AtMostOne (LeastGood g t p)
  pub row : (g : Game) (v : Hopper) (j : ℕ) (r s : Row) → IsRow g v j r → IsRow g v j s → (p : ℕ) → p < g.places → r p ≡ s p
