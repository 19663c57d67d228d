-- Two small lines, and what is so of them.
use Rattle.std.specs.Prelude.{◌≡◌, ℕ, zero, suc, ◌<◌, ◌≤◌, List, [], ◌∷◌, ℤ, pos, negsuc, Some, None, Option}
use Rattle.game.specs.Game.{Ours, Theirs, Edge, Place, Game, WellFormed, drop_sum}
use Rattle.game.specs.Vessel.{Table, Hopper, lip, closed, drawn, unlimited}
use Rattle.game.specs.Fill.{IsMark, IsLargest, LeastGood, FirstRepeat}

-- a line of two places
abbrev pub two : Place → Place → ℕ → Option Place
two a b zero = Some a
two a b (suc zero) = Some b
two a b (suc (suc p)) = None

-- the move to a place by an amount
abbrev pub to : ℕ → ℤ → Edge
to p a = record { target = p; amount = a }

-- line P, the pit and the press, both ours: 5 litres are poured in, then taken out
abbrev pub line_p : Game
line_p =
    record {
      places = 2;
      at = two (record { owner = Ours; moves = to 1 (pos 5) ∷ [] }) (record { owner = Ours; moves = to 0 (negsuc 4) ∷ [] });
    }

-- line Q: at place 0 we take 3 out and go to 1, or pour 2 in and stay; at place 1 they pour 4 in or take 2 out, and go to 0
abbrev pub line_q : Game
line_q =
    record {
      places = 2;
      at =
          two (record { owner = Ours; moves = to 1 (negsuc 2) ∷ to 0 (pos 2) ∷ [] })
          (record { owner = Theirs; moves = to 0 (pos 4) ∷ to 0 (negsuc 1) ∷ [] });
    }

-- the least good fills of the two places
abbrev pub LeastAre : Game → Table → Option ℕ → Option ℕ → Type 0
LeastAre g t a b = LeastGood g t 0 a × LeastGood g t 1 b

-- the marks of the fills of a place from c on
abbrev pub MarksAre : Game → Table → ℕ → ℕ → List (Option ℕ) → Type 0
MarksAre g t p c [] = Unit
MarksAre g t p c (o ∷ os) = IsMark g t p c o × MarksAre g t p (suc c) os

-- n is the mark of a fill up to the top
abbrev pub SomeMark : Game → Hopper → ℕ → Type 0
SomeMark g v n = (p : ℕ) × (c : ℕ) × (p < g.places) × (c ≤ v.top) × IsMark g v.table p c (Some n)

-- n is the largest mark of a fill up to the top that is a number
abbrev pub IsLargestMark : Game → Hopper → ℕ → Type 0
IsLargestMark g v = IsLargest (SomeMark g v)

-- what comes out for the two lines; None is no good fill, and the mark never
pub record WorkedCases : Type 0 where
  -- both lines keep the rules of a line
  pub formed : WellFormed line_p × WellFormed line_q
  -- the drop sum of P
  pub drops : drop_sum line_p ≡ 5
  -- P under a lip of 6: the least good fills of pit and press, and the rounds
  pub p_lip6 : LeastAre line_p (lip 6).table (Some 0) (Some 5) × FirstRepeat line_p (lip 6) 1
  -- P under a lip of 5, the drop sum: the same
  pub p_lip5 : LeastAre line_p (lip 5).table (Some 0) (Some 5) × FirstRepeat line_p (lip 5) 1
  -- P under a lip of 4: no fill is good
  pub p_lip4 : LeastAre line_p (lip 4).table None None × FirstRepeat line_p (lip 4) 2
  -- P without a lip
  pub p_unlimited : LeastAre line_p unlimited (Some 0) (Some 5)
  -- P where 1 litre is drawn off, under a top of 6: no fill is good
  pub p_drawn : LeastAre line_p (drawn 6 1).table None None × FirstRepeat line_p (drawn 6 1) 3
  -- P closed at 6: the marks of the pit and of the press, from the empty hopper to the full one
  pub p_closed : MarksAre line_p (closed 6).table 0 0 (None ∷ None ∷ Some 1 ∷ Some 1 ∷ Some 1 ∷ Some 1 ∷ Some 1 ∷ []) × MarksAre line_p (closed 6).table 1 0 (Some 1 ∷ Some 1 ∷ Some 1 ∷ Some 1 ∷ Some 1 ∷ None ∷ None ∷ [])
  -- and the rounds of these marks
  pub p_closed_rounds : IsLargestMark line_p (closed 6) 1
  -- Q under a lip of 10: the least good fills of both places, and the rounds
  pub q_lip10 : LeastAre line_q (lip 10).table (Some 0) (Some 2) × FirstRepeat line_q (lip 10) 1
  -- Q closed at 5: the marks of both places
  pub q_closed : MarksAre line_q (closed 5).table 0 0 (Some 4 ∷ Some 4 ∷ Some 3 ∷ Some 3 ∷ Some 2 ∷ Some 2 ∷ []) × MarksAre line_q (closed 5).table 1 0 (Some 1 ∷ Some 1 ∷ Some 1 ∷ Some 1 ∷ Some 1 ∷ Some 1 ∷ [])
  -- and the rounds of these marks
  pub q_closed_rounds : IsLargestMark line_q (closed 5) 4
