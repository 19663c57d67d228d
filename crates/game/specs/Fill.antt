-- How long a fill holds, marks, and rows.
use Rattle.std.specs.Prelude.{◌≡◌, ℕ, zero, suc, ◌<◌, ◌≤◌, List, Some, None, Option}
use Rattle.std.specs.List.{slice_get}
use Rattle.game.specs.Game.{Owner, Ours, Theirs, Edge, Place, Game}
use Rattle.game.specs.Vessel.{Table, Hopper}

-- P of a move that we can choose where the choice is ours, P of whatever they choose where it is theirs
abbrev pub Choice : {M : Type 0} → Owner → List M → (M → Type 0) → Type 0
Choice {M} Ours ms P = (m : ℕ) × (e : M) × (slice_get ms m ≡ Some e) × P e
Choice {M} Theirs ms P = (m : ℕ) (e : M) → slice_get ms m ≡ Some e → P e

-- one move can be made from (p, c) so that, whoever makes it, the place and level reached are in S
abbrev pub Step : Game → Table → (ℕ → ℕ → Type 0) → ℕ → ℕ → Type 0
Step g t S p c =
    (q : Place) × (g.at p ≡ Some q) ×
    Choice q.owner q.moves (λ e. (d : ℕ) × (t c e.amount ≡ Some d) × S e.target d)

-- the vessel refuses none of the next i moves, if we choose well
abbrev pub Holds : Game → Table → ℕ → ℕ → ℕ → Type 0
Holds g t zero p c = Unit
Holds g t (suc i) p c = Step g t (Holds g t i) p c

-- good: it holds for any number of moves
abbrev pub Good : Game → Table → ℕ → ℕ → Type 0
Good g t p c = (i : ℕ) → Holds g t i p c

-- the mark of a fill: the first number of moves that it does not hold for, None where there is no such number
abbrev pub IsMark : Game → Table → ℕ → ℕ → Option ℕ → Type 0
IsMark g t p c None = Good g t p c
IsMark g t p c (Some n) = ¬ Holds g t n p c × ((i : ℕ) → i < n → Holds g t i p c)

-- the least number of which P holds, or None where it holds of none
abbrev pub IsLeast : (ℕ → Type 0) → Option ℕ → Type 0
IsLeast P None = (c : ℕ) → ¬ P c
IsLeast P (Some c) = P c × ((d : ℕ) → d < c → ¬ P d)

-- P holds of one number, or None, at most
abbrev pub AtMostOne : (Option ℕ → Type 0) → Type 0
AtMostOne P = (o o' : Option ℕ) → P o → P o' → o ≡ o'

-- the largest number of which P holds
pub record IsLargest (P : ℕ → Type 0) (n : ℕ) : Type 0 where
  pub attained : P n
  pub most : (k : ℕ) → P k → k ≤ n

-- a row: a level or None at each place
abbrev pub Row : Type 0
Row = ℕ → Option ℕ

-- row j: at each place the lowest fill, up to the top, that holds for j moves
abbrev pub IsRow : Game → Hopper → ℕ → Row → Type 0
IsRow g v j row = (p : ℕ) → p < g.places → IsLeast (λ c. (c ≤ v.top) × Holds g v.table j p c) (row p)

-- row j is row j + 1 too
abbrev pub Repeats : Game → Hopper → ℕ → Type 0
Repeats g v j = (row : Row) × IsRow g v j row × IsRow g v (suc j) row

-- j is the first row that repeats
abbrev pub FirstRepeat : Game → Hopper → ℕ → Type 0
FirstRepeat g v j = Repeats g v j × ((i : ℕ) → i < j → ¬ Repeats g v i)

-- the lowest good fill of the place, None where all are bad
abbrev pub LeastGood : Game → Table → ℕ → Option ℕ → Type 0
LeastGood g t p = IsLeast (Good g t p)
