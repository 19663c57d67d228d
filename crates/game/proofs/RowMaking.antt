-- Each row made from the one before by need.
use Rattle.std.proofs.Common.{ℕ, zero, suc, min, max, List, [], ◌∷◌, ℤ, Some, None, Option}
use Rattle.game.specs.Game.{Owner, Ours, Theirs, Edge, Place, Game}
use Rattle.game.specs.Fill.{Row}
use Rattle.game.specs.Rows.{Need}

-- the lesser of two entries, where None is above every number
abbrev pub lesser : Option ℕ → Option ℕ → Option ℕ
lesser None y = y
lesser (Some x) None = Some x
lesser (Some x) (Some y) = Some (min x y)

-- the greater of two entries
abbrev pub greater : Option ℕ → Option ℕ → Option ℕ
greater None y = None
greater (Some x) None = None
greater (Some x) (Some y) = Some (max x y)

-- the best that the chooser leaves us: the least of f where we choose, the greatest where they do
abbrev pub best : Owner → (Edge → Option ℕ) → List Edge → Option ℕ
best Ours f [] = None
best Ours f (e ∷ es) = lesser (f e) (best Ours f es)
best Theirs f [] = Some 0
best Theirs f (e ∷ es) = greater (f e) (best Theirs f es)

-- the need for an entry, None for None
abbrev pub need_if : Need → ℤ → Option ℕ → Option ℕ
need_if need a None = None
need_if need a (Some wanted) = need wanted a

-- the level from which the move leads to its target's entry
abbrev pub serves : Need → Row → Edge → Option ℕ
serves need row e = need_if need e.amount (row e.target)

-- the best of what stands at a place number
abbrev pub best_at : Need → Row → Option Place → Option ℕ
best_at need row None = None
best_at need row (Some q) = best q.owner (serves need row) q.moves

-- the row made of the one before
abbrev pub next_row : Game → Need → Row → Row
next_row g need row p = best_at need row (g.at p)

-- row 0 is all 0, and each row makes the next
abbrev pub row_of : Game → Need → ℕ → Row
row_of g need zero = λ p. Some 0
row_of g need (suc j) = next_row g need (row_of g need j)
