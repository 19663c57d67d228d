-- Forced marks, and the unfolded game of a game and a vessel.
use Rattle.std.specs.Prelude.{◌≡◌, ℕ, zero, suc, ◌+◌, ◌*◌, ◌/◌, ◌%◌, cond, ◌⊎◌, [], ◌∷◌, map, pos, Some, None, Option, nat_le, nat_lt}
use Rattle.std.specs.Option.{option_map}
use Rattle.game.specs.Limits.{most_fills}
use Rattle.game.specs.Game.{Owner, Ours, Theirs, Edge, Place, Game}
use Rattle.game.specs.Vessel.{Hopper}
use Rattle.game.specs.Fill.{Choice, IsLeast}

-- the one who has to put up with the choice
abbrev pub foe : Owner → Owner
foe Ours = Theirs
foe Theirs = Ours

-- one move brings the run from p into P if the other side wants it to: they have such a move at their places, we have no other at ours
abbrev pub ForcesInto : Game → (ℕ → Type 0) → ℕ → Type 0
ForcesInto g P p = (q : Place) × (g.at p ≡ Some q) × Choice (foe q.owner) q.moves (λ e. P e.target)

-- at most i moves bring it to the target
abbrev pub Forces : Game → ℕ → ℕ → ℕ → Type 0
Forces g target zero p = p ≡ target
Forces g target (suc i) p = (p ≡ target) ⊎ ForcesInto g (Forces g target i) p

-- the forced mark of p: the least such number, None where there is none
abbrev pub IsForced : Game → ℕ → ℕ → Option ℕ → Type 0
IsForced g target p = IsLeast (λ i. Forces g target i p)

-- the number of place p at level c on the unfolded board
abbrev pub cell : ℕ → ℕ → ℕ → ℕ
cell top p c = p * (top + 1) + c

-- the number of the spill, after all of these
abbrev pub spill : Game → ℕ → ℕ
spill g top = g.places * (top + 1)

-- where a move lands that the vessel answers in this way: at its target at the new level, or in the spill
abbrev pub landing : Game → ℕ → ℕ → Option ℕ → ℕ
landing g top p None = spill g top
landing g top p (Some d) = cell top p d

-- the move e at level c
abbrev pub unfold_edge : Game → Hopper → ℕ → Edge → Edge
unfold_edge g v c e = record { target = landing g v.top e.target (v.table c e.amount); amount = pos 0 }

-- the place at level c
abbrev pub unfold_place : Game → Hopper → ℕ → Place → Place
unfold_place g v c q = record { owner = q.owner; moves = map (unfold_edge g v c) q.moves }

-- a place of ours with one move, back to itself
abbrev pub alone : ℕ → Place
alone s = record { owner = Ours; moves = record { target = s; amount = pos 0 } ∷ [] }

-- the places at their levels, then the spill
abbrev pub unfold_at : Game → Hopper → ℕ → Option Place
unfold_at g v s =
    cond (nat_lt s (spill g v.top)) (option_map (unfold_place g v (s % (v.top + 1))) (g.at (s / (v.top + 1))))
    (cond (nat_le s (spill g v.top)) (Some (alone s)) None)

-- the spill and nothing else
abbrev pub only_spill : ℕ → Option Place
only_spill zero = Some (alone 0)
only_spill (suc s) = None

-- the unfolded game: all fills and the spill, or the spill alone where the fills are too many
abbrev pub unfolded : Game → Hopper → Game
unfolded g v =
    cond (nat_le (spill g v.top) most_fills) (record { places = spill g v.top + 1; at = unfold_at g v }) (record { places = 1; at = only_spill })
