-- The published problems over weighted games, in their own terms: strategies, infinite outcomes and accumulated weights.
use Rattle.std.specs.Prelude.{◌≡◌, ℕ, zero, suc, [], ◌∷◌, ℤ, pos, ◌+ℤ◌, ◌≤ℤ◌, Some}
use Rattle.std.specs.Int.{int_min}
use Rattle.game.specs.Game.{Ours, Edge, Place, Game}
use Rattle.game.specs.Play.{Run, Plan, IsMove, Legal}

-- an infinite run from p: its places, the numbers of its moves, and its moves
pub record Infinite (g : Game) (p : ℕ) : Type 0 where
  pub place : ℕ → ℕ
  pub number : ℕ → ℕ
  pub move : ℕ → Edge
  pub starts : place 0 ≡ p
  pub made : (k : ℕ) → IsMove g (place k) (number k) (move k)
  pub goes : (k : ℕ) → place (suc k) ≡ (move k).target

-- the first k numbers
abbrev pub prefix : (ℕ → ℕ) → ℕ → Run
prefix f zero = []
prefix f (suc k) = f 0 ∷ prefix (λ j. f (suc j)) k

-- at each place of ours the run makes the move that the strategy answers to the finite run before it
abbrev pub Outcome : (g : Game) (p : ℕ) → Plan → Infinite g p → Type 0
Outcome g p plan γ =
    (k : ℕ) (q : Place) → g.at (γ.place k) ≡ Some q → q.owner ≡ Ours → γ.number k ≡ plan (prefix γ.number k)

-- what is left of the credit c once the amounts of the first k moves are added one by one, cut at b before the first and after each
abbrev pub weakly : ℤ → ℤ → (ℕ → Edge) → ℕ → ℤ
weakly b c move zero = int_min c b
weakly b c move (suc k) = int_min (weakly b c move k +ℤ (move k).amount) b

-- what is left of the credit c once the amounts of the first k moves are added one by one, cut nowhere
abbrev pub plainly : ℤ → (ℕ → Edge) → ℕ → ℤ
plainly c move zero = c
plainly c move (suc k) = plainly c move k +ℤ (move k).amount

-- some strategy of ours has every infinite outcome from p do what W asks of its moves
abbrev pub Wins : Game → ℕ → ((ℕ → Edge) → Type 0) → Type 0
Wins g p W = (plan : Plan) × Legal g Ours p plan × ((γ : Infinite g p) → Outcome g p plan γ → W γ.move)

-- lower-weak-upper-bound: the weight that is cut at the bound stays at 0 or above
abbrev pub LowerWeakUpperBound : Game → ℕ → ℕ → ℕ → Type 0
LowerWeakUpperBound g b p c = Wins g p (λ move. (k : ℕ) → pos 0 ≤ℤ weakly (pos b) (pos c) move k)

-- interval-bound: the weight stays between 0 and the bound
abbrev pub IntervalBound : Game → ℕ → ℕ → ℕ → Type 0
IntervalBound g b p c = Wins g p (λ move. (k : ℕ) → (pos 0 ≤ℤ plainly (pos c) move k) × (plainly (pos c) move k ≤ℤ pos b))

-- lower-bound: the weight stays at 0 or above
abbrev pub LowerBound : Game → ℕ → ℕ → Type 0
LowerBound g p c = Wins g p (λ move. (k : ℕ) → pos 0 ≤ℤ plainly (pos c) move k)
