-- Needs, and vessels that have them.
use Rattle.std.specs.Prelude.{◌≡◌, ℕ, suc, ◌+◌, ◌-◌, ◌<◌, ◌≤◌, Bool, cond, ℤ, pos, negsuc, Some, None, Option, nat_le, unsigned_abs}
use Rattle.game.specs.Limits.{most_amount}
use Rattle.game.specs.Vessel.{Table, Hopper}

-- from level c the table answers at least the wanted level
abbrev pub Reaches : Table → ℕ → ℤ → ℕ → Type 0
Reaches t wanted a c = (d : ℕ) × (t c a ≡ Some d) × (wanted ≤ d)

-- the level n parts those of which P holds, n and above up to the top, from those of which it does not; None where it holds of none
abbrev pub Parts : ℕ → (ℕ → Type 0) → Option ℕ → Type 0
Parts top P None = (c : ℕ) → ¬ P c
Parts top P (Some n) = (n ≤ top) × ((c : ℕ) → n ≤ c → c ≤ top → P c) × ((c : ℕ) → c < n → ¬ P c)

-- a level or None for each wanted level and amount
abbrev pub Need : Type 0
Need = ℕ → ℤ → Option ℕ

-- the lowest level that is enough, as is any above it up to the top, to reach the wanted level by the amount
abbrev pub IsNeed : Hopper → ℕ → ℤ → Option ℕ → Type 0
IsNeed v wanted a = Parts v.top (Reaches v.table wanted a)

-- need is the need of the hopper: a graded vessel has one
abbrev pub Graded : Hopper → Need → Type 0
Graded v need = (wanted : ℕ) (a : ℤ) → IsNeed v wanted a (need wanted a)

-- the least level that the amount lifts to the wanted one, without a top
abbrev pub less_amount : ℕ → ℤ → ℕ
less_amount wanted (pos k) = wanted - k
less_amount wanted (negsuc k) = wanted + suc k

-- the entry where b is true
abbrev pub some_if : Bool → Option ℕ → Option ℕ
some_if b o = cond b o None

-- the need of the lip
abbrev pub need_lip : ℕ → Need
need_lip top wanted a =
    some_if (nat_le wanted top) (some_if (nat_le (unsigned_abs a) most_amount) (some_if (nat_le (less_amount wanted a) top) (Some (less_amount wanted a))))

-- the need of the drawn vessel: the lip's, for the draw as well
abbrev pub need_drawn : ℕ → ℕ → Need
need_drawn top draw wanted a = need_lip top (wanted + draw) a
