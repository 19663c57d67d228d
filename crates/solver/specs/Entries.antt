-- The numbers in buffers: how they are read, and what is left of a buffer.
use Rattle.std.specs.Prelude.{◌≡◌, ℕ, ◌<◌, ◌≤◌, cond, List, length, Some, None, Option, ◌==◌, slice_index}
use Rattle.game.specs.Fill.{Row}

-- the number that stands for never
abbrev pub never : ℕ
never = 4294967295

-- a number of a buffer read as a mark or as an entry of a row
abbrev pub as_entry : ℕ → Option ℕ
as_entry n = cond (n == never) None (Some n)

-- the entry of a buffer at a number, read as a mark or as an entry of a row
abbrev pub entries : List ℕ → Row
entries buffer k = as_entry (slice_index buffer k)

-- the buffer is as long as it was, and from entry n on it is as it was
pub record KeptFrom (n : ℕ) (old new : List ℕ) : Type 0 where
  pub same_length : length new ≡ length old
  pub same_rest : (k : ℕ) → n ≤ k → slice_index new k ≡ slice_index old k

-- one of the first n entries is this number
abbrev pub HasEntry : ℕ → List ℕ → ℕ → Type 0
HasEntry n buffer x = (k : ℕ) × (k < n) × (entries buffer k ≡ Some x)
