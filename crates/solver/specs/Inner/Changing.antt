-- Lists of places: those where one row differs from the next, and those whose entries are made again.
use Rattle.std.specs.Prelude.{◌≡◌, ℕ, ◌<◌, ◌≤◌, Bool, true, false, List, length, slice_index, slice_index_or}

-- the number is one of the first n of the list
pub record Listed (list : List ℕ) (n p : ℕ) : Type 0 where
  pub index : ℕ
  pub below : index < n
  pub is : slice_index list index ≡ p

-- the place has a flag
abbrev pub Flagged : List Bool → ℕ → Type 0
Flagged flags p = slice_index_or flags p false ≡ true

-- the first n of the list are places, and each place with a flag is one of them
pub record IsWorklist (list : List ℕ) (n : ℕ) (flags : List Bool) : Type 0 where
  pub room : n ≤ length list
  pub inside : (i : ℕ) → i < n → slice_index list i < length flags
  pub listed : (p : ℕ) → Flagged flags p → Listed list n p

-- each place with a flag has one still
abbrev pub KeepsFlags : List Bool → List Bool → Type 0
KeepsFlags old new = (p : ℕ) → Flagged old p → Flagged new p

-- the first n of the list are the places below the count at which the rows differ
pub record ListsChanges (places : ℕ) (row next list : List ℕ) (n : ℕ) : Type 0 where
  pub room : n ≤ length list
  pub inside : (i : ℕ) → i < n → slice_index list i < places
  pub differ : (i : ℕ) → i < n → ¬ (slice_index next (slice_index list i) ≡ slice_index row (slice_index list i))
  pub all : (p : ℕ) → p < places → ¬ (slice_index next p ≡ slice_index row p) → Listed list n p
