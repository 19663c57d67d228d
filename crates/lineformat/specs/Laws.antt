-- The laws of the line file: what is accepted is what the writer makes, and what is written reads back.
use Rattle.std.specs.Prelude.{◌≡◌, ℕ, ◌≤◌, true, List, length}
use Rattle.hopper.specs.Refusing.{passes}
use Rattle.lineformat.specs.Format.{Line, encode, line_of}
use Rattle.lineformat.specs.WellFormed.{WellFormedLine}
use Rattle.lineformat.specs.Checks.{accepts, write_checks}

-- a file is accepted exactly if it is the file of a well-formed line, and that is the line it is read as
pub record AcceptsJustTheWritten (bs : List ℕ) : Type 0 where
  pub read_is_written : accepts bs ≡ true → WellFormedLine (line_of bs) × (encode (line_of bs) ≡ bs)
  pub written_is_read : (l : Line) → WellFormedLine l → encode l ≡ bs → (accepts bs ≡ true) × (line_of bs ≡ l)

-- a line is written exactly if it is well formed and there is room, and its file is accepted and read as that line
pub record WritesJustTheWellFormed (l : Line) (room : ℕ) : Type 0 where
  pub written_is_formed : passes (write_checks l room) ≡ true → WellFormedLine l × (length (encode l) ≤ room)
  pub formed_is_written : WellFormedLine l → length (encode l) ≤ room → passes (write_checks l room) ≡ true
  pub reads_back : WellFormedLine l → (accepts (encode l) ≡ true) × (line_of (encode l) ≡ l)
