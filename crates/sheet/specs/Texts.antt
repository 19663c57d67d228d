-- The text of one row of a plan sheet.
use Rattle.std.specs.Prelude.{ℕ, List, ◌++◌, Some, None, codes, decimal, Option}
use Rattle.game.specs.Owners.{owner_text}
use Rattle.sheet.specs.declared.SheetRow.{SheetRow}

-- the text of a number, or a word where there is none
abbrev pub number_or : Option ℕ → List ℕ → List ℕ
number_or None word = word
number_or (Some n) word = decimal n

-- the text of a row: place, owner, least good fill, its height, our move and the name, parted by single blanks, also before an empty name
abbrev pub row_text : SheetRow → List ℕ
row_text r =
    decimal r.place ++ (codes " " ++ (owner_text r.owner ++ (codes " " ++ (number_or r.fill (codes "none") ++ (codes " "
    ++ (number_or r.height (codes "-") ++ (codes " " ++ (number_or r.mv (codes "-") ++ (codes " " ++ r.name.now)))))))))
