use Rattle.std.proofs.Common.{◌≡◌, is_ok, sym, ap, ◌∙◌}
use Rattle.hopper.specs.Refusing.{verdict}
use Rattle.hopper.proofs.Refusing.{first_refuses, second_decides, handed_on}
use Rattle.lineformat.specs.declared.Numbers.{Numbers}
use Rattle.lineformat.specs.declared.Spots.{Spots}
use Rattle.lineformat.specs.Format.{Line, numbers_of}
use Rattle.lineformat.specs.Checks.{number_checks, record_checks, spots_of, line_checks}
use Rattle.lineformat.proofs.Sound.{numbers_sound}
use Rattle.linefile.specs.Tabled.{line_in}
use Rattle.linefile.proofs.LineTables.check.Goals as goal

-- the checks of a line's numbers, as they were made of numbers and spots equal to its own
own : (l : Line) (n : Numbers) (s : Spots) → n ≡ numbers_of l → s ≡ spots_of n → verdict (number_checks n s) ≡ verdict (number_checks (numbers_of l) (spots_of (numbers_of l)))
own l n s e f = ap (λ x. verdict (number_checks n x)) f ∙ ap (λ x. verdict (number_checks x (spots_of x))) e

pub returns-in_err-check_numbers : goal.returns-in_err-check_numbers
unfolding line_checks
returns-in_err-check_numbers c =
    let l = line_in c.args.self.now in
    handed_on c.from_residual.result c.in_err-check_numbers.field-0.0 c.from_residual.ensures.1
    ∙ first_refuses (number_checks (numbers_of l) (spots_of (numbers_of l))) (record_checks l) tt c.in_err-check_numbers.field-0.0
    (c.in_err-check_numbers.ensures ∙ own l c.numbers-n.result c.spots_of.result c.numbers-n.ensures c.spots_of.ensures)

pub check_records-requires : goal.check_records-requires
check_records-requires c =
    let l = line_in c.args.self.now in
    (numbers_sound (numbers_of l) (spots_of (numbers_of l)) (ap is_ok (sym (c.in_ok-check_numbers.ensures ∙ own l c.numbers-n.result c.spots_of.result c.numbers-n.ensures c.spots_of.ensures)))).few_places.1

pub returns : goal.returns
unfolding line_checks
returns c =
    let l = line_in c.args.self.now in
    c.check_records.ensures
    ∙ second_decides (number_checks (numbers_of l) (spots_of (numbers_of l))) (record_checks l) tt tt
    (c.in_ok-check_numbers.ensures ∙ own l c.numbers-n.result c.spots_of.result c.numbers-n.ensures c.spots_of.ensures)
