use Rattle.std.proofs.Common.{◌≡◌, ℕ, subst}
use Rattle.hopper.specs.Any.{any_hopper}
use Rattle.sheet.specs.Fills.{LeastMarkedGood, LeastGoodByMarks}
use Rattle.panel.proofs.sheets.ordered_row.Goals as goal

pub returns : goal.returns
returns c =
    let fill = c.least_marked_good-fill.result in
    let top : c.top.result ≡ (any_hopper c.args.vessel.now).top = c.top.ensures in (
      fill,
      c.move_at-mv.result,
      subst (λ (n : ℕ). LeastMarkedGood n c.args.marks.now c.args.place fill) top c.least_marked_good-fill.ensures.value,
      subst (λ (n : ℕ). LeastGoodByMarks n c.args.marks.now c.args.place fill) top c.least_marked_good-fill.ensures.least,
      c.move_at-mv.ensures,
      c.row_of.ensures,
    )
