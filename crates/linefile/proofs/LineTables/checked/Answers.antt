use Rattle.std.proofs.Common.{is_ok, sym, refl, ap, arith}
use Rattle.lineformat.proofs.Laws.{passed_size}
use Rattle.linefile.specs.Tabled.{line_in}
use Rattle.linefile.proofs.LineTables.checked.Goals as goal

pub invariant_of-result : goal.invariant_of-result
invariant_of-result c = record { sized = passed_size (line_in c.args.self.now) (ap is_ok (sym c.in_ok-check.ensures)) _ (omega arith) }

pub overflow_add-result-2 : goal.overflow_add-result-2
overflow_add-result-2 c = let s = passed_size (line_in c.args.self.now) (ap is_ok (sym c.in_ok-check.ensures)) _ refl in omega arith

pub overflow_add-result-3 : goal.overflow_add-result-3
overflow_add-result-3 c = let s = passed_size (line_in c.args.self.now) (ap is_ok (sym c.in_ok-check.ensures)) _ refl in omega arith
