use Rattle.std.proofs.Common.{ℕ, Bool, length, refl, sym, ap, ◌∙◌, arith, rules, tests}
use Rattle.std.specs.List.{find, range_with_len}
use Rattle.std.proofs.lemmas.Iterator.{YieldsList-from_range}
use Rattle.std.proofs.lemmas.Iterator.Adapters.{option_map_id}
use Rattle.std.proofs.lemmas.Iterator.Search.{find_from_yields_List}
use Rattle.hopper.specs.Faults.{check_at}
use Rattle.hopper.specs.declared.Layer.TheVariants.{Line as OfLine}
use Rattle.hopper.specs.declared.Refusal.TheVariants.{BadMoveRecord}
use Rattle.lineformat.specs.Format.{move_of, no_move}
use Rattle.lineformat.specs.Checks.{bad_move}
use Rattle.lineformat.proofs.Scan.{found_at}
use Rattle.linefile.proofs.checks.move_records_check.Goals as goal

pub returns : goal.returns
returns g c =
    let l = g.R.Records.line c.args.records.now in
    let n : ℕ = c.move_count.result in
    let bad : ℕ → Bool = λ k. (bad_move (length l.places)) (move_of l k) in
    c.found.ensures
    ∙ ap (λ o. check_at o BadMoveRecord OfLine) (sym (option_map_id c.find-first.result)
    ∙ find_from_yields_List bad _ _ c.find-first.result c.find-first.ensures.ran (YieldsList-from_range 0 n n refl (omega arith)) (λ x b q k. search (rules, tests))
    ∙ ap (λ m. find bad (range_with_len 0 m)) c.move_count.ensures
    ∙ found_at (bad_move (length l.places)) l.moves no_move)
