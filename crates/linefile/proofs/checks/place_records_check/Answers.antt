use Rattle.std.proofs.Common.{ℕ, Bool, refl, sym, ap, ◌∙◌, arith, rules, tests}
use Rattle.std.specs.List.{find, range_with_len}
use Rattle.std.proofs.lemmas.Iterator.{YieldsList-from_range}
use Rattle.std.proofs.lemmas.Iterator.Adapters.{option_map_id}
use Rattle.std.proofs.lemmas.Iterator.Search.{find_from_yields_List}
use Rattle.hopper.specs.Faults.{check_at}
use Rattle.hopper.specs.declared.Layer.TheVariants.{Line as OfLine}
use Rattle.hopper.specs.declared.Refusal.TheVariants.{BadPlaceRecord}
use Rattle.lineformat.specs.Format.{place_of, no_place}
use Rattle.lineformat.specs.Checks.{bad_place}
use Rattle.lineformat.proofs.Scan.{found_at}
use Rattle.linefile.proofs.checks.place_records_check.Goals as goal

pub returns : goal.returns
returns g c =
    let l = g.R.Records.line c.args.records.now in
    let n : ℕ = c.place_count.result in
    let bad : ℕ → Bool = λ k. bad_place (place_of l k) in
    c.found.ensures
    ∙ ap (λ o. check_at o BadPlaceRecord OfLine) (sym (option_map_id c.find-first.result)
    ∙ find_from_yields_List bad _ _ c.find-first.result c.find-first.ensures.ran (YieldsList-from_range 0 n n refl (omega arith)) (λ x b q k. search (rules, tests))
    ∙ ap (λ m. find bad (range_with_len 0 m)) c.place_count.ensures
    ∙ found_at bad_place l.places no_place)
