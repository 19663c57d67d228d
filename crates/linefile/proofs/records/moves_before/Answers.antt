use Rattle.std.proofs.Common.{ℕ, ◌∙◌, arith, rules, tests}
use Rattle.std.specs.List.{range_with_len}
use Rattle.std.proofs.lemmas.Iterator.{YieldsList-from_range, YieldsList-from_map}
use Rattle.std.proofs.lemmas.Iterator.Consumers.{sum_by_from_yields_List}
use Rattle.std.proofs.lemmas.Iterator.Adapters.{at_most_from_yields_List, fits_from_length}
use Rattle.std.proofs.lemmas.List.FromFn.{length-range_with_len}
use Rattle.lineformat.specs.declared.PlaceRecord.{PlaceRecord}
use Rattle.lineformat.specs.Format.{place_of, no_place}
use Rattle.lineformat.specs.Limits.{most_places}
use Rattle.lineformat.proofs.Scan.{sum_range}
use Rattle.linefile.proofs.records.moves_before.Goals as goal

pub sum-requires-clause-fits : goal.sum-requires-clause-fits
sum-requires-clause-fits g c =
    fits_from_length _ _ most_places _
    (at_most_from_yields_List (YieldsList-from_range 0 c.args.n c.args.n c.map.ensures.source (omega arith)) (let e = length-range_with_len 0 c.args.n in let h = c.requires.few in omega arith))
    c.map.ensures.closure (omega arith) (λ x r q k. (search (rules, tests), search (rules, tests)))

pub returns : goal.returns
returns g c =
    let l = g.R.Records.line c.args.records.now in
    let f : ℕ → ℕ = λ p. (place_of l p).moves in
    sum_by_from_yields_List f (range_with_len 0 c.args.n) c.map.result c.sum.result c.sum.ensures.ran
    (YieldsList-from_map _ f (YieldsList-from_range 0 c.args.n c.args.n c.map.ensures.source (omega arith)) c.map.ensures.closure (λ x r q k. search (rules, tests)))
    ∙ sum_range (λ (p : PlaceRecord). p.moves) l.places no_place c.args.n c.requires.there
