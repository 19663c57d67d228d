use Rattle.std.proofs.Common.{◌≡◌, ℕ, ◌+◌, ◌<◌, Bool, true, false, Some, arith, rules}
use Rattle.std.proofs.iter.runs.Sources.{ranges}
use Rattle.std.proofs.lemmas.Bool.{leb-true, and_parts}
use Rattle.std.specs.Option.{MatchOption}
use Rattle.shift.specs.Good.{is_good}
use Rattle.sheet.proofs.Leasts.{search_is_least, comes_to, by_found, least_good_by_marks}
use Rattle.sheet.proofs.closed.least_marked_good.Goals as goal

pub returns-clause-value : goal.returns-clause-value
returns-clause-value c =
    let top = c.args.top in
    let test : ℕ → Bool = is_good top c.args.marks.now c.args.place in
    let run = c.find.ensures.runs in
    let told : MatchOption c.find.result ((k : ℕ) → k < top + 1 → test k ≡ false) (λ m. (test m ≡ true) × ((k : ℕ) → k < m → test k ≡ false)) =
    by_found c.find.result
    (λ none k lt.
    let here : run.0.at k ≡ Some k = comes_to run.0 (search (rules, ranges)) (search (rules, ranges)) k (search (rules, ranges)) in
    search (rules, ranges))
    (λ m is.
    let last : (i : ℕ) × (run.0.len ≡ i + 1) × (run.0.at i ≡ Some m) = search (rules, ranges) in
    let here : run.0.at last.0 ≡ Some last.0 = comes_to run.0 (search (rules, ranges)) (search (rules, ranges)) last.0 (omega (arith, last.1)) in
    let at = last.2 in
    let same : last.0 ≡ m = search (rules, ranges) in (
      search (rules, ranges),
      λ k lt.
          let there : run.0.at k ≡ Some k = comes_to run.0 (search (rules, ranges)) (search (rules, ranges)) k (omega (arith, last.1, same)) in
          search (rules, ranges),
    )) in
    search_is_least test (top + 1) (λ k is. let low = leb-true k top (and_parts _ _ is).0 in omega arith) c.find.result told

pub returns-clause-least : goal.returns-clause-least
returns-clause-least c = least_good_by_marks c.args.top c.args.marks.now c.args.place c.find.result (returns-clause-value c)
