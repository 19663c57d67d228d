use Rattle.std.proofs.Common.{◌<◌, length, ap, ◌∙◌, arith, get_or-set_other, get_or-set_same, below_more}
use Rattle.solver.specs.Entries.{as_entry}
use Rattle.solver.proofs.rows.next_row.Goals as goal

pub loop-place-preserved : goal.loop-place-preserved
loop-place-preserved g c =
    let items = c.loop-place.entry-items in
    let n = c.loop-place.place in
    let room : n < length items = omega arith in
    let inv = c.loop-place.invariant in
    record {
      front = below_more _ n (λ k h. ap as_entry (get_or-set_other items n k c.next_entry.result 0 (omega arith)) ∙ inv.front k h) (ap as_entry (get_or-set_same items n c.next_entry.result 0 room) ∙ c.next_entry.ensures);
      rest = λ k h. get_or-set_other items n k c.next_entry.result 0 (omega arith) ∙ inv.rest k (omega arith);
    }
