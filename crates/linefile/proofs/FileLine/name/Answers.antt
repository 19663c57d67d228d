use Rattle.std.proofs.Common.{◌≡◌, Some, sym, ap, rules}
use Rattle.std.specs.List.{slice_get}
use Rattle.std.proofs.lemmas.Option.{slice_get_within, get_or_from_slice_get}
use Rattle.lineformat.specs.declared.PlaceRecord.{PlaceRecord}
use Rattle.lineformat.specs.Format.{line_of, no_place}
use Rattle.lineformat.proofs.Sound.{name_in}
use Rattle.lineformat.proofs.Spelt.{is_ok_text}
use Rattle.linefile.proofs.FileLine.name.Goals as goal

-- the bytes of a name are text
pub unwrap-text-requires : goal.unwrap-text-requires
unwrap-text-requires c =
    let bs = c.args.self.now.file.bytes.now in
    let ps = (line_of bs).places in
    let r = c.in_ok-place.place in
    let e : slice_get ps c.args.p ≡ Some r = search rules in
    let n = name_in bs c.args.self.now.formed c.args.p c.letters_before-offset.result r.letters (slice_get_within ps c.args.p r e) c.letters_before-offset.ensures
    (sym (ap (λ (x : PlaceRecord). x.letters) (get_or_from_slice_get ps c.args.p r no_place e))) in
    is_ok_text _ n.is_text c.from_utf8.result c.from_utf8.ensures.cases
