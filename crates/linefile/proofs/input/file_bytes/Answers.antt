use Rattle.std.proofs.Common.{◌≡◌, ℕ, ◌+◌, List, [], ◌++◌, take, None, Some, Option, ap, ◌∙◌, subst, arith, rules}
use Rattle.std.specs.Option.{IfSome, option_map}
use Rattle.std.proofs.lemmas.List.{take-take}
use Rattle.lineformat.specs.Limits.{longest_file}
use Rattle.linefile.proofs.input.file_bytes.Goals as goal

-- the first n of known bytes, appended to nothing
known : (o : Option (List ℕ)) (n : ℕ) (old new kept : List ℕ) → old ≡ [] → IfSome (option_map (take n) o) (λ xs. new ≡ old ++ xs) → kept ≡ take n new → IfSome o (λ bs. kept ≡ take n bs)
known None n old new kept z e k = search rules
known (Some bs) n old new kept z e k = k ∙ ap (take n) (e ∙ ap (λ o. o ++ take n bs) z) ∙ take-take n n bs (omega arith)

pub returns-clause-bytes : goal.returns-clause-bytes
returns-clause-bytes g c =
    let R = g.R.Read.remaining in
    let t = c.take.result in
    let new = c.read_to_end.new.buf.items in
    let old = c.new-file.result.items in
    let e = subst (λ (n : ℕ). IfSome (option_map (take n) (R t.inner)) (λ xs. new ≡ old ++ xs)) c.take.ensures.limit c.in_ok-read_to_end.ensures.bytes in
    let f = ap R c.take.ensures.inner in
    known (R c.args.input) (longest_file + 1) old new c.truncate.new.self.items c.new-file.ensures.items
    (subst (λ (o : Option (List ℕ)). IfSome (option_map (take (longest_file + 1)) o) (λ xs. new ≡ old ++ xs)) f e) c.truncate.ensures.items
