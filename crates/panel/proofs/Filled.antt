-- Rows that are filled one by one.
use Rattle.std.proofs.Common.{◌≡◌, ℕ, ◌+◌, ◌-◌, ◌<◌, ◌≤◌, List, ◌++◌, length, take, drop, slice_set, get_or, get_or-set_other, get_or-set_same, below_more, sym, ap, ◌∙◌, subst, arith}
use Rattle.std.proofs.lemmas.List.{length-set, length-take-le, get_or-append_right, get_or_append_left, get_or-drop}
use Rattle.std.proofs.Math.Seq.{length_front}
use Rattle.panel.specs.declared.sheets.RowNumbers.{RowNumbers}
use Rattle.panel.specs.Sheets.{no_row, RowsFilled}

module _ (P : ℕ → RowNumbers → Type 0) where
  -- one more row is filled
  pub one_more : (n : ℕ) (old items : List RowNumbers) (row : RowNumbers) → n < length items → RowsFilled n P old items → P n row
      → RowsFilled (n + 1) P old (slice_set items n row)
  one_more n old items row room filled is = record {
    same_length = length-set items n row ∙ filled.same_length;
    front = below_more (λ (k : ℕ). P k (get_or (slice_set items n row) k no_row)) n
        (λ k lt. subst (λ (x : RowNumbers). P k x) (sym (get_or-set_other items n k row no_row (omega arith))) (filled.front k lt))
        (subst (λ (x : RowNumbers). P n x) (sym (get_or-set_same items n row no_row room)) is);
    rest = λ k le. get_or-set_other items n k row no_row (omega arith) ∙ filled.rest k (omega arith);
  }

  -- the first n rows of a slice are filled
  pub front_filled : (n m : ℕ) (old items : List RowNumbers) → m ≡ n → n ≤ length old → RowsFilled n P (take m old) items
      → RowsFilled n P old (items ++ drop m old)
  front_filled n m old items same room filled =
      let long : length items ≡ m = filled.same_length ∙ length-take-le m old (omega (arith, same)) in
      record {
        same_length = length_front old items m filled.same_length;
        front = λ p lt.
            subst (λ (x : RowNumbers). P p x) (sym (get_or_append_left items (drop m old) no_row p (omega (arith, long, same)))) (filled.front p lt);
        rest = λ k le.
            get_or-append_right items (drop m old) m k no_row long (omega (arith, same))
            ∙ (get_or-drop m old (k - m) no_row ∙ ap (λ (i : ℕ). get_or old i no_row) (omega (arith, same)));
      }
