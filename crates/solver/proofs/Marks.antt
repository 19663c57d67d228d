-- The forced marks of the unfolded board are the marks of the fills, and what those tell.
use Rattle.std.proofs.Common.{◌≡◌, ℕ, zero, suc, ◌+◌, ◌*◌, ◌<◌, ◌≤◌, ◌↔◌, List, get_or, pos, Some, None, Option, sym, refl, ap, ◌∙◌, subst, inl, inr, arith}
use native.Mathlib.Decide.{dec_le, ℕ_discrete}
use Rattle.std.proofs.lemmas.Int.{ints}
use Rattle.std.proofs.Math.Nat.{mul-pos}
use Rattle.game.specs.Game.{Game, WellFormed}
use Rattle.game.specs.Limits.{most_fills}
use Rattle.game.specs.Vessel.{Table, Hopper, Keeps, lip, closed}
use Rattle.game.specs.Fill.{Good, IsMark}
use Rattle.game.specs.Forced.{IsForced, cell, spill, unfolded}
use Rattle.game.specs.Play.{ExactlyForced, OtherSideForces}
use Rattle.game.specs.Published.{LowerWeakUpperBound, IntervalBound}
use Rattle.game.proofs.Base.{some_inj, stable}
use Rattle.game.proofs.Decided.{mark_is_exactly_forced, each_fill_has_mark}
use Rattle.game.proofs.Levels.{mark_above}
use Rattle.game.proofs.Pour.{lip_make, closed_make}
use Rattle.game.proofs.Rows.{unique}
use Rattle.game.proofs.Unfold.{spill_is_forced_by_mark}
use Rattle.game.proofs.Weights.{lip_is_lower_weak_upper_bound, closed_is_interval_bound}
use Rattle.solver.specs.Entries.{never, as_entry, entries}
use Rattle.solver.specs.Forcing.{ForcedMarks}
use Rattle.solver.specs.Marking.{FillMarks, GoodWhereNever, MarksTell, FillsTell}
use Rattle.solver.proofs.Entries.{entry_back, entry_number}
use Rattle.solver.proofs.Unfolds.{places_are, small_spill, number_of}

-- the target is marked 0
at_target : (g : Game) (t n : ℕ) → IsForced g t t (as_entry n) → n ≡ 0
at_target g t n f = go (as_entry n) refl f
  where
    go : (o : Option ℕ) → as_entry n ≡ o → IsForced g t t o → n ≡ 0
    go None e f = absurd (f 0 refl)
    go (Some zero) e f = (entry_back n 0 e).0
    go (Some (suc k)) e f = absurd (f.1 0 (omega arith) refl)

-- a level of a lip, or of a closed vessel, is no higher than the top
module _ (v : Hopper) (keeps : Keeps v) (b : ℕ) where
  below_top : v.table b (pos 0) ≡ Some b → (c : ℕ) → c ≤ b → c ≤ v.top
  below_top same c le = let high = keeps.within b (pos 0) b same in omega arith

  pub lip_below_top : v.table ≡ (lip b).table → (c : ℕ) → c ≤ b → c ≤ v.top
  lip_below_top is = below_top
      (ap (λ (u : Table). u b (pos 0)) is ∙ (lip_make b b (pos 0) b (omega arith) (omega arith) (omega (arith, ints)) ∙ ap Some (omega arith)))

  closed_below_top : v.table ≡ (closed b).table → (c : ℕ) → c ≤ b → c ≤ v.top
  closed_below_top is = below_top
      (ap (λ (u : Table). u b (pos 0)) is ∙ closed_make b b (pos 0) b (omega arith) (omega arith) (omega (arith, ints)) (omega arith))

chain : {A B C : Type 0} → (A ↔ B) → (B ↔ C) → A ↔ C
chain f h = (λ a. h.0 (f.0 a), λ c. f.1 (h.1 c))

module _ (g : Game) (wf : WellFormed g) (v : Hopper) (keeps : Keeps v) where
  pub fills_tell : FillsTell g v
  fills_tell = record { unique = unique.mark g v.table; above = above; each = each }
    where
      above : (p c : ℕ) → p < g.places → v.top < c → IsMark g v.table p c (Some 1) × OtherSideForces g v.table 1 p c
      above p c lt over = let m = mark_above g wf v keeps.above p c over in (m, (mark_is_exactly_forced g wf v keeps p c lt (Some 1) m).0)

      some_fill : (p : ℕ) → p < g.places → zero < g.places * (v.top + 1)
      some_fill p lt = mul-pos (omega arith) (omega arith)

      each : (p c : ℕ) → p < g.places
          → (o : Option ℕ) × IsMark g v.table p c o × ExactlyForced g v.table p c o × ((n : ℕ) → o ≡ Some n → n ≤ g.places * (v.top + 1))
      each p c lt = elim (dec_le c v.top) [
        | yes le ↦ (let w = each_fill_has_mark g wf v keeps p c lt le in (w.0, w.1, mark_is_exactly_forced g wf v keeps p c lt w.0 w.1, w.2))
        | no n ↦ (let m = mark_above g wf v keeps.above p c (omega arith) in
            (Some 1, m, mark_is_exactly_forced g wf v keeps p c lt (Some 1) m, λ n e. omega (arith, some_inj e, some_fill p lt)))
      ]

  module _ (small : spill g v.top ≤ most_fills) (old new : List ℕ) where
    places : (unfolded g v).places ≡ spill g v.top + 1
    places = places_are g v ∙ ap (λ n. n + 1) (small_spill g v small)

    pub fill_marks : (rounds : ℕ) → ForcedMarks (unfolded g v) (spill g v.top) old new rounds → FillMarks g v old new rounds
    fill_marks rounds s =
        let n = places in
        record {
          exact = λ p c lt le.
              ((spill_is_forced_by_mark g wf v keeps small p c lt le).1 (entries new (cell v.top p c))).0
              (s.exact (cell v.top p c) (let k = number_of g v p c lt le in omega arith));
          spilt = at_target (unfolded g v) (spill g v.top) (get_or new (spill g v.top) 0) (s.exact (spill g v.top) (omega arith));
          kept = record { same_length = s.kept.same_length; same_rest = λ k h. s.kept.same_rest k (omega arith) };
          largest = record {
            attained = (s.largest.attained.0, (let k = s.largest.attained.1 in omega arith), s.largest.attained.2);
            most = λ x h. s.largest.most x (h.0, (let k = h.1 in omega arith), h.2);
          };
        }

  module _ (old new : List ℕ) (rounds : ℕ) (a : FillMarks g v old new rounds) where
    pub never_good : GoodWhereNever g v new
    never_good p c lt le = at (get_or new (cell v.top p c) 0) (a.exact p c lt le)
      where
        at : (n : ℕ) → IsMark g v.table p c (as_entry n) → (n ≡ never) ↔ Good g v.table p c
        at n m = (λ is. subst (IsMark g v.table p c) (ap as_entry is) m, λ good. stable (ℕ_discrete n never) (λ other. other_bad other good))
          where
            other_bad : ¬ (n ≡ never) → Good g v.table p c → ⊥
            other_bad other good = (subst (IsMark g v.table p c) (entry_number n other) m).0 (good n)

    at_most : (p c n : ℕ) → p < g.places → c ≤ v.top → entries new (cell v.top p c) ≡ Some n → n ≤ rounds
    at_most p c n lt le e = a.largest.most n (cell v.top p c, (let below = number_of g v p c lt le in omega arith), e)

    pub bad_forced : (p c : ℕ) → p < g.places → ¬ Good g v.table p c
        → (n : ℕ) × IsMark g v.table p c (Some n) × OtherSideForces g v.table n p c × (c ≤ v.top → n ≤ rounds)
    bad_forced p c lt bad = elim (dec_le c v.top) [
      | yes le ↦ go le (entries new (cell v.top p c)) refl
      | no n ↦ (let m = fills_tell.above p c lt (omega arith) in (1, m.0, m.1, λ le. absurd (n le)))
    ]
      where
        go : c ≤ v.top → (o : Option ℕ) → entries new (cell v.top p c) ≡ o
            → (n : ℕ) × IsMark g v.table p c (Some n) × OtherSideForces g v.table n p c × (c ≤ v.top → n ≤ rounds)
        go le None e = absurd (bad (subst (IsMark g v.table p c) e (a.exact p c lt le)))
        go le (Some n) e =
            let m : IsMark g v.table p c (Some n) = subst (IsMark g v.table p c) e (a.exact p c lt le) in
            (n, m, (mark_is_exactly_forced g wf v keeps p c lt (Some n) m).0, λ le. at_most p c n lt le e)

    pub marks_tell : ForcedMarks (unfolded g v) (spill g v.top) old new rounds → MarksTell g v old new rounds
    marks_tell forced = record {
      forced = forced;
      exactly = λ p c lt le. mark_is_exactly_forced g wf v keeps p c lt (entries new (cell v.top p c)) (a.exact p c lt le);
      good = never_good;
      bounded = λ p c lt le.
          let n = get_or new (cell v.top p c) 0 in
          elim (ℕ_discrete n never) [ yes e ↦ inl e | no other ↦ inr (at_most p c n lt le (entry_number n other)) ];
      bad = bad_forced;
      over_lip = λ b is p c lt le.
          let low = lip_below_top v keeps b is c le in
          chain (never_good p c lt low)
          (subst (λ (u : Table). Good g u p c ↔ LowerWeakUpperBound g b p c) (sym is) (lip_is_lower_weak_upper_bound g wf b p c lt le));
      over_closed = λ b is p c lt le.
          let low = closed_below_top v keeps b is c le in
          chain (never_good p c lt low)
          (subst (λ (u : Table). Good g u p c ↔ IntervalBound g b p c) (sym is) (closed_is_interval_bound g wf b p c lt le));
    }
