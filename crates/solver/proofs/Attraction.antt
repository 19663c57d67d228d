-- The marks before, between and after the rounds.
use Rattle.std.proofs.Common.{◌≡◌, ℕ, suc, ◌+◌, ◌<◌, ◌≤◌, Bool, true, false, cond, eqb, ◌⊎◌, List, ◌++◌, length, length-append, get_or, set, drop, replicate, Some, sym, refl, ap, ◌∙◌, inl, inr, arith, get_or-set_other, get_or-set_same}
use Rattle.std.proofs.lemmas.List.{length-replicate}
use native.Mathlib.Decide.{ℕ_discrete}
use Rattle.std.proofs.lemmas.Bool.{false≢true}
use Rattle.std.proofs.lemmas.Bool.Decides.{nat_tests}
use Rattle.game.specs.Game.{Game, WellFormed}
use Rattle.game.specs.Fill.{IsLeast}
use Rattle.game.specs.Forced.{ForcesInto, Forces, IsForced}
use Rattle.game.proofs.Forced.{into_map, forces_longer, forced_settles}
use Rattle.game.proofs.Sums.{sum_below, sum_const, sum_lt}
use Rattle.solver.specs.Entries.{never, as_entry, entries, KeptFrom}
use Rattle.solver.specs.Inner.Marks.{MarkedBelow, RoundDone}
use Rattle.solver.specs.Forcing.{ForcedMarks}
use Rattle.solver.proofs.Entries.{entry_small, entry_back, past_front, filled_front}

-- 1 where the number is never
abbrev one_if : ℕ → ℕ
one_if n = cond (eqb n never) 1 0

-- how many of the first n entries are never
abbrev pub nevers : List ℕ → ℕ → ℕ
nevers marks n = sum_below n (λ k. one_if (get_or marks k 0))

-- what an entry says after i rounds: the forced mark, up to i, or never
abbrev pub Sofar : Game → ℕ → ℕ → ℕ → ℕ → Type 0
Sofar g t i p n = ((n ≤ i) × IsLeast (λ j. Forces g t j p) (Some n)) ⊎ ((n ≡ never) × ¬ Forces g t i p)

-- after i rounds
pub record AfterRounds (g : Game) (t : ℕ) (old marks : List ℕ) (i : ℕ) : Type 0 where
  pub exact : (k : ℕ) → k < g.places → Sofar g t i k (get_or marks k 0)
  pub rest : (k : ℕ) → g.places ≤ k → get_or marks k 0 ≡ get_or old k 0
  pub reached : (k : ℕ) × (k < g.places) × (get_or marks k 0 ≡ i)
  pub left : i + nevers marks g.places ≤ g.places

module _ (g : Game) (w : WellFormed g) (t : ℕ) (inside : t < g.places) (old : List ℕ) where
  -- never everywhere but at the target
  pub started : (rest : List ℕ) → old ≡ set (replicate g.places never ++ rest) t 0 → AfterRounds g t old old 0
  started rest is = record {
    exact = λ k l. elim (ℕ_discrete k t) [ yes e ↦ rw (at_target k e) (inl (omega arith, (e, λ j lt r. absurd (omega arith)))) | no ne ↦ inr (other k l ne, ne) ];
    rest = λ k l. refl;
    reached = (t, inside, at_target t refl);
    left = (let h = sum_const g.places 1 (λ k. one_if (get_or old k 0)) (λ k l. grind (arith, nat_tests)) in omega arith);
  }
    where
      at_target : (k : ℕ) → k ≡ t → get_or old k 0 ≡ 0
      at_target k e = rw (e, is) (get_or-set_same (replicate g.places never ++ rest) t 0 0 (omega (arith, length-append (replicate g.places never) rest, length-replicate g.places never)))

      other : (k : ℕ) → k < g.places → ¬ (k ≡ t) → get_or old k 0 ≡ never
      other k l ne = rw (is, get_or-set_other (replicate g.places never ++ rest) t k 0 0 ne) (filled_front g.places k never rest l)

  pub started_rest : (orig : List ℕ) → old ≡ set (replicate g.places never ++ drop g.places orig) t 0 → (k : ℕ) → g.places ≤ k → get_or old k 0 ≡ get_or orig k 0
  started_rest orig is k l =
      rw (is, get_or-set_other (replicate g.places never ++ drop g.places orig) t k 0 0 (omega arith))
      (past_front g.places k (replicate g.places never) orig (length-replicate g.places never) l)

  module _ (marks new : List ℕ) (i : ℕ) (s : AfterRounds g t old marks i) where
    small : i < never
    small = let a = s.left in let b = w.few_places in omega arith

    to_reaches : (q : ℕ) → q < g.places → MarkedBelow marks (suc i) q → Forces g t i q
    to_reaches q l m = elim (s.exact q l) [ inl a ↦ forces_longer g w t (get_or marks q 0) i q a.0 a.1.0 | inr b ↦ absurd (let e = b.0 in let z = small in omega arith) ]

    to_marked : (q : ℕ) → q < g.places → Forces g t i q → MarkedBelow marks (suc i) q
    to_marked q l r = elim (s.exact q l) [ inl a ↦ (let e = a.0 in omega arith) | inr b ↦ absurd (b.1 r) ]

    not_yet : (k : ℕ) → k < g.places → (Forces g t i k → ⊥) → (ForcesInto g (MarkedBelow marks (suc i)) k → ⊥) → Forces g t (suc i) k → ⊥
    not_yet k l never' none r = elim r [
      | inl e ↦ never' (forces_longer g w t 0 i k (omega arith) e)
      | inr n ↦ none (into_map g w (Forces g t i) (MarkedBelow marks (suc i)) to_marked k n)
    ]

    before : (fresh : Bool) → RoundDone g g.places marks new (suc i) fresh → (k : ℕ) → k < g.places → get_or new k 0 ≡ never → get_or marks k 0 ≡ never
    before fresh u k l e = elim (s.exact k l) [ inl a ↦ (let h = a.0 in let z = small in let e' = u.kept k l (omega arith) in omega arith) | inr b ↦ b.0 ]

    -- what is behind the places is as it was before the rounds
    pub rounds_kept : (orig : List ℕ) → ((k : ℕ) → g.places ≤ k → get_or old k 0 ≡ get_or orig k 0) → KeptFrom g.places marks new → length new ≡ length orig → KeptFrom g.places orig new
    rounds_kept orig rest k size = record { same_length = size; same_rest = λ j l. k.same_rest j l ∙ (s.rest j l ∙ rest j l) }

    pub gone_on : RoundDone g g.places marks new (suc i) true → AfterRounds g t old new (suc i)
    gone_on u = record {
      exact = λ k l. elim (s.exact k l) [ inl a ↦ kept k l a.0 a.1 | inr b ↦ elim (u.marked k l b.0) [ inl f ↦ first k l b.1 f.0 f.1 | inr n ↦ inr (n.0, not_yet k l b.1 n.1) ] ];
      rest = λ k l. u.rest k l ∙ s.rest k l;
      reached = ((u.news.0 refl).0, (u.news.0 refl).1, (u.news.0 refl).3);
      left = (let e = (u.news.0 refl).3 in let z = s.left in let y = w.few_places in
          let h = sum_lt g.places (λ k. one_if (get_or new k 0)) (λ k. one_if (get_or marks k 0)) (λ k l. fewer k l) (u.news.0 refl).0 (u.news.0 refl).1 one in omega arith);
    }
      where
        fewer : (k : ℕ) → k < g.places → one_if (get_or new k 0) ≤ one_if (get_or marks k 0)
        fewer k l = let h : get_or new k 0 ≡ never → get_or marks k 0 ≡ never = before true u k l in grind (arith, nat_tests)

        one : one_if (get_or new (u.news.0 refl).0 0) < one_if (get_or marks (u.news.0 refl).0 0)
        one = let a = (u.news.0 refl).2 in let b = (u.news.0 refl).3 in let z = s.left in let y = w.few_places in grind (arith, nat_tests)

        kept : (k : ℕ) → k < g.places → get_or marks k 0 ≤ i → IsLeast (λ j. Forces g t j k) (Some (get_or marks k 0)) → Sofar g t (suc i) k (get_or new k 0)
        kept k l le least = let z = small in let e = u.kept k l (omega arith) in rw e (inl (omega arith, least))

        first : (k : ℕ) → k < g.places → (Forces g t i k → ⊥) → get_or new k 0 ≡ suc i → ForcesInto g (MarkedBelow marks (suc i)) k → Sofar g t (suc i) k (get_or new k 0)
        first k l not e n = rw e (inl (
          omega arith,
          (
            inr (into_map g w (MarkedBelow marks (suc i)) (Forces g t i) to_reaches k n),
            λ j lt r. not (forces_longer g w t j i k (omega arith) r),
          ),
        ))

    module _ (u : RoundDone g g.places marks new (suc i) false) where
      same : (k : ℕ) → k < g.places → get_or new k 0 ≡ get_or marks k 0
      same k l = elim (s.exact k l) [
        | inl a ↦ (let h = a.0 in let z = small in u.kept k l (omega arith))
        | inr b ↦ elim (u.marked k l b.0) [ inl f ↦ absurd (false≢true (u.news.1 (k, l, b.0, f.0))) | inr n ↦ n.0 ∙ sym b.0 ]
      ]

      settled : (k : ℕ) → k < g.places → Forces g t (suc i) k → Forces g t i k
      settled k l r = elim (s.exact k l) [
        | inl a ↦ forces_longer g w t (get_or marks k 0) i k a.0 a.1.0
        | inr b ↦ elim (u.marked k l b.0) [ inl f ↦ absurd (false≢true (u.news.1 (k, l, b.0, f.0))) | inr n ↦ absurd (not_yet k l b.1 n.1 r) ]
      ]

      stable : (j k : ℕ) → k < g.places → Forces g t j k → Forces g t i k
      stable j k l r = forced_settles g w t i settled j k l r

      entry : (k : ℕ) → k < g.places → IsForced g t k (entries new k)
      entry k l = elim (s.exact k l) [
        | inl a ↦ (let lt = marked a.0 in rw (same k l, entry_small (get_or marks k 0) lt) a.1)
        | inr b ↦ rw (same k l ∙ b.0) (λ j r. b.1 (stable j k l r))
      ]
        where
          marked : {n : ℕ} → n ≤ i → n < never
          marked h = let z = small in omega arith

      bound : (k n : ℕ) → k < g.places → entries new k ≡ Some n → n ≤ i
      bound k n l e =
          let v = entry_back (get_or new k 0) n e in
          let z = same k l in
          elim (s.exact k l) [ inl a ↦ (let h = a.0 in omega (arith, v.0, v.1)) | inr b ↦ absurd (let h = b.0 in omega (arith, v.0, v.1)) ]

      pub stopped : (orig : List ℕ) → ((k : ℕ) → g.places ≤ k → get_or old k 0 ≡ get_or orig k 0) → length new ≡ length orig → ForcedMarks g t orig new i
      stopped orig rest size = record {
        exact = entry;
        kept = record { same_length = size; same_rest = λ k l. u.rest k l ∙ (s.rest k l ∙ rest k l) };
        largest = record {
          most = λ n w. bound w.0 n w.1 w.2;
          attained =
              (let k = s.reached.0 in
              let l = s.reached.1 in
              let e : get_or new k 0 ≡ i = same k l ∙ s.reached.2 in
              (k, l, ap as_entry e ∙ entry_small i small));
        };
      }
