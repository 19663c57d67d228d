-- The unfolded board: the spill is forced exactly where a fill does not hold.
use Rattle.std.proofs.Common.{◌≡◌, ℕ, zero, suc, ◌+◌, ◌/◌, ◌%◌, ◌<◌, ◌≤◌, cond, not, ltb, leb, ◌⊎◌, ◌↔◌, List, [], ◌∷◌, map, length, pos, nat_abs, Some, None, Option, sym, refl, ap, ◌∙◌, subst, inl, inr, div-lt_iff_lt-mul, arith}
use native.Mathlib.Decide.{dec_lt, dec_le}
use lib.Arith.{digits_lt, digits_div, digits_mod}
use Rattle.std.proofs.lemmas.Bool.{cond-true, cond-false, le-leb, lt-leb, lt-ltb, le-ltb}
use Rattle.std.proofs.lemmas.List.{length-map}
use Rattle.std.specs.List.{slice_get}
use Rattle.std.specs.Option.{option_map}
use Rattle.game.specs.Game.{Owner, Ours, Theirs, Edge, Place, Game, SoundMoves, SoundPlace, WellFormed}
use Rattle.game.specs.Limits.{most_amount, most_fills}
use Rattle.game.specs.Vessel.{Hopper, Keeps}
use Rattle.game.specs.Fill.{Choice, Holds, IsMark}
use Rattle.game.specs.Forced.{foe, Forces, IsForced, cell, spill, landing, unfold_edge, unfold_place, alone, unfold_at, only_spill, unfolded}
use Rattle.game.proofs.Theorems.{SpillIsForcedByMark, UnfoldedIsWellFormed}
use Rattle.game.proofs.Base.{none_some, some_inj, not_dec, stable, SomeMove, EachMove, find, Through, pours_dec, holds_dec, choice_map}

-- ---- who cannot do it, the other can prevent
choice_not : (o : Owner) (ms : List Edge) (Q : Edge → Type 0) → Choice (foe o) ms (λ e. ¬ Q e) → ¬ Choice o ms Q
choice_not Ours ms Q each w = each w.0 w.1 w.2 w.3
choice_not Theirs ms Q w each = w.3 (each w.0 w.1 w.2)

not_choice : (o : Owner) (ms : List Edge) (Q : Edge → Type 0) → ((e : Edge) → Dec (Q e)) → ¬ Choice o ms Q → Choice (foe o) ms (λ e. ¬ Q e)
not_choice Ours ms Q dec n = λ m e h q. n (m, e, h, q)
not_choice Theirs ms Q dec n = go (find ms (λ e. ¬ Q e) (λ e. not_dec (dec e)))
  where
    go : SomeMove ms (λ e. ¬ Q e) ⊎ EachMove ms (λ e. ¬ ¬ Q e) → SomeMove ms (λ e. ¬ Q e)
    go (inl w) = w
    go (inr f) = absurd (n (λ m e h. stable (dec e) (f m e h)))

module _ (g : Game) (v : Hopper) where
  wide : Game
  wide = record { places = spill g v.top + 1; at = unfold_at g v }

  unfolded_wide : spill g v.top ≤ most_fills → wide ≡ unfolded g v
  unfolding wide
  unfolded_wide le = sym (cond-true (leb (spill g v.top) most_fills) wide (record { places = 1; at = only_spill }) (le-leb (spill g v.top) most_fills le))

  pub nth_in : (c : ℕ) (ms : List Edge) (m : ℕ) (e : Edge) → slice_get ms m ≡ Some e → slice_get (map (unfold_edge g v c) ms) m ≡ Some (unfold_edge g v c e)
  nth_in c [] m e h = absurd (none_some h)
  nth_in c (x ∷ xs) zero e h = ap (λ (z : Edge). Some (unfold_edge g v c z)) (some_inj h)
  nth_in c (x ∷ xs) (suc m) e h = nth_in c xs m e h

  nth_out : (c : ℕ) (ms : List Edge) (m : ℕ) (e' : Edge) → slice_get (map (unfold_edge g v c) ms) m ≡ Some e' → (e : Edge) × (slice_get ms m ≡ Some e) × (unfold_edge g v c e ≡ e')
  nth_out c [] m e' h = absurd (none_some h)
  nth_out c (x ∷ xs) zero e' h = (x, refl, some_inj h)
  nth_out c (x ∷ xs) (suc m) e' h = nth_out c xs m e' h

  choice_in : (o : Owner) (c : ℕ) (ms : List Edge) (P : Edge → Type 0) → Choice o ms (λ e. P (unfold_edge g v c e)) → Choice o (map (unfold_edge g v c) ms) P
  choice_in Ours c ms P w = (w.0, unfold_edge g v c w.1, nth_in c ms w.0 w.1 w.2, w.3)
  choice_in Theirs c ms P w = λ m e' h. let n = nth_out c ms m e' h in subst P n.2 (w m n.0 n.1)

  choice_out : (o : Owner) (c : ℕ) (ms : List Edge) (P : Edge → Type 0) → Choice o (map (unfold_edge g v c) ms) P → Choice o ms (λ e. P (unfold_edge g v c e))
  choice_out Ours c ms P w = let n = nth_out c ms w.0 w.1 w.2 in (w.0, n.0, n.1, subst P (sym n.2) w.3)
  choice_out Theirs c ms P w = λ m e h. w m (unfold_edge g v c e) (nth_in c ms m e h)

  unfolded_of : ℕ → Place → Place
  unfolded_of c q = record { owner = q.owner; moves = map (unfold_edge g v c) q.moves }

  at_cell : (p c : ℕ) (q : Place) → p < g.places → c ≤ v.top → g.at p ≡ Some q → unfold_at g v (cell v.top p c) ≡ Some (unfolded_of c q)
  unfolding unfolded_of
  at_cell p c q lt le h =
      let small : c < v.top + 1 = omega arith in
      cond-true (ltb (cell v.top p c) (spill g v.top)) (option_map (unfold_place g v (cell v.top p c % (v.top + 1))) (g.at (cell v.top p c / (v.top + 1))))
      (cond (leb (cell v.top p c) (spill g v.top)) (Some (alone (cell v.top p c))) None) (lt-ltb (cell v.top p c) (spill g v.top) (digits_lt lt small))
      ∙ (ap (λ (x : ℕ). option_map (unfold_place g v (cell v.top p c % (v.top + 1))) (g.at x)) (digits_div p small)
      ∙ (ap (λ (x : ℕ). option_map (unfold_place g v x) (g.at p)) (digits_mod p small)
      ∙ ap (option_map (unfold_place g v c)) h))

  module _ (wf : WellFormed g) (keeps : Keeps v) where
    spill_forced : (i : ℕ) → Forces wide (spill g v.top) i (spill g v.top)
    spill_forced zero = refl
    spill_forced (suc i) = inl refl

    Both : ℕ → Type 0
    Both i = (p c : ℕ) → p < g.places → c ≤ v.top → Forces wide (spill g v.top) i (cell v.top p c) ↔ (¬ Holds g v.table i p c)

    land : (i : ℕ) → Both i → (c : ℕ) (e : Edge) → e.target < g.places
        → Forces wide (spill g v.top) i (unfold_edge g v c e).target ↔ (¬ Through v.table (Holds g v.table i) c e)
    unfolding Both
    land i ih c e lt = go (v.table c e.amount) refl
      where
        go : (o : Option ℕ) → v.table c e.amount ≡ o → Forces wide (spill g v.top) i (landing g v.top e.target (v.table c e.amount)) ↔ (¬ Through v.table (Holds g v.table i) c e)
        go None h = (
          λ f w. none_some (sym h ∙ w.1),
          λ n. subst (λ (o : Option ℕ). Forces wide (spill g v.top) i (landing g v.top e.target o)) (sym h) (spill_forced i),
        )
        go (Some d) h =
            let le : d ≤ v.top = keeps.within c e.amount d h in (
              λ f w. (ih e.target d lt le).0 (subst (λ (o : Option ℕ). Forces wide (spill g v.top) i (landing g v.top e.target o)) h f)
                  (subst (Holds g v.table i e.target) (some_inj (sym w.1 ∙ h)) w.2),
              λ n. subst (λ (o : Option ℕ). Forces wide (spill g v.top) i (landing g v.top e.target o)) (sym h) ((ih e.target d lt le).1 (λ y. n (d, h, y))),
            )

    both : (i : ℕ) → Both i
    unfolding Both wide unfolded_of
    both zero p c lt le = (λ e. absurd (apart e), λ n. absurd (n tt))
      where
        apart : cell v.top p c ≡ spill g v.top → ⊥
        apart e = let less : cell v.top p c < spill g v.top = digits_lt lt (omega arith) in omega arith
    both (suc i) p c lt le = go (both i)
      where
        less : cell v.top p c < spill g v.top
        less = digits_lt lt (omega arith)

        w : (q : Place) × (g.at p ≡ Some q) × SoundPlace g q
        w = wf.here p lt

        q : Place
        q = w.0

        dec : (e : Edge) → Dec (Through v.table (Holds g v.table i) c e)
        dec e = pours_dec (v.table c e.amount) (Holds g v.table i e.target) (holds_dec g v.table i e.target)

        go : Both i → Forces wide (spill g v.top) (suc i) (cell v.top p c) ↔ (¬ Holds g v.table (suc i) p c)
        go ih = (out, back)
          where
            out : Forces wide (spill g v.top) (suc i) (cell v.top p c) → ¬ Holds g v.table (suc i) p c
            out (inl e) y = omega (arith, less)
            out (inr f) y =
                let f2 : Choice (foe q.owner) (map (unfold_edge g v c) q.moves) (λ e. Forces wide (spill g v.top) i e.target) =
                subst (λ (r : Place). Choice (foe r.owner) r.moves (λ e. Forces wide (spill g v.top) i e.target))
                (some_inj (sym f.1 ∙ at_cell p c q lt le w.1)) f.2 in
                choice_not q.owner q.moves (Through v.table (Holds g v.table i) c)
                (choice_map (foe q.owner) q.moves (λ e. Forces wide (spill g v.top) i (unfold_edge g v c e).target) (λ e. ¬ Through v.table (Holds g v.table i) c e)
                (λ m e h f. (land i ih c e (w.2.sound.targets m e h)).0 f)
                (choice_out (foe q.owner) c q.moves (λ e. Forces wide (spill g v.top) i e.target) f2))
                (subst (λ (r : Place). Choice r.owner r.moves (Through v.table (Holds g v.table i) c)) (some_inj (sym y.1 ∙ w.1)) y.2)

            back : ¬ Holds g v.table (suc i) p c → Forces wide (spill g v.top) (suc i) (cell v.top p c)
            back n =
                inr (
                  unfolded_of c q,
                  at_cell p c q lt le w.1,
                  choice_in (foe q.owner) c q.moves (λ e. Forces wide (spill g v.top) i e.target)
                      (choice_map (foe q.owner) q.moves (λ e. ¬ Through v.table (Holds g v.table i) c e) (λ e. Forces wide (spill g v.top) i (unfold_edge g v c e).target)
                      (λ m e h k. (land i ih c e (w.2.sound.targets m e h)).1 k)
                      (not_choice q.owner q.moves (Through v.table (Holds g v.table i) c) dec (λ ch. n (q, w.1, ch)))),
                )

    both_at : (i p c : ℕ) → p < g.places → c ≤ v.top → Forces wide (spill g v.top) i (cell v.top p c) ↔ (¬ Holds g v.table i p c)
    unfolding Both
    both_at i p c lt le = both i p c lt le

    same_marks : (p c : ℕ) → p < g.places → c ≤ v.top → (o : Option ℕ) → IsForced wide (spill g v.top) (cell v.top p c) o ↔ IsMark g v.table p c o
    unfolding Both
    same_marks p c lt le None = (
      λ none i. stable (holds_dec g v.table i p c) (λ n. none i ((both i p c lt le).1 n)),
      λ good i f. (both i p c lt le).0 f (good i),
    )
    same_marks p c lt le (Some n) = (
      λ l. ((both n p c lt le).0 l.0, λ i less. stable (holds_dec g v.table i p c) (λ bad. l.1 i less ((both i p c lt le).1 bad))),
      λ m. ((both n p c lt le).1 m.0, λ i less f. (both i p c lt le).0 f (m.1 i less)),
    )

    land_below : (e : Edge) → e.target < g.places → (o : Option ℕ) → ((d : ℕ) → o ≡ Some d → d ≤ v.top) → landing g v.top e.target o < spill g v.top + 1
    land_below e lt None small = omega arith
    land_below e lt (Some d) small =
        let le : d ≤ v.top = small d refl in
        let less : cell v.top e.target d < spill g v.top = digits_lt lt (omega arith) in
        omega arith

    sound_cell : (c : ℕ) (q : Place) → SoundPlace g q → SoundPlace wide (unfolded_of c q)
    unfolding wide unfolded_of
    sound_cell c q s =
        record {
          sound = record {
            some_move = omega (arith, length-map q.moves (unfold_edge g v c), s.sound.some_move);
            few_moves = omega (arith, length-map q.moves (unfold_edge g v c), s.sound.few_moves);
            targets = λ m e h.
                let n = nth_out c q.moves m e h in
                subst (λ (x : Edge). x.target < spill g v.top + 1) n.2
                (land_below n.0 (s.sound.targets m n.0 n.1) (v.table c n.0.amount) (λ d k. keeps.within c n.0.amount d k));
          };
          amounts = λ m e h. let n = nth_out c q.moves m e h in subst (λ (x : Edge). nat_abs x.amount ≤ most_amount) n.2 (omega arith);
        }

    spill_place : SoundPlace wide (alone (spill g v.top))
    unfolding wide
    spill_place =
        record {
          sound = record { some_move = omega arith; few_moves = omega arith; targets = one (λ e. e.target < spill g v.top + 1) (omega arith) };
          amounts = one (λ e. nat_abs e.amount ≤ most_amount) (omega arith);
        }
      where
        one : (P : Edge → Type 0) → P (record { target = spill g v.top; amount = pos 0 }) → (m : ℕ) (e : Edge) → slice_get (alone (spill g v.top)).moves m ≡ Some e → P e
        one P p zero e h = subst P (some_inj h) p
        one P p (suc m) e h = absurd (none_some h)

    wide_game : spill g v.top ≤ most_fills → WellFormed wide
    unfolding wide unfolded_of
    wide_game few =
        record {
          some_place = omega arith;
          few_places = omega arith;
          here = λ s lt. at s lt (dec_lt s (spill g v.top));
          gone = λ s le.
              cond-false (ltb s (spill g v.top)) (option_map (unfold_place g v (s % (v.top + 1))) (g.at (s / (v.top + 1)))) (cond (leb s (spill g v.top)) (Some (alone s)) None)
              (le-ltb s (spill g v.top) (omega arith))
              ∙ cond-false (leb s (spill g v.top)) (Some (alone s)) None (lt-leb s (spill g v.top) (omega arith));
        }
      where
        at : (s : ℕ) → s < spill g v.top + 1 → Dec (s < spill g v.top) → (q : Place) × (unfold_at g v s ≡ Some q) × SoundPlace wide q
        at s lt (yes less) =
            let p : ℕ = s / (v.top + 1) in
            let c : ℕ = s % (v.top + 1) in
            let p< : p < g.places = (div-lt_iff_lt-mul {k = v.top + 1} {x = s} {y = g.places} (omega arith)).1 less in
            let w = wf.here p p< in (
              unfolded_of c w.0,
              cond-true (ltb s (spill g v.top)) (option_map (unfold_place g v c) (g.at p)) (cond (leb s (spill g v.top)) (Some (alone s)) None) (lt-ltb s (spill g v.top) less)
                  ∙ ap (option_map (unfold_place g v c)) w.1,
              sound_cell c w.0 w.2,
            )
        at s lt (no not) =
            let same : spill g v.top ≡ s = omega arith in (
              alone s,
              cond-false (ltb s (spill g v.top)) (option_map (unfold_place g v (s % (v.top + 1))) (g.at (s / (v.top + 1)))) (cond (leb s (spill g v.top)) (Some (alone s)) None)
                  (le-ltb s (spill g v.top) (omega arith))
                  ∙ cond-true (leb s (spill g v.top)) (Some (alone s)) None (le-leb s (spill g v.top) (omega arith)),
              subst (λ (x : ℕ). SoundPlace wide (alone x)) same spill_place,
            )

only : Game
only = record { places = 1; at = only_spill }

only_game : WellFormed only
unfolding only
only_game =
    record {
      some_place = omega arith;
      few_places = omega arith;
      here = elim [ zero ↦ λ lt. (alone 0, refl, sound) | suc p ↦ λ lt. absurd (omega arith) ];
      gone = elim [ zero ↦ λ le. absurd (omega arith) | suc p ↦ λ le. refl ];
    }
  where
    one : (P : Edge → Type 0) → P (record { target = 0; amount = pos 0 }) → (m : ℕ) (e : Edge) → slice_get (alone 0).moves m ≡ Some e → P e
    one P p zero e h = subst P (some_inj h) p
    one P p (suc m) e h = absurd (none_some h)

    sound : SoundPlace only (alone 0)
    sound =
        record {
          sound = record { some_move = omega arith; few_moves = omega arith; targets = one (λ e. e.target < 1) (omega arith) };
          amounts = one (λ e. nat_abs e.amount ≤ most_amount) (omega arith);
        }

pub spill_is_forced_by_mark : SpillIsForcedByMark
spill_is_forced_by_mark g wf v keeps few p c lt le =
    subst (λ (u : Game). ((i : ℕ) → (Forces u (spill g v.top) i (cell v.top p c) ↔ (¬ Holds g v.table i p c)))
    × ((o : Option ℕ) → IsForced u (spill g v.top) (cell v.top p c) o ↔ IsMark g v.table p c o)) (unfolded_wide g v few)
    (λ i. both' i, λ o. same_marks g v wf keeps p c lt le o)
  where
    both' : (i : ℕ) → (Forces (wide g v) (spill g v.top) i (cell v.top p c) ↔ (¬ Holds g v.table i p c))
    both' i = both_at g v wf keeps i p c lt le

pub unfolded_is_well_formed : UnfoldedIsWellFormed
unfolding only
unfolded_is_well_formed g wf v keeps = go (dec_le (spill g v.top) most_fills)
  where
    go : Dec (spill g v.top ≤ most_fills) → WellFormed (unfolded g v)
    go (yes le) = subst WellFormed (unfolded_wide g v le) (wide_game g v wf keeps le)
    go (no not) =
        subst WellFormed (sym (cond-false (leb (spill g v.top) most_fills) (record { places = spill g v.top + 1; at = unfold_at g v }) only (lt-leb (spill g v.top) most_fills (omega arith)))) only_game
