-- The unfolded board answers as the code does.
use Rattle.std.proofs.Common.{◌≡◌, ℕ, ◌+◌, ◌*◌, ◌/◌, ◌%◌, ◌<◌, ◌≤◌, Bool, true, false, cond, ltb, leb, Some, None, Option, sym, refl, ap, ◌∙◌, arith}
use lib.Arith.{digits_lt}
use Rattle.std.proofs.lemmas.Bool.{cond-true, leb-true, le-leb, lt-ltb}
use Rattle.std.proofs.lemmas.List.{length-map}
use Rattle.std.proofs.lemmas.Option.{slice_get-map}
use Rattle.std.specs.Option.{option_map, MatchOption}
use Rattle.game.specs.declared.Edge.{Edge}
use Rattle.game.specs.Game.{Place, Game}
use Rattle.game.specs.Limits.{most_fills}
use Rattle.game.specs.Vessel.{Hopper}
use Rattle.game.specs.Forced.{cell, spill, landing, unfold_edge, unfold_place, alone, unfold_at, only_spill, unfolded}
use Rattle.game.proofs.Base.{none_some}
use Rattle.game.proofs.Unfold.{nth_in}
use Rattle.hopper.specs.Boards.{moves_at, step_at}
use Rattle.solver.specs.Inner.Marks.{spill_number}

below : (b : Bool) (n s : ℕ) → s < cond b n 0 → (b ≡ true) × (s < n)
below true n s h = (refl, h)
below false n s h = absurd (omega arith)

module _ (g : Game) (v : Hopper) where
  wide : Game
  wide = record { places = spill g v.top + 1; at = unfold_at g v }

  only : Game
  only = record { places = 1; at = only_spill }

  pub small_spill : spill g v.top ≤ most_fills → spill_number g v.top ≡ spill g v.top
  small_spill le = cond-true (leb (spill g v.top) most_fills) (spill g v.top) 0 (le-leb (spill g v.top) most_fills le)

  pub within_fills : (s : ℕ) → s < spill_number g v.top → (spill g v.top ≤ most_fills) × (s < spill g v.top)
  within_fills s h = let w = below (leb (spill g v.top) most_fills) (spill g v.top) s h in (leb-true (spill g v.top) most_fills w.0, w.1)

  pub places_are : (unfolded g v).places ≡ spill_number g v.top + 1
  places_are = go (leb (spill g v.top) most_fills)
    where
      go : (b : Bool) → (cond {A = Game} b (record { places = spill g v.top + 1; at = unfold_at g v }) (record { places = 1; at = only_spill })).places ≡ cond b (spill g v.top) 0 + 1
      go true = refl
      go false = refl

  wide_at : (s : ℕ) → spill g v.top ≤ most_fills → (unfolded g v).at s ≡ unfold_at g v s
  unfolding wide only
  wide_at s le = ap (λ (u : Game). u.at s) (cond-true (leb (spill g v.top) most_fills) wide only (le-leb (spill g v.top) most_fills le))

  -- a place at a level
  pub at_fill : (s : ℕ) → s < spill_number g v.top → (unfolded g v).at s ≡ option_map (unfold_place g v (s % (v.top + 1))) (g.at (s / (v.top + 1)))
  at_fill s h =
      let w = within_fills s h in
      wide_at s w.0 ∙ cond-true (ltb s (spill g v.top)) (option_map (unfold_place g v (s % (v.top + 1))) (g.at (s / (v.top + 1)))) (cond (leb s (spill g v.top)) (Some (alone s)) None) (lt-ltb s (spill g v.top) w.1)

  -- what is answered of a place at a level
  moves_same : (c : ℕ) (o : Option Place) → moves_at o ≡ moves_at (option_map (unfold_place g v c) o)
  moves_same c None = refl
  moves_same c (Some q) = ap Some (sym (length-map q.moves (unfold_edge g v c)))

  step_same : (c : ℕ) (o : Option Place) (m : ℕ) (e : Edge) → step_at o m ≡ Some e → step_at (option_map (unfold_place g v c) o) m ≡ Some (unfold_edge g v c e)
  step_same c None m e h = absurd (none_some h)
  step_same c (Some q) m e h = nth_in g v c q.moves m e h

  step_gone : (c : ℕ) (o : Option Place) (m : ℕ) → step_at o m ≡ None → step_at (option_map (unfold_place g v c) o) m ≡ None
  step_gone c None m h = refl
  step_gone c (Some q) m h = slice_get-map (unfold_edge g v c) q.moves m ∙ ap (option_map (unfold_edge g v c)) h

  pub moves_fill : (s : ℕ) → s < spill_number g v.top → moves_at (g.at (s / (v.top + 1))) ≡ moves_at ((unfolded g v).at s)
  moves_fill s h = moves_same (s % (v.top + 1)) (g.at (s / (v.top + 1))) ∙ ap moves_at (sym (at_fill s h))

  pub step_fill : (s m : ℕ) (e : Edge) → s < spill_number g v.top → step_at (g.at (s / (v.top + 1))) m ≡ Some e → Some (unfold_edge g v (s % (v.top + 1)) e) ≡ step_at ((unfolded g v).at s) m
  step_fill s m e h k = sym (step_same (s % (v.top + 1)) (g.at (s / (v.top + 1))) m e k) ∙ ap (λ (o : Option Place). step_at o m) (sym (at_fill s h))

  pub step_no_fill : (s m : ℕ) → s < spill_number g v.top → step_at (g.at (s / (v.top + 1))) m ≡ None → None ≡ step_at ((unfolded g v).at s) m
  step_no_fill s m h k = sym (step_gone (s % (v.top + 1)) (g.at (s / (v.top + 1))) m k) ∙ ap (λ (o : Option Place). step_at o m) (sym (at_fill s h))

  pub number_of : (q c : ℕ) → q < g.places → c ≤ v.top → cell v.top q c < spill g v.top
  number_of q c h l = digits_lt h (omega arith)

  -- the level that was poured to, or the spill, is where a move lands
  pub landed : (q n s w : ℕ) (o : Option ℕ) → s ≡ spill g v.top → w ≡ v.top → MatchOption o (n ≡ s) (λ level. n ≡ q * (w + 1) + level) → n ≡ landing g v.top q o
  landed q n s w None spilt width is = is ∙ spilt
  landed q n s w (Some level) spilt width is = is ∙ ap (λ (k : ℕ). q * (k + 1) + level) width
