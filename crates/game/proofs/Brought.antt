-- From forced marks to plays: the moves whose targets come first, or last, by their marks make one reply and one plan for all places.
use native.Mathlib.Decide.{dec_le}
use Rattle.std.proofs.Common.{◌≡◌, ℕ, zero, suc, ◌<◌, ◌≤◌, ◌⊎◌, List, [], Some, None, Option, sym, refl, ◌∙◌, subst, inl, inr, arith}
use Rattle.std.specs.List.{slice_get}
use Rattle.game.specs.Game.{Owner, Ours, Theirs, Edge, Game, WellFormed}
use Rattle.game.specs.Fill.{Choice}
use Rattle.game.specs.Forced.{foe, Forces, IsForced}
use Rattle.game.specs.Play.{Plan, after, IsMove, Legal, chosen, ReachesWithin}
use Rattle.game.proofs.Theorems.{ForcedIsExactlyBrought}
use Rattle.game.proofs.Base.{some_inj, stable}
use Rattle.game.proofs.Force.{legal_after, led, led_by, walk, Picks, picks}
use Rattle.game.proofs.Forced.{forces_longer, forced_mark}

module _ (g : Game) (wf : WellFormed g) (target : ℕ) where
  -- from a the other side brings the run to the target no later than from b
  abbrev NoLater : ℕ → ℕ → Type 0
  NoLater a b = (i : ℕ) → Forces g target i b → Forces g target i a

  compare : (a b : ℕ) → a < g.places → b < g.places → NoLater a b ⊎ NoLater b a
  compare a b la lb = let x = forced_mark g wf target a la in let y = forced_mark g wf target b lb in go x.0 y.0 x.1 y.1
    where
      least : (n i p : ℕ) → IsForced g target p (Some n) → Forces g target i p → n ≤ i
      least n i p l f = stable (dec_le n i) (λ not. l.1 i (omega arith) f)

      go : (x y : Option ℕ) → IsForced g target a x → IsForced g target b y → NoLater a b ⊎ NoLater b a
      go None y f f' = inr (λ i h. absurd (f i h))
      go (Some n) None f f' = inl (λ i h. absurd (f' i h))
      go (Some n) (Some m) f f' = elim (dec_le n m) [
        | yes le ↦ inl (λ i h. forces_longer g wf target n i a (omega (arith, least m i b f' h)) f.0)
        | no not ↦ inr (λ i h. forces_longer g wf target m i b (omega (arith, least n i a f h)) f'.0)
      ]

  -- our plan goes where the target is reached last, their reply where it is reached first
  last : Picks g (λ p. p) (led g) (λ p a b. NoLater b.target a.target)
  last = picks g wf (λ p. p) (led g) (λ p m. refl) (λ p a b. NoLater b.target a.target) (λ p a i h. h) (λ p a b c r s i h. s i (r i h)) (λ p a b la lb. compare b.target a.target lb la)

  soon : Picks g (λ p. p) (led g) (λ p a b. NoLater a.target b.target)
  soon = picks g wf (λ p. p) (led g) (λ p m. refl) (λ p a b. NoLater a.target b.target) (λ p a i h. h) (λ p a b c r s i h. r i (s i h)) (λ p a b. compare a.target b.target)

  brings : (i p : ℕ) (ours : Plan) → Forces g target i p → Legal g Ours p ours → ReachesWithin g target i p ours (walk (led g) soon.pick p)
  brings zero p ours f legal = f
  brings (suc i) p ours (inl e) legal = inl e
  brings (suc i) p ours (inr w) legal =
      let m = chosen w.0.owner ours (walk (led g) soon.pick p) in
      let x = go w.0.owner w.0.moves w.1 w.2 in
      let mv : IsMove g p m x.0 = (w.0, w.1, x.1) in
      inr (
        w.0,
        w.1,
        x.0,
        x.1,
        subst (λ (q : ℕ). ReachesWithin g target i x.0.target (after m ours) (walk (led g) soon.pick q)) (sym (led_by g p m x.0 mv))
            (brings i x.0.target (after m ours) x.2 (legal_after g Ours p m x.0 ours mv legal)),
      )
    where
      go : (o : Owner) (ms : List Edge) → g.at p ≡ Some (record { owner = o; moves = ms }) → Choice (foe o) ms (λ e. Forces g target i e.target)
          → (e : Edge) × (slice_get ms (chosen o ours (walk (led g) soon.pick p)) ≡ Some e) × Forces g target i e.target
      go Ours ms h ch = let w = legal [] p (record { owner = Ours; moves = ms }) refl h refl in (w.0, w.1, ch (ours []) w.0 w.1)
      go Theirs ms h ch = let w = soon.first p (record { owner = Theirs; moves = ms }) h in (w.0, w.1, w.2 ch.0 ch.1 ch.2 i ch.3)

  comes : (i p : ℕ) (theirs : Plan) → ReachesWithin g target i p (walk (led g) last.pick p) theirs → Forces g target i p
  comes zero p theirs r = r
  comes (suc i) p theirs (inl e) = inl e
  comes (suc i) p theirs (inr w) =
      let m = chosen w.0.owner (walk (led g) last.pick p) theirs in
      let f : Forces g target i w.2.target =
      comes i w.2.target (after m theirs)
      (subst (λ (q : ℕ). ReachesWithin g target i w.2.target (walk (led g) last.pick q) (after m theirs)) (led_by g p m w.2 (w.0, w.1, w.3)) w.4) in
      inr (w.0, w.1, go w.0.owner w.0.moves w.1 w.2 w.3 f)
    where
      go : (o : Owner) (ms : List Edge) → g.at p ≡ Some (record { owner = o; moves = ms }) → (e : Edge) → slice_get ms (chosen o (walk (led g) last.pick p) theirs) ≡ Some e
          → Forces g target i e.target → Choice (foe o) ms (λ e. Forces g target i e.target)
      go Ours ms h e mv f = λ k e' mv'.
          let w = last.first p (record { owner = Ours; moves = ms }) h in
          w.2 k e' mv' i (subst (λ (x : Edge). Forces g target i x.target) (some_inj (sym mv ∙ w.1)) f)
      go Theirs ms h e mv f = (theirs [], e, mv, f)

pub forced_is_exactly_brought : ForcedIsExactlyBrought
forced_is_exactly_brought g wf target p lt None f =
    let l = last g wf target in
    (walk (led g) l.pick p, l.legal Ours p, λ reply r. f r.0 (comes g wf target r.0 p reply r.1))
forced_is_exactly_brought g wf target p lt (Some n) f =
    let s = soon g wf target in
    let l = last g wf target in (
      (walk (led g) s.pick p, s.legal Theirs p, λ plan legal. brings g wf target n p plan f.0 legal),
      λ i less. (walk (led g) l.pick p, l.legal Ours p, λ reply r. f.1 i less (comes g wf target i p reply r)),
    )
