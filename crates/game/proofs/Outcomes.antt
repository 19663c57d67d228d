-- To win over all infinite outcomes is to be good, over any table.
use Rattle.std.proofs.Common.{◌≡◌, ℕ, zero, suc, ◌<◌, List, [], Some, sym, refl, ap, ◌∙◌, subst}
use Rattle.game.specs.Game.{Owner, Ours, Theirs, Edge, Place, Game, SoundPlace, WellFormed}
use Rattle.game.specs.Vessel.{Table}
use Rattle.game.specs.Fill.{Choice, Holds, Good}
use Rattle.game.specs.Play.{Plan, after, IsMove, Legal}
use Rattle.game.specs.Published.{Infinite, Outcome, Wins}
use Rattle.game.proofs.Base.{some_inj, Through}
use Rattle.game.proofs.Force.{ours_theirs, sound_at, first_of, legal_after, follow, follow_after}
use Rattle.game.proofs.Sustain.{good_step, best, pick_through}

-- the table pours k moves from level c, and the level after them is x
abbrev pub Level : Table → ℕ → (ℕ → Edge) → ℕ → ℕ → Type 0
Level t c es zero x = c ≡ x
Level t c es (suc k) x = (d : ℕ) × (t c (es 0).amount ≡ Some d) × Level t d (λ j. es (suc j)) k x

abbrev pub Stays : Table → ℕ → (ℕ → Edge) → Type 0
Stays t c es = (k : ℕ) → (x : ℕ) × Level t c es k x

abbrev behind : {A : Type 0} → A → (ℕ → A) → ℕ → A
behind a f zero = a
behind a f (suc k) = f k

module _ (g : Game) where
  one_more : (p m : ℕ) (e : Edge) → IsMove g p m e → Infinite g e.target → Infinite g p
  one_more p m e mv γ =
      record {
        place = behind p γ.place;
        number = behind m γ.number;
        move = behind e γ.move;
        starts = refl;
        made = elim [ zero ↦ mv | suc k ↦ γ.made k ];
        goes = elim [ zero ↦ γ.starts | suc k ↦ γ.goes k ];
      }

  one_more_outcome : (p m : ℕ) (e : Edge) (mv : IsMove g p m e) (γ : Infinite g e.target) (plan : Plan)
      → ((q : Place) → g.at p ≡ Some q → q.owner ≡ Ours → m ≡ plan []) → Outcome g e.target (after m plan) γ
      → Outcome g p plan (one_more p m e mv γ)
  unfolding one_more
  one_more_outcome p m e mv γ plan here rest zero q h own = here q h own
  one_more_outcome p m e mv γ plan here rest (suc k) q h own = rest k q h own

  one_less : (p : ℕ) (γ : Infinite g p) → Infinite g (γ.move 0).target
  one_less p γ =
      record {
        place = λ k. γ.place (suc k);
        number = λ k. γ.number (suc k);
        move = λ k. γ.move (suc k);
        starts = γ.goes 0;
        made = λ k. γ.made (suc k);
        goes = λ k. γ.goes (suc k);
      }

  one_less_outcome : (p : ℕ) (γ : Infinite g p) (plan : Plan) → Outcome g p plan γ
      → Outcome g (γ.move 0).target (after (γ.number 0) plan) (one_less p γ)
  unfolding one_less
  one_less_outcome p γ plan out k q h own = out (suc k) q h own

-- a legal plan has an outcome
module _ (g : Game) (wf : WellFormed g) where
  abbrev Node : Type 0
  Node = (p : ℕ) × (p < g.places) × (plan : Plan) × Legal g Ours p plan

  abbrev Made : ℕ → Plan → Type 0
  Made p plan = (m : ℕ) × (e : Edge) × IsMove g p m e × ((q : Place) → g.at p ≡ Some q → q.owner ≡ Ours → m ≡ plan [])

  make : (n : Node) → Made n.0 n.2
  make n = go w.0.owner w.0.moves w.1 w.2
    where
      p : ℕ
      p = n.0

      w : (q : Place) × (g.at p ≡ Some q) × SoundPlace g q
      w = wf.here p n.1

      go : (o : Owner) (ms : List Edge) → g.at p ≡ Some (record { owner = o; moves = ms }) → SoundPlace g (record { owner = o; moves = ms }) → Made p n.2
      go Ours ms h s =
          let f = n.3 [] p (record { owner = Ours; moves = ms }) refl h refl in
          (n.2 [], f.0, (record { owner = Ours; moves = ms }, h, f.1), λ q h' own. refl)
      go Theirs ms h s =
          let f = first_of ms s.sound.some_move in
          (0, f.0, (record { owner = Theirs; moves = ms }, h, f.1), λ q h' own. absurd (ours_theirs (sym own ∙ ap (λ (r : Place). r.owner) (some_inj (sym h' ∙ h)))))

  advance : Node → Node
  advance n =
      let w = make n in (
        w.1.target,
        (sound_at g wf n.0 w.2.0 w.2.1).sound.targets w.0 w.1 w.2.2,
        after w.0 n.2,
        legal_after g Ours n.0 w.0 w.1 n.2 w.2 n.3,
      )

  nodes : Node → ℕ → Node
  nodes n zero = n
  nodes n (suc k) = nodes (advance n) k

  nodes_suc : (n : Node) (k : ℕ) → nodes (advance n) k ≡ advance (nodes n k)
  unfolding nodes
  nodes_suc n zero = refl
  nodes_suc n (suc k) = nodes_suc (advance n) k

  outcome : (n : Node) → Infinite g n.0
  unfolding nodes advance
  outcome n =
      record {
        place = λ k. (nodes n k).0;
        number = λ k. (make (nodes n k)).0;
        move = λ k. (make (nodes n k)).1;
        starts = refl;
        made = λ k. (make (nodes n k)).2;
        goes = λ k. ap (λ (m : Node). m.0) (nodes_suc n k);
      }

  outcome_is : (n : Node) → Outcome g n.0 n.2 (outcome n)
  unfolding nodes advance outcome
  outcome_is n zero q h own = (make n).3 q h own
  outcome_is n (suc k) q h own = outcome_is (advance n) k q h own

  -- ---- winning is good
  module _ (t : Table) where
    abbrev Won : ℕ → ℕ → Plan → Type 0
    Won p c plan = (γ : Infinite g p) → Outcome g p plan γ → Stays t c γ.move

    won_step : (p c : ℕ) (plan : Plan) → Legal g Ours p plan → Won p c plan → (m : ℕ) (e : Edge) → IsMove g p m e
        → ((q : Place) → g.at p ≡ Some q → q.owner ≡ Ours → m ≡ plan []) → e.target < g.places
        → (d : ℕ) × (t c e.amount ≡ Some d) × Won e.target d (after m plan)
    unfolding outcome one_more
    won_step p c plan legal won m e mv own lt =
        let n : Node = (e.target, lt, after m plan, legal_after g Ours p m e plan mv legal) in
        let γ : Infinite g e.target = outcome n in
        let first = won (one_more g p m e mv γ) (one_more_outcome g p m e mv γ plan own (outcome_is n)) 1 in
        let d : ℕ = first.1.0 in (
          d,
          first.1.1,
          λ δ out k.
              let s = won (one_more g p m e mv δ) (one_more_outcome g p m e mv δ plan own out) (suc k) in
              (s.0, subst (λ (x : ℕ). Level t x δ.move k s.0) (some_inj (sym s.1.1 ∙ first.1.1)) s.1.2),
        )

    won_holds : (i p c : ℕ) (plan : Plan) → p < g.places → Legal g Ours p plan → Won p c plan → Holds g t i p c
    won_holds zero p c plan lt legal won = tt
    won_holds (suc i) p c plan lt legal won =
        let w = wf.here p lt in
        (w.0, w.1, go w.0.owner w.0.moves w.1 w.2 (won_holds i))
      where
        go : (o : Owner) (ms : List Edge) → g.at p ≡ Some (record { owner = o; moves = ms }) → SoundPlace g (record { owner = o; moves = ms })
            → ((p c : ℕ) (plan : Plan) → p < g.places → Legal g Ours p plan → Won p c plan → Holds g t i p c)
            → Choice o ms (Through t (Holds g t i) c)
        go Ours ms h s ih =
            let f = legal [] p (record { owner = Ours; moves = ms }) refl h refl in
            let mv : IsMove g p (plan []) f.0 = (record { owner = Ours; moves = ms }, h, f.1) in
            let lt' : f.0.target < g.places = s.sound.targets (plan []) f.0 f.1 in
            let w = won_step p c plan legal won (plan []) f.0 mv (λ q h' own. refl) lt' in
            (plan [], f.0, f.1, (w.0, w.1, ih f.0.target w.0 (after (plan []) plan) lt' (legal_after g Ours p (plan []) f.0 plan mv legal) w.2))
        go Theirs ms h s ih = λ m e k.
            let mv : IsMove g p m e = (record { owner = Theirs; moves = ms }, h, k) in
            let lt' : e.target < g.places = s.sound.targets m e k in
            let w = won_step p c plan legal won m e mv (λ q h' own. absurd (ours_theirs (sym own ∙ ap (λ (r : Place). r.owner) (some_inj (sym h' ∙ h))))) lt' in
            (w.0, w.1, ih e.target w.0 (after m plan) lt' (legal_after g Ours p m e plan mv legal) w.2)

    pub wins_good : (p c : ℕ) → p < g.places → Wins g p (Stays t c) → Good g t p c
    wins_good p c lt w i = won_holds i p c w.0 lt w.1 w.2

    -- ---- good wins
    module _ (dec : (p c : ℕ) → Dec (Good g t p c)) where
      abbrev plan_for : ℕ → ℕ → Plan
      plan_for = follow g t (best g wf t (Good g t) dec (good_step g t dec)).pick

      stays : (k p c : ℕ) → Good g t p c → (γ : Infinite g p) → Outcome g p (plan_for p c) γ → (x : ℕ) × Level t c γ.move k x
      unfolding one_less
      stays zero p c good γ out = (c, refl)
      stays (suc k) p c good γ out =
          let mv = γ.made 0 in
          let at : g.at p ≡ Some mv.0 = ap g.at (sym γ.starts) ∙ mv.1 in
          let th : Through t (Good g t) c (γ.move 0) =
          pick_through g wf t (Good g t) dec (good_step g t dec) p c mv.0 good at (γ.number 0) (γ.move 0) mv.2 (λ own. out 0 mv.0 mv.1 own) in
          let same = follow_after g t (best g wf t (Good g t) dec (good_step g t dec)).pick p c (γ.number 0) th.0 (γ.move 0) (mv.0, at, mv.2) th.1 in
          let rest = stays k (γ.move 0).target th.0 th.2 (one_less g p γ)
          (subst (λ (plan : Plan). Outcome g (γ.move 0).target plan (one_less g p γ)) same (one_less_outcome g p γ (plan_for p c) out)) in
          (rest.0, (th.0, th.1, rest.1))

      pub good_wins : (p c : ℕ) → Good g t p c → Wins g p (Stays t c)
      good_wins p c good = (plan_for p c, (best g wf t (Good g t) dec (good_step g t dec)).legal Ours (p, c), λ γ out k. stays k p c good γ out)
