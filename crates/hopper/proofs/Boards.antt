-- What an answer of a board says of its game.
use Rattle.std.proofs.Common.{◌≡◌, ℕ, zero, suc, ◌<◌, List, [], ◌∷◌, length, Some, None, Option, sym, refl, ap, ◌∙◌, subst, arith}
use native.Mathlib.Decide.{dec_lt}
use Rattle.std.proofs.lemmas.Option.{slice_get_past}
use Rattle.std.specs.List.{slice_get}
use Rattle.game.specs.declared.Edge.{Edge}
use Rattle.game.specs.declared.Owner.{Owner}
use Rattle.game.specs.Game.{Place, Game, WellFormed}
use Rattle.game.proofs.Base.{none_some, some_inj}
use Rattle.game.proofs.Force.{sound_at}
use Rattle.hopper.specs.Boards.{owner_at, moves_at, step_at, count_at}

-- a list has an element just below its length
pub nth_below : {A : Type 0} (xs : List A) (m : ℕ) (x : A) → slice_get xs m ≡ Some x → m < length xs
nth_below xs m x h = elim (dec_lt m (length xs)) [ yes lt ↦ lt | no n ↦ absurd (none_some (sym (slice_get_past xs m (omega arith)) ∙ h)) ]

pub nth_there : {A : Type 0} (xs : List A) (m : ℕ) → m < length xs → slice_get xs m ≡ None → ⊥
nth_there [] m lt h = omega arith
nth_there (y ∷ ys) zero lt h = none_some (sym h)
nth_there (y ∷ ys) (suc m) lt h = nth_there ys m (omega arith) h

-- a move that is answered is one of the place's moves
pub step_below : (o : Option Place) (m : ℕ) (e : Edge) → step_at o m ≡ Some e → m < count_at o
step_below None m e h = absurd (none_some h)
step_below (Some q) m e h = nth_below q.moves m e h

-- each number below their count is answered
pub step_there : (o : Option Place) (m : ℕ) → m < count_at o → step_at o m ≡ None → ⊥
step_there None m lt h = omega arith
step_there (Some q) m lt h = nth_there q.moves m lt h

-- the number of moves answered is their count
pub count_is : (o : Option Place) (n : ℕ) → moves_at o ≡ Some n → n ≡ count_at o
count_is None n h = absurd (none_some h)
count_is (Some q) n h = sym (some_inj h)

-- what is answered of a move is so of a place
pub step_place : (o : Option Place) (m : ℕ) (e : Edge) → step_at o m ≡ Some e → (q : Place) × (o ≡ Some q) × (slice_get q.moves m ≡ Some e)
step_place None m e h = absurd (none_some h)
step_place (Some q) m e h = (q, refl, h)

-- and the other way round
pub step_at_lem : (g : Game) (p m : ℕ) (q : Place) (e : Edge) → g.at p ≡ Some q → slice_get q.moves m ≡ Some e → step_at (g.at p) m ≡ Some e
step_at_lem g p m q e at h = subst (λ (o : Option Place). step_at o m ≡ Some e) (sym at) h

-- a place with an owner
pub owned : (g : Game) (p : ℕ) (o : Owner) → owner_at (g.at p) ≡ Some o → (q : Place) × (g.at p ≡ Some q) × (q.owner ≡ o)
owned g p o h = go (g.at p) refl h
  where
    go : (x : Option Place) → g.at p ≡ x → owner_at x ≡ Some o → (q : Place) × (g.at p ≡ Some q) × (q.owner ≡ o)
    go None at k = absurd (none_some k)
    go (Some q) at k = (q, at, some_inj k)

module _ (g : Game) (wf : WellFormed g) where
  -- of a place everything is answered
  pub moves_there : (p : ℕ) → p < g.places → moves_at (g.at p) ≡ None → ⊥
  moves_there p lt h = let w = wf.here p lt in none_some (sym h ∙ ap moves_at w.1)

  pub owner_there : (p : ℕ) → p < g.places → owner_at (g.at p) ≡ None → ⊥
  owner_there p lt h = let w = wf.here p lt in none_some (sym h ∙ ap owner_at w.1)

  -- an owner is answered of the places alone
  pub owner_some : (p : ℕ) (o : Owner) → owner_at (g.at p) ≡ Some o → p < g.places
  owner_some p o h = elim (dec_lt p g.places) [ yes lt ↦ lt | no n ↦ absurd (none_some (sym (ap owner_at (wf.gone p (omega arith))) ∙ h)) ]

  -- the target of a move that is answered is a place
  pub step_inside : (p m : ℕ) (e : Edge) → step_at (g.at p) m ≡ Some e → e.target < g.places
  step_inside p m e h = let w = step_place (g.at p) m e h in (sound_at g wf p w.0 w.1).sound.targets m e w.2
