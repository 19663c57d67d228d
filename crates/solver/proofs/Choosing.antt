-- Moves by their numbers, and who chooses among them.
use Rattle.std.proofs.Common.{◌≡◌, ℕ, ◌<◌, ◌≤◌, Bool, true, false, Some, None, Option, length, sym, refl, ap, ◌∙◌, subst, arith}
use Rattle.std.specs.Bool.{MatchBool, Decides}
use Rattle.std.proofs.lemmas.Bool.{false≢true}
use Rattle.std.specs.Option.{is_some, is_none, MatchOption}
use Rattle.std.specs.List.{slice_get}
use Rattle.game.specs.declared.Edge.{Edge}
use Rattle.game.specs.declared.Owner.{Owner}
use Rattle.game.specs.declared.Owner.TheVariants.{Ours, Theirs}
use Rattle.game.specs.Game.{Place, Game, WellFormed}
use Rattle.game.specs.Limits.{most_moves}
use Rattle.game.specs.Fill.{Choice}
use Rattle.game.specs.Forced.{foe, ForcesInto}
use Rattle.game.proofs.Base.{some_inj}
use Rattle.hopper.specs.Boards.{owner_at, step_at, count_at}
use Rattle.hopper.proofs.Boards.{step_place, step_at_lem, step_below, step_there, owned}
use Rattle.solver.specs.Inner.Marks.{LeadsTo}

-- where the place is ours every move has to lead there, where it is theirs some move
Led : Owner → Game → (ℕ → Type 0) → ℕ → Type 0
Led Ours g P p = (m : ℕ) (e : Edge) → step_at (g.at p) m ≡ Some e → P e.target
Led Theirs g P p = (m : ℕ) × (e : Edge) × (step_at (g.at p) m ≡ Some e) × P e.target

-- what is led there by number is led there by choice
led_in : (o : Owner) (g : Game) (P : ℕ → Type 0) (p : ℕ) (q : Place) → g.at p ≡ Some q → Led o g P p → Choice (foe o) q.moves (λ e. P e.target)
unfolding Led
led_in Ours g P p q at f = λ m e h. f m e (step_at_lem g p m q e at h)
led_in Theirs g P p q at w =
    let v = step_place (g.at p) w.0 w.1 w.2 in
    (w.0, w.1, subst (λ (r : Place). slice_get r.moves w.0 ≡ Some w.1) (some_inj (sym v.1 ∙ at)) v.2, w.3)

led_out : (o : Owner) (g : Game) (P : ℕ → Type 0) (p : ℕ) (q : Place) → g.at p ≡ Some q → Choice (foe o) q.moves (λ e. P e.target) → Led o g P p
unfolding Led
led_out Ours g P p q at f = λ m e h.
    let v = step_place (g.at p) m e h in
    f m e (subst (λ (r : Place). slice_get r.moves m ≡ Some e) (some_inj (sym v.1 ∙ at)) v.2)
led_out Theirs g P p q at w = (w.0, w.1, step_at_lem g p w.0 q w.1 at w.2, w.3)

tells_led : (o : Owner) (g : Game) (P : ℕ → Type 0) (p : ℕ) → owner_at (g.at p) ≡ Some o → (b : Bool) → MatchBool b (Led o g P p) (¬ Led o g P p) → MatchBool b (ForcesInto g P p) (¬ ForcesInto g P p)
tells_led o g P p h true led =
    let w = owned g p o h in
    (w.0, w.1, subst (λ (x : Owner). Choice (foe x) w.0.moves (λ e. P e.target)) (sym w.2) (led_in o g P p w.0 w.1 led))
tells_led o g P p h false not = λ f.
    let w = owned g p o h in
    not (led_out o g P p w.0 w.1
    (subst (λ (x : Owner). Choice (foe x) w.0.moves (λ e. P e.target)) w.2
    (subst (λ (r : Place). Choice (foe r.owner) r.moves (λ e. P e.target)) (some_inj (sym f.1 ∙ w.1)) f.2)))

-- what is not missing is there
pub some_there : {A : Type 0} (o : Option A) → ¬ (o ≡ None) → (x : A) × (o ≡ Some x)
some_there None not = absurd (not refl)
some_there (Some x) not = (x, refl)

-- a place that is there has a move
pub some_move : (g : Game) → WellFormed g → (p : ℕ) → p < g.places → 1 ≤ count_at (g.at p)
some_move g wf p lt =
    let w = wf.here p lt in
    let some = w.2.sound.some_move in
    let same : count_at (g.at p) ≡ length w.0.moves = ap count_at w.1 in
    omega arith

-- and no more than a board allows
pub few_moves : (g : Game) → WellFormed g → (p : ℕ) → p < g.places → count_at (g.at p) ≤ most_moves
few_moves g wf p lt =
    let w = wf.here p lt in
    let few = w.2.sound.few_moves in
    let same : count_at (g.at p) ≡ length w.0.moves = ap count_at w.1 in
    omega arith

-- by what the test answers
pub by_test : {P Q : Type 0} (b : Bool) → (b ≡ true → P) → (b ≡ false → Q) → MatchBool b P Q
by_test true at_true at_false = at_true refl
by_test false at_true at_false = at_false refl

-- what is told of both answers is decided
pub decided : {P : Type 0} (b : Bool) → MatchBool b P (¬ P) → Decides b P
decided true p = (λ _. p, λ _. refl)
decided false not = (λ e. absurd (false≢true e), λ p. absurd (not p))

module _ (g : Game) (P : ℕ → Type 0) (p : ℕ) where
  -- a place of ours is forced there where each move leads there, and a place of theirs where some move does
  pub each_forces : owner_at (g.at p) ≡ Some Ours → (b : Bool)
      → MatchBool b ((m : ℕ) → m < count_at (g.at p) → LeadsTo g P p m) ((m : ℕ) × (m < count_at (g.at p)) × ¬ LeadsTo g P p m)
      → MatchBool b (ForcesInto g P p) (¬ ForcesInto g P p)
  unfolding Led
  each_forces h true all = tells_led Ours g P p h true (λ m e is.
      let w = all m (step_below (g.at p) m e is) in
      subst (λ (x : Edge). P x.target) (some_inj (sym w.1 ∙ is)) w.2)
  each_forces h false one = tells_led Ours g P p h false (λ f.
      let w = some_there (step_at (g.at p) one.0) (step_there (g.at p) one.0 one.1) in
      one.2 (w.0, w.1, f one.0 w.0 w.1))

  pub some_forces : owner_at (g.at p) ≡ Some Theirs → (b : Bool)
      → MatchBool b ((m : ℕ) × LeadsTo g P p m) ((m : ℕ) → m < count_at (g.at p) → ¬ LeadsTo g P p m)
      → MatchBool b (ForcesInto g P p) (¬ ForcesInto g P p)
  unfolding Led
  some_forces h true one = tells_led Theirs g P p h true (one.0, one.1.0, one.1.1, one.1.2)
  some_forces h false none = tells_led Theirs g P p h false (λ w. none w.0 (step_below (g.at p) w.0 w.1 w.2) (w.1, w.2, w.3))

-- what a search through the numbers below n has not found is not there
pub none_found : (P Q : ℕ → Type 0) (n count : ℕ) → n ≡ count → (o : Option ℕ) → MatchOption o ((k : ℕ) → 0 ≤ k → k < n → P k) (λ m. (0 ≤ m) × (m < n) × (¬ P m) × Q m)
    → MatchBool (is_none o) ((m : ℕ) → m < count → P m) ((m : ℕ) × (m < count) × ¬ P m)
none_found P Q n count same None all = λ m lt. all m (omega arith) (omega arith)
none_found P Q n count same (Some m) one = (m, (let lt = one.1 in omega arith), one.2)

-- and what it has found is there
pub some_found : (P Q : ℕ → Type 0) (n count : ℕ) → n ≡ count → (o : Option ℕ) → MatchOption o ((k : ℕ) → 0 ≤ k → k < n → ¬ P k) (λ m. (0 ≤ m) × (m < n) × P m × Q m)
    → MatchBool (is_some o) ((m : ℕ) × P m) ((m : ℕ) → m < count → ¬ P m)
some_found P Q n count same None none = λ m lt. none m (omega arith) (omega arith)
some_found P Q n count same (Some m) one = (m, one.2)
