-- What an outlook's answers tell of each other, and one turn of the question.
use Rattle.std.proofs.Common.{◌≡◌, ℕ, suc, ◌+◌, ◌-◌, ◌<◌, ◌≤◌, Bool, true, false, List, length, get_or, replicate, Some, None, Decides, IfSome, Option, sym, refl, ap, ◌∙◌, subst, true≢false, arith}
use Rattle.std.proofs.lemmas.Bool.{false≢true}
use Rattle.std.proofs.Math.Bool.{Bool-set, beq}
use Rattle.std.proofs.Math.Logic.{∥∥₁_elim}
use Rattle.std.specs.List.{slice_get, All}
use native.Mathlib.Decide.{dec_lt}
use Rattle.std.proofs.lemmas.Bool.Decides.{Decides-like}
use Rattle.std.proofs.lemmas.List.{get_or_past}
use Rattle.std.proofs.lemmas.List.Elements.{All-replicate}
use Rattle.game.specs.declared.Edge.{Edge}
use Rattle.game.specs.declared.Owner.{Owner}
use Rattle.game.specs.declared.Owner.TheVariants.{Ours, Theirs}
use Rattle.game.specs.Game.{Place, Game, WellFormed}
use Rattle.game.specs.Fill.{Choice, Step, Holds}
use Rattle.game.proofs.Base.{none_some, some_inj, holds_le, holds_dec}
use Rattle.game.specs.Rows.{need_lip, need_drawn}
use Rattle.game.specs.Vessel.{lip, drawn}
use Rattle.game.proofs.Rows.{holds_up}
use Rattle.game.proofs.Vessels.{vessels_keep_rules}
use Rattle.hopper.specs.Any.{any_hopper}
use Rattle.hopper.specs.declared.any.AnyVessel.{AnyVessel}
use Rattle.hopper.specs.declared.any.AnyVessel.TheVariants.{OfLip, OfClosed, OfDrawn}
use Rattle.hopper.specs.Boards.{owner_at, is_owner, step_at, count_at}
use Rattle.hopper.proofs.Boards.{owned, step_at_lem, step_place, step_there, step_below}
use Rattle.lineformat.specs.Limits.{most_places}
use Rattle.lineformat.proofs.Formed.{file_formed}
use Rattle.lineformat.proofs.Sound.{accepted_line}
use Rattle.linefile.specs.Held.{file_of}
use Rattle.lookahead.specs.declared.Outlook.{Outlook}
use Rattle.lookahead.specs.declared.Question.{Question}
use Rattle.lookahead.specs.declared.Remembered.{Remembered}
use Rattle.lookahead.specs.Inner.Remembering.{is_ordered, game_in, hopper_in, HoldsIn, Held, HoldsHigher, Settles}
use Rattle.lookahead.specs.Inner.Asking.{IsNext, Refused, SomeLeads, AllLed, LeadsOn}

-- a test that answers true decides what holds, one that answers false what does not
pub decides_yes : {P : Type 0} (b : Bool) → b ≡ true → P → Decides b P
decides_yes b e p = (λ _. p, λ _. e)

pub decides_no : {P : Type 0} (b : Bool) → b ≡ false → (P → ⊥) → Decides b P
decides_no b e n = (λ t. absurd (true≢false (sym t ∙ e)), λ p. absurd (n p))

-- a test that is the same as another decides by that one
pub decides_same : {P : Type 0} (r b : Bool) → beq r b ≡ true → Decides r P → Decides b P
decides_same true true e d = d
decides_same true false e d = absurd (false≢true e)
decides_same false true e d = absurd (false≢true e)
decides_same false false e d = d

-- what all have that are there, has one that is read and is there
pub some_at : {X : Type 0} (P : X → Type 0) (xs : List (Option X)) (i : ℕ) (x : X) → get_or xs i None ≡ Some x → All (λ o. IfSome o P) xs → P x
some_at {X} P xs i x is all = by (dec_lt i (length xs))
  where
    by : Dec (i < length xs) → P x
    by (yes lt) = subst (λ (o : Option X). IfSome o P) is (all i None lt)
    by (no n) = absurd (none_some (sym (get_or_past xs i None (omega arith)) ∙ is))

-- where no question is there yet
pub none_led : (o : Outlook) (q : Question) (size : ℕ) → AllLed o q (replicate size None)
none_led o q size = All-replicate (λ n. IfSome n (SomeLeads o q)) size None tt

-- the line's game is within the limits
pub formed : (o : Outlook) → WellFormed (game_in o)
formed o = file_formed (file_of o.line.now) o.line.now.accepted

-- and has no more places than a line may have
pub few_places : (o : Outlook) → (game_in o).places ≤ most_places
few_places o = (accepted_line (file_of o.line.now) o.line.now.accepted).numbers.few_places.1

-- what holds for more moves holds for fewer
fewer : (o : Outlook) (i k p c : ℕ) → i ≤ k → HoldsIn o k p c → HoldsIn o i p c
fewer o i k p c le h =
    let e : k ≡ (k - i) + i = omega arith in
    holds_le (game_in o) (hopper_in o).table (k - i) i p c (subst (λ (n : ℕ). HoldsIn o n p c) e h)

-- over an ordered vessel a higher fill up to the top holds wherever a lower one does
pub holds_higher : (o : Outlook) (c d : ℕ) → is_ordered o.vessel ≡ true → c ≤ d → HoldsHigher o c d
holds_higher o c d ordered le k p top h = by o.vessel ordered top h
  where
    g : Game
    g = game_in o

    by : (v : AnyVessel) → is_ordered v ≡ true → d ≤ (any_hopper v).top → Holds g (any_hopper v).table k p c → Holds g (any_hopper v).table k p d
    by (OfLip v) _ l h =
        let rules = vessels_keep_rules v.top.litres 0 v.top.fits in
        holds_up g (formed o) (lip v.top.litres) rules.lip_keeps (need_lip v.top.litres) rules.lip_graded k p c d (le, l) h
    by (OfClosed v) e l h = absurd (true≢false (sym e))
    by (OfDrawn v) _ l h =
        let rules = vessels_keep_rules v.top.litres v.draw v.top.fits in
        holds_up g (formed o) (drawn v.top.litres v.draw) rules.drawn_keeps (need_drawn v.top.litres v.draw) rules.drawn_graded k p c d (le, l) h

-- an answer that held settles what asks for no more at a place where it is no harder
pub settles_held : (o : Outlook) (a : Remembered) (q : Question) → a.place ≡ q.place → a.held ≡ true → q.moves ≤ a.moves → q.level ≤ (hopper_in o).top → HoldsHigher o a.level q.level
    → Settles o a q
settles_held o a q same e le top up right = decides_yes a.held e
    (subst (λ (p : ℕ). HoldsIn o q.moves p q.level) same (up q.moves a.place top (fewer o q.moves a.moves a.place a.level le (right.1.0 e))))

pub settles_beaten : (o : Outlook) (a : Remembered) (q : Question) → a.place ≡ q.place → a.held ≡ false → a.moves ≤ q.moves → HoldsHigher o q.level a.level
    → Settles o a q
settles_beaten o a q same e le up right = decides_no a.held e (λ h.
    true≢false (sym (right.1.1 (up a.moves a.place right.0 (fewer o a.moves q.moves a.place q.level le (subst (λ (p : ℕ). HoldsIn o q.moves p q.level) (sym same) h)))) ∙ e))

-- whether a fill holds is decided, so an answer that merely is right is right
pub told : (o : Outlook) (q : Question) (b : Bool) → ∥ Decides b (Held o q) ∥₁ → Decides b (Held o q)
told o q b merely = by (holds_dec (game_in o) (hopper_in o).table q.moves q.place q.level)
  where
    by : Dec (Held o q) → Decides b (Held o q)
    by (yes h) = decides_yes b (∥∥₁_elim merely (Bool-set _ _) (λ d. d.1 h)) h
    by (no n) = (λ e. absurd (∥∥₁_elim merely (λ x. absurd x) (λ d. n (d.0 e))), λ h. absurd (n h))

-- ---- one turn
module _ (o : Outlook) (q : Question) (pos : 1 ≤ q.moves) where
  abbrev Next : ℕ → ℕ → Type 0
  Next = HoldsIn o (q.moves - 1)

  turn_is : q.moves ≡ suc (q.moves - 1)
  turn_is = omega arith

  turn_in : Step (game_in o) (hopper_in o).table Next q.place q.level → Held o q
  turn_in s = subst (λ (n : ℕ). HoldsIn o n q.place q.level) (sym turn_is) s

  turn_out : Held o q → Step (game_in o) (hopper_in o).table Next q.place q.level
  turn_out h = subst (λ (n : ℕ). HoldsIn o n q.place q.level) turn_is h

  abbrev Through : Edge → Type 0
  Through e = (d : ℕ) × ((hopper_in o).table q.level e.amount ≡ Some d) × HoldsIn o (q.moves - 1) e.target d

  -- who chooses at the place, chooses among its moves
  chosen : (own : Owner) → owner_at ((game_in o).at q.place) ≡ Some own → Held o q → (r : Place) × ((game_in o).at q.place ≡ Some r) × Choice own r.moves Through
  chosen own is h =
      let w = owned (game_in o) q.place own is in
      let s = turn_out h in
      (s.0, s.1, subst (λ (y : Owner). Choice y s.0.moves Through) (ap (λ (r : Place). r.owner) (some_inj (sym s.1 ∙ w.1)) ∙ w.2) s.2)

  choose : (own : Owner) → owner_at ((game_in o).at q.place) ≡ Some own → ((r : Place) → (game_in o).at q.place ≡ Some r → Choice own r.moves Through) → Held o q
  choose own is f =
      let w = owned (game_in o) q.place own is in
      turn_in (w.0, w.1, subst (λ (y : Owner). Choice y w.0.moves Through) (sym w.2) (f w.0 w.1))

  -- a move that leads on is one that we can choose
  pub some_leads : owner_at ((game_in o).at q.place) ≡ Some Ours → (m : ℕ) → LeadsOn o q m → Held o q
  some_leads own m l = choose Ours own (λ r at.
      let s = step_place ((game_in o).at q.place) m l.0 l.1 in
      (m, l.0, subst (λ (x : Place). slice_get x.moves m ≡ Some l.0) (some_inj (sym s.1 ∙ at)) s.2, (l.2, l.3, l.4)))

  -- where we choose, a fill that holds has a move that leads on
  pub some_out : owner_at ((game_in o).at q.place) ≡ Some Ours → Held o q → (m : ℕ) × LeadsOn o q m
  some_out own h =
      let s = chosen Ours own h in
      let x = s.2 in
      (x.0, (x.1, step_at_lem (game_in o) q.place x.0 s.0 x.1 s.1 x.2, x.3.0, x.3.1, x.3.2))

  -- where every move leads on, whatever they choose does
  pub every_leads : owner_at ((game_in o).at q.place) ≡ Some Theirs → ((m : ℕ) → m < count_at ((game_in o).at q.place) → LeadsOn o q m) → Held o q
  every_leads own f = choose Theirs own (λ r at m e h.
      let is = step_at_lem (game_in o) q.place m r e at h in
      let l = f m (step_below ((game_in o).at q.place) m e is) in
      subst (λ (y : Edge). (d : ℕ) × ((hopper_in o).table q.level y.amount ≡ Some d) × HoldsIn o (q.moves - 1) y.target d) (some_inj (sym l.1 ∙ is)) (l.2, l.3, l.4))

  -- where they choose, each move of a fill that holds leads on
  pub every_out : owner_at ((game_in o).at q.place) ≡ Some Theirs → Held o q → (m : ℕ) → m < count_at ((game_in o).at q.place) → LeadsOn o q m
  every_out own h m lt = by (step_at ((game_in o).at q.place) m) refl
    where
      s : (r : Place) × ((game_in o).at q.place ≡ Some r) × Choice Theirs r.moves Through
      s = chosen Theirs own h

      by : (e : Option Edge) → step_at ((game_in o).at q.place) m ≡ e → LeadsOn o q m
      by None is = absurd (step_there ((game_in o).at q.place) m lt is)
      by (Some e) is =
          let v = step_place ((game_in o).at q.place) m e is in
          let x = s.2 m e (subst (λ (r : Place). slice_get r.moves m ≡ Some e) (some_inj (sym v.1 ∙ s.1)) v.2) in
          (e, is, x.0, x.1, x.2)

  -- where we choose a move that leads on settles the question, where they do one that does not
  pub one_settles : (own : Owner) → owner_at ((game_in o).at q.place) ≡ Some own → (m : ℕ) → m < count_at ((game_in o).at q.place)
      → Decides (is_owner Ours (Some own)) (LeadsOn o q m) → Decides (is_owner Ours (Some own)) (Held o q)
  one_settles Ours is m lt d = decides_yes true refl (some_leads is m (d.0 refl))
  one_settles Theirs is m lt d = decides_no false refl (λ h. false≢true (d.1 (every_out is h m lt)))

-- ---- what one move does
-- a move that the vessel refuses does not lead on
pub refused_leads_nowhere : (o : Outlook) (q : Question) (m : ℕ) → Refused o q m → LeadsOn o q m → ⊥
refused_leads_nowhere o q m r l =
    let same = some_inj (sym r.is ∙ l.1) in
    none_some (sym r.refused ∙ ap (λ (e : Edge). (hopper_in o).table q.level e.amount) same ∙ l.3)

-- a move leads on just where the fill that it leads to holds
pub leads_on_there : (o : Outlook) (q : Question) (m : ℕ) (n : Question) → IsNext o q m n → (b : Bool) → Decides b (Held o n) → Decides b (LeadsOn o q m)
leads_on_there o q m n l b h = Decides-like b
    (λ x. (l.edge, l.is, n.level, l.poured, subst (λ (k : ℕ). HoldsIn o k l.edge.target n.level) l.moves (subst (λ (p : ℕ). HoldsIn o n.moves p n.level) (sym l.to) x)))
    (λ x.
    let same = some_inj (sym x.1 ∙ l.is) in
    let level = some_inj (sym x.3 ∙ ap (λ (e : Edge). (hopper_in o).table q.level e.amount) same ∙ l.poured) in
    subst (λ (d : ℕ). HoldsIn o n.moves n.place d) level
    (subst (λ (p : ℕ). HoldsIn o n.moves p x.2) (ap (λ (e : Edge). e.target) same ∙ l.to)
    (subst (λ (k : ℕ). HoldsIn o k x.0.target x.2) (sym l.moves) x.4)))
    h

-- a question that some move leads to settles the one that it comes from by the same answer
pub led_settles : (o : Outlook) (q : Question) → 1 ≤ q.moves → (own : Owner) → owner_at ((game_in o).at q.place) ≡ Some own → (n : Question) → SomeLeads o q n
    → Decides (is_owner Ours (Some own)) (Held o n) → Decides (is_owner Ours (Some own)) (Held o q)
led_settles o q pos own is n led d =
    let l = led.1 in
    one_settles o q pos own is led.0 (step_below ((game_in o).at q.place) led.0 l.edge l.is) (leads_on_there o q led.0 n l (is_owner Ours (Some own)) d)
