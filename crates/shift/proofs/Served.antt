-- A shift at a good fill is served: one call after another.
use Rattle.std.specs.Bool.{then_some}
use Rattle.std.specs.Option.{option_map_or}
use Rattle.std.proofs.Common.{◌≡◌, ℕ, zero, suc, ◌<◌, ◌≤◌, Bool, true, false, not, ◌&&◌, eqb, leb, List, [], ◌∷◌, ◌++◌, get_or, is_some, is_ok, Some, None, Ok, Err, Option, sym, refl, ap, ◌∙◌, subst, arith}
use Rattle.std.specs.List.{slice_get}
use Rattle.std.proofs.lemmas.Bool.{true≢false, false≢true, not-true, not-false, eqb-true, eq-eqb, leb-true, le-leb, and_parts, and_from}
use Rattle.game.specs.declared.Edge.{Edge}
use Rattle.game.specs.declared.Owner.{Owner}
use Rattle.game.specs.declared.Owner.TheVariants.{Ours, Theirs}
use Rattle.game.specs.Game.{Game, Place, WellFormed}
use Rattle.game.specs.Vessel.{Table, Hopper, Keeps}
use Rattle.game.specs.Fill.{Choice, Good}
use Rattle.game.specs.Forced.{cell}
use Rattle.game.specs.Play.{Run, Poured}
use Rattle.game.proofs.Base.{none_some, some_inj, Through}
use Rattle.game.proofs.Decided.{good_leads_on}
use Rattle.game.proofs.Levels.{good_level}
use Rattle.hopper.specs.Faults.{Check, check, fault, refusal_number}
use Rattle.hopper.specs.declared.Fault.{Fault}
use Rattle.hopper.specs.declared.Layer.TheVariants.{Rest}
use Rattle.hopper.specs.declared.Refusal.{Refusal}
use Rattle.hopper.specs.declared.Refusal.TheVariants.{MarksTooShort, NoGoodMove, NoSuchMove, NotOnBoard, NotTheOpenOrder, OrderStillOpen, VesselRefuses}
use Rattle.hopper.specs.Boards.{owner_at, step_at, is_owner}
use Rattle.hopper.specs.Refusing.{verdict}
use Rattle.hopper.proofs.Boards.{step_place, step_inside}
use Rattle.hopper.proofs.Refusing.{none_fails, untrue}
use Rattle.solver.specs.Entries.{never}
use Rattle.solver.specs.Marking.{GoodWhereNever}
use Rattle.shift.specs.declared.Order.{Order}
use Rattle.shift.specs.declared.Shift.{Shift}
use Rattle.shift.specs.Good.{is_good, pours_good, has_good_move, FirstGoodMove}
use Rattle.shift.specs.Checks.{is_open_order, poured_to, refusal_at, order_checks, done_checks, withdrawn_checks, arrived_checks}
use Rattle.shift.specs.Answers.{opened_at, moved}
use Rattle.shift.specs.History.{Event, Ordered, Done, Withdrawn, Arrived, refused_with, move_made, moves_made, Happens, History}
use Rattle.shift.specs.StartingFill.{NeverRefusedWith, Served}
use Rattle.shift.proofs.Search.{none_there, some_there, all_fail}

-- ---- what a call at a good fill is refused with
-- it is neither that the vessel refuses a move, nor that an order lacks a good one
record Other (r : Refusal) : Type 0 where
  poured : ¬ (r ≡ VesselRefuses)
  ordered : ¬ (r ≡ NoGoodMove)

other : (r : Refusal) → ¬ (refusal_number r ≡ 33) → ¬ (refusal_number r ≡ 31) → Other r
other r no-33 no-31 = record { poured = λ is. no-33 (ap refusal_number is); ordered = λ is. no-31 (ap refusal_number is) }

-- the table refuses with neither of the two
record Safe (cs : List Check) : Type 0 where
  refusal : (f : Fault) → verdict cs ≡ Err f → Other f.refusal

safe_end : Safe []
safe_end = record { refusal = λ f is. absurd (true≢false (ap is_ok is)) }

-- a check refuses otherwise, or cannot refuse where those before it have passed
safe_more : (b : Bool) (f : Fault) (cs : List Check) → (b ≡ true → Other f.refusal) → (b ≡ false → Safe cs) → Safe (then_some b f ∷ cs)
safe_more true f cs first left = record { refusal = λ x is. (let same : f ≡ x = cc in subst (λ (y : Fault). Other y.refusal) same (first refl)) }
safe_more false f cs first left = record { refusal = λ x is. (left refl).refusal x is }

-- a check that refuses with neither of the two
other_more : (r : Refusal) (b : Bool) (n : ℕ) (cs : List Check) → ¬ (refusal_number r ≡ 33) → ¬ (refusal_number r ≡ 31) → (b ≡ false → Safe cs)
    → Safe (check b r Rest n ∷ cs)
other_more r b n cs no-33 no-31 left = safe_more b (fault r Rest n) cs (λ _. other r no-33 no-31) left

-- who chooses where the other does not
ours_left : (o : Owner) → is_owner Theirs (Some o) ≡ false → o ≡ Ours
ours_left Ours is = refl
ours_left Theirs is = absurd (true≢false is)

theirs_left : (o : Owner) → is_owner Ours (Some o) ≡ false → o ≡ Theirs
theirs_left Ours is = absurd (true≢false is)
theirs_left Theirs is = refl

-- one run after another
poured_on : (g : Game) (t : Table) (r r' : Run) (p c p1 c1 p2 c2 : ℕ) → Poured g t p c r p1 c1 → Poured g t p1 c1 r' p2 c2 → Poured g t p c (r ++ r') p2 c2
poured_on g t [] r' p c p1 c1 p2 c2 a b =
    subst (λ (x : ℕ). Poured g t x c r' p2 c2) (sym a.0) (subst (λ (x : ℕ). Poured g t p1 x r' p2 c2) (sym a.1) b)
poured_on g t (m ∷ r) r' p c p1 c1 p2 c2 a b =
    (a.0, a.1, a.2, a.3, poured_on g t r r' a.0.target a.2 p1 c1 p2 c2 a.4 b)

module _ (g : Game) (wf : WellFormed g) (v : Hopper) (keeps : Keeps v) (marks : List ℕ) (exact : GoodWhereNever g v marks) where
  -- a move leads on to a good fill
  abbrev Leads : ℕ → Edge → Type 0
  Leads c e = Through v.table (Good g v.table) c e

  -- ---- what the marks call good is good
  pub called_good : (p c : ℕ) → p < g.places → is_good v.top marks p c ≡ true → Good g v.table p c
  called_good p c lt is =
      let both = and_parts (leb c v.top) (eqb (get_or marks (cell v.top p c) 0) never) is in
      (exact p c lt (leb-true c v.top both.0)).0 (eqb-true (get_or marks (cell v.top p c) 0) never both.1)

  pub good_called : (p c : ℕ) → p < g.places → Good g v.table p c → is_good v.top marks p c ≡ true
  good_called p c lt good =
      let le : c ≤ v.top = good_level g wf v keeps.above p c good in
      and_from (leb c v.top) (eqb (get_or marks (cell v.top p c) 0) never)
      (le-leb c v.top le) (eq-eqb (get_or marks (cell v.top p c) 0) never ((exact p c lt le).1 good))

  pours_to_good : (c : ℕ) (e : Edge) → e.target < g.places → pours_good v marks c e ≡ true → Leads c e
  pours_to_good c e lt is = by (v.table c e.amount) refl is
    where
      by : (o : Option ℕ) → v.table c e.amount ≡ o → option_map_or (is_good v.top marks e.target) o false ≡ true → Leads c e
      by None poured is = absurd (false≢true is)
      by (Some d) poured is = (d, poured, called_good e.target d lt is)

  good_is_poured : (c : ℕ) (e : Edge) → e.target < g.places → Leads c e → pours_good v marks c e ≡ true
  good_is_poured c e lt w =
      ap (λ (o : Option ℕ). option_map_or (is_good v.top marks e.target) o false) w.1 ∙ good_called e.target w.0 lt w.2

  -- ---- a good fill leads on
  -- move m is one of the place, and leads on to a good fill
  abbrev LeadsOn : ℕ → ℕ → ℕ → Type 0
  LeadsOn p c m = (e : Edge) × (step_at (g.at p) m ≡ Some e) × Leads c e

  -- at a place that is not theirs one of the moves does
  ours_leads : (p c : ℕ) → Good g v.table p c → is_owner Theirs (owner_at (g.at p)) ≡ false → (m : ℕ) × LeadsOn p c m
  ours_leads p c good ours =
      let w = good_leads_on g wf v keeps p c good in
      let own : w.0.owner ≡ Ours = ours_left w.0.owner (sym (ap (λ (x : Option Place). is_owner Theirs (owner_at x)) w.1) ∙ ours) in
      let some = subst (λ (o : Owner). Choice o w.0.moves (Leads c)) own w.2 in
      (some.0, (some.1, ap (λ (x : Option Place). step_at x some.0) w.1 ∙ some.2, some.3))

  -- at a place that is not ours each of them does
  theirs_lead : (p c : ℕ) → Good g v.table p c → is_owner Ours (owner_at (g.at p)) ≡ false → (m : ℕ) (e : Edge) → step_at (g.at p) m ≡ Some e → Leads c e
  theirs_lead p c good theirs m e is =
      let w = good_leads_on g wf v keeps p c good in
      let own : w.0.owner ≡ Theirs = theirs_left w.0.owner (sym (ap (λ (x : Option Place). is_owner Ours (owner_at x)) w.1) ∙ theirs) in
      subst (λ (o : Owner). Choice o w.0.moves (Leads c)) own w.2 m e (sym (ap (λ (x : Option Place). step_at x m) w.1) ∙ is)

  -- so an order lacks no good move
  pub not_lacking : (p c : ℕ) → Good g v.table p c → is_owner Theirs (owner_at (g.at p)) ≡ false → has_good_move v marks c (g.at p) ≡ false → ⊥
  not_lacking p c good ours none =
      let w = ours_leads p c good ours in
      true≢false (sym (good_is_poured c w.1.0 (step_inside g wf p w.0 w.1.0 w.1.1) w.1.2) ∙ all_fail (pours_good v marks c) (g.at p) none w.0 w.1.0 w.1.1)

  -- ---- one call
  -- the move of the open order leads on
  abbrev Pending : Shift → Option ℕ → Type 0
  Pending s None = Unit {0}
  Pending s (Some m) = LeadsOn s.place s.level m

  pub record Sound (s : Shift) : Type 0 where
    pub good : Good g v.table s.place s.level
    pub pending : Pending s s.opened

  first_leads_on : (s : Shift) (m : ℕ) → FirstGoodMove v marks s.level (g.at s.place) m → LeadsOn s.place s.level m
  first_leads_on s m w =
      (w.move, w.is_move, pours_to_good s.level w.move (step_inside g wf s.place m w.move w.is_move) w.good)

  -- what is left of a shift by moves that are poured
  record Led (s : Shift) (run : Run) (s' : Shift) : Type 0 where
    sound : Sound s'
    led : Poured g v.table s.place s.level run s'.place s'.level

  module _ (s : Shift) (ok : Sound s) where
    -- the move m is made
    move_made_lem : (m : ℕ) → LeadsOn s.place s.level m → (s' : Shift) → s' ≡ moved v.table s (step_at (g.at s.place) m) → Led s (m ∷ []) s'
    move_made_lem m w s' is = subst (Led s (m ∷ [])) (sym (is ∙ there)) at
      where
        there : moved v.table s (step_at (g.at s.place) m) ≡ opened_at s.number w.0.target w.2.0
        there = ap (moved v.table s) w.1 ∙ ap (λ (o : Option ℕ). option_map_or (opened_at s.number w.0.target) o s) w.2.1

        at : Led s (m ∷ []) (opened_at s.number w.0.target w.2.0)
        at = record {
          sound = record { good = w.2.2; pending = tt };
          led = (w.0, step_place (g.at s.place) m w.0 w.1, w.2.0, w.2.1, (refl, refl));
        }

    stays : (s' : Shift) → s' ≡ s → Led s [] s'
    stays s' is = subst (Led s []) (sym is) (record { sound = ok; led = (refl, refl) })

    -- the vessel pours a move that leads on
    not_refused : (m : ℕ) → LeadsOn s.place s.level m → not (is_some (poured_to v.table s.level (step_at (g.at s.place) m))) ≡ true → ⊥
    not_refused m w fails =
        none_some (sym (none_there (poured_to v.table s.level (step_at (g.at s.place) m)) fails) ∙ (ap (poured_to v.table s.level) w.1 ∙ w.2.1))

    -- the open order's move leads on
    open_leads_on : (o : Order) → not (is_open_order s o) ≡ false → LeadsOn s.place s.level o.mv
    open_leads_on o is = by s.opened (not-false (is_open_order s o) is) ok.pending
      where
        by : (opened : Option ℕ)
            → option_map_or (λ m. eqb o.shift s.number && (eqb o.place s.place && eqb o.mv m)) opened false ≡ true → Pending s opened → LeadsOn s.place s.level o.mv
        by None named pending = absurd (false≢true named)
        by (Some m) named pending =
            let both = and_parts (eqb o.shift s.number) (eqb o.place s.place && eqb o.mv m) named in
            let same = eqb-true o.mv m (and_parts (eqb o.place s.place) (eqb o.mv m) both.1).1 in
            subst (LeadsOn s.place s.level) (sym same) pending

    -- each of their moves leads on
    theirs_leads_on : (m : ℕ) → is_owner Ours (owner_at (g.at s.place)) ≡ false → not (is_some (step_at (g.at s.place) m)) ≡ false → LeadsOn s.place s.level m
    theirs_leads_on m theirs there =
        let w = some_there (step_at (g.at s.place) m) there in
        (w.0, w.1, theirs_lead s.place s.level ok.good theirs m w.0 w.1)

    order_safe : Safe (order_checks g v marks s)
    order_safe =
        other_more OrderStillOpen _ _ _ (λ h. omega arith) (λ h. omega arith)
        (λ _. other_more NotOnBoard _ _ _ (λ h. omega arith) (λ h. omega arith)
        (λ _. other_more MarksTooShort _ _ _ (λ h. omega arith) (λ h. omega arith)
        (λ _. other_more (refusal_at Theirs) _ _ _ (λ h. omega arith) (λ h. omega arith)
        (λ ours. safe_more _ _ _ (λ fails. absurd (not_lacking s.place s.level ok.good ours (not-true (has_good_move v marks s.level (g.at s.place)) fails))) (λ _. safe_end)))))

    done_safe : (o : Order) → Safe (done_checks g v s o)
    done_safe o =
        other_more NotTheOpenOrder _ _ _ (λ h. omega arith) (λ h. omega arith)
        (λ named. other_more NotOnBoard _ _ _ (λ h. omega arith) (λ h. omega arith)
        (λ _. other_more (refusal_at Theirs) _ _ _ (λ h. omega arith) (λ h. omega arith)
        (λ _. other_more NoSuchMove _ _ _ (λ h. omega arith) (λ h. omega arith)
        (λ _. safe_more _ _ _ (λ fails. absurd (not_refused o.mv (open_leads_on o named) fails)) (λ _. safe_end)))))

    withdrawn_safe : (o : Order) → Safe (withdrawn_checks s o)
    withdrawn_safe o = other_more NotTheOpenOrder _ _ _ (λ h. omega arith) (λ h. omega arith) (λ _. safe_end)

    arrived_safe : (m : ℕ) → Safe (arrived_checks g v s m)
    arrived_safe m =
        other_more OrderStillOpen _ _ _ (λ h. omega arith) (λ h. omega arith)
        (λ _. other_more NotOnBoard _ _ _ (λ h. omega arith) (λ h. omega arith)
        (λ _. other_more (refusal_at Ours) _ _ _ (λ h. omega arith) (λ h. omega arith)
        (λ theirs. other_more NoSuchMove _ _ _ (λ h. omega arith) (λ h. omega arith)
        (λ there. safe_more _ _ _ (λ fails. absurd (not_refused m (theirs_leads_on m theirs there) fails)) (λ _. safe_end)))))

    -- what one call does: it is refused with neither of the two, and the shift is led on
    record Once (e : Event) (s' : Shift) : Type 0 where
      other : (f : Fault) → refused_with e ≡ Some f → Other f.refusal
      leads : Led s (move_made e) s'

    -- it is refused by a safe table
    refused : (cs : List Check) → Safe cs → (f : Fault) → verdict cs ≡ Err f → (f' : Fault) → Some f ≡ Some f' → Other f'.refusal
    refused cs safe f is f' same = subst (λ (y : Fault). Other y.refusal) (some_inj same) (safe.refusal f is)

    once : (e : Event) (s' : Shift) → Happens g v marks s e s' → Once e s'
    once (Ordered (Ok o)) s' a = record {
      other = λ f h. absurd (none_some h);
      leads = subst (Led s []) (sym a.1.2) (record { sound = record { good = ok.good; pending = first_leads_on s o.mv a.1.0 }; led = (refl, refl) });
    }
    once (Ordered (Err f)) s' a = record { other = refused (order_checks g v marks s) order_safe f a.0; leads = stays s' a.1 }
    once (Done o (Ok u)) s' a = record {
      other = λ f h. absurd (none_some h);
      leads = move_made_lem o.mv (open_leads_on o (untrue _ _ (none_fails (done_checks g v s o) (ap is_ok a.0)).0)) s' a.1;
    }
    once (Done o (Err x)) s' a = record { other = refused (done_checks g v s o) (done_safe o) x.fault a.0; leads = stays s' a.2 }
    once (Withdrawn o (Ok u)) s' a = record {
      other = λ f h. absurd (none_some h);
      leads = subst (Led s []) (sym a.1) (record { sound = record { good = ok.good; pending = tt }; led = (refl, refl) });
    }
    once (Withdrawn o (Err x)) s' a = record { other = refused (withdrawn_checks s o) (withdrawn_safe o) x.fault a.0; leads = stays s' a.2 }
    once (Arrived m (Ok u)) s' a =
        let passed = none_fails (arrived_checks g v s m) (ap is_ok a.0) in
        record {
          other = λ f h. absurd (none_some h);
          leads = move_made_lem m (theirs_leads_on m (untrue _ _ passed.1.1.0) (untrue _ _ passed.1.1.1.0)) s' a.1;
        }
    once (Arrived m (Err f)) s' a = record { other = refused (arrived_checks g v s m) (arrived_safe m) f a.0; leads = stays s' a.1 }

  -- ---- and so on
  -- none of the events was refused with it
  later : (r : Refusal) (e : Event) (es : List Event) → ((f : Fault) → refused_with e ≡ Some f → ¬ (f.refusal ≡ r)) → NeverRefusedWith r es → NeverRefusedWith r (e ∷ es)
  later r e es first rest zero x f is refused = first f (ap refused_with (some_inj is) ∙ refused)
  later r e es first rest (suc k) x f is refused = rest k x f is refused

  pub served : (es : List Event) (s s' : Shift) → Sound s → History g v marks s es s' → Served g v.table s.place s.level es s'
  served [] s s' ok h = record {
    poured = λ k e f is. absurd (none_some is);
    ordered = λ k e f is. absurd (none_some is);
    led = (ap (λ (x : Shift). x.place) h, ap (λ (x : Shift). x.level) h);
    good = subst (λ (x : Shift). Good g v.table x.place x.level) h ok.good;
  }
  served (e ∷ es) s s' ok h =
      let next : Shift = h.0 in
      let now = once s ok e next h.1 in
      let rest = served es next s' now.leads.sound h.2 in
      record {
        poured = later VesselRefuses e es (λ f is. (now.other f is).poured) rest.poured;
        ordered = later NoGoodMove e es (λ f is. (now.other f is).ordered) rest.ordered;
        led = poured_on g v.table (move_made e) (moves_made es) s.place s.level next.place next.level s'.place s'.level now.leads.led rest.led;
        good = rest.good;
      }
