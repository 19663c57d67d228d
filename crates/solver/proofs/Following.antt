-- The planned moves, and the runs that make them.
use Rattle.std.proofs.Common.{◌≡◌, ℕ, ◌<◌, ◌≤◌, true, false, ltb, leb, List, [], ◌∷◌, length, slice_index, ℤ, Some, None, Option, Ok, sym, refl, ap, ◌∙◌, subst, arith}
use native.Mathlib.Decide.{dec_le}
use Rattle.std.specs.List.{slice_get}
use Rattle.std.specs.Option.{MatchOption, ok_or}
use Rattle.game.specs.declared.Edge.{Edge}
use Rattle.game.specs.declared.Owner.{Owner}
use Rattle.game.specs.declared.Owner.TheVariants.{Ours, Theirs}
use Rattle.game.specs.Game.{Place, Game, WellFormed}
use Rattle.game.specs.Vessel.{Hopper, Keeps}
use Rattle.game.specs.Fill.{Choice, Good}
use Rattle.game.specs.Play.{Run, Leads, Poured}
use Rattle.game.specs.Rows.{Reaches, Parts, IsNeed, Need, Graded}
use Rattle.game.proofs.RowMaking.{need_if, serves}
use Rattle.game.proofs.Base.{none_some, some_inj, stable, Through}
use Rattle.game.proofs.Decided.{good_leads_on}
use Rattle.game.proofs.Force.{sound_at}
use Rattle.hopper.specs.Faults.{Check, check, fault}
use Rattle.hopper.specs.declared.Fault.{Fault}
use Rattle.hopper.specs.declared.Layer.TheVariants.{Rest}
use Rattle.hopper.specs.declared.Refusal.TheVariants.{NoSuchPlace, RowTooShort, PlanAtTheirs, NoMoveServes}
use Rattle.hopper.specs.Boards.{owner_at, step_at, count_at, is_owner}
use Rattle.hopper.specs.Refusing.{verdict}
use Rattle.hopper.proofs.Refusing.{second_decides}
use Rattle.hopper.proofs.Boards.{step_at_lem, step_below, step_inside, owner_some, owned}
use Rattle.solver.specs.Entries.{never, as_entry, entries}
use Rattle.solver.specs.Least.{GoodFrom}
use Rattle.solver.specs.Inner.Rows.{NeededFor}
use Rattle.solver.specs.Planning.{Enough, NeedsNoMore, Planned, PlanAnswers, AnswersWhereGood, FollowsPlan, PlannedRunsArePoured}
use Rattle.solver.proofs.Entries.{entry_small, entry_back, holds_from, holds_above}

-- a level has a good fill from the entry on, and no other
module _ (g : Game) (v : Hopper) (keeps : Keeps v) (row : List ℕ) (parted : GoodFrom g v row) (p : ℕ) (lt : p < g.places) where
  fits : v.top < never
  fits = let low = keeps.top_fits in omega arith

  good_at : (c : ℕ) → Enough row p c → c ≤ v.top → Good g v.table p c
  good_at = holds_from v.top fits (Good g v.table p) (slice_index row p) (parted p lt)

  enough_for : (c : ℕ) → c ≤ v.top → Good g v.table p c → Enough row p c
  enough_for = holds_above v.top fits (Good g v.table p) (slice_index row p) (parted p lt)

module _ (g : Game) (wf : WellFormed g) (v : Hopper) (keeps : Keeps v) (need : Need) (graded : Graded v need) (row : List ℕ) (p : ℕ) where
  -- a need that is reached at a level is no higher
  need_there : (wanted : ℕ) (a : ℤ) (c : ℕ) → Reaches v.table wanted a c → (n : ℕ) × (need wanted a ≡ Some n) × (n ≤ c)
  need_there wanted a c r = go (need wanted a) refl (graded wanted a)
    where
      go : (o : Option ℕ) → need wanted a ≡ o → IsNeed v wanted a o → (n : ℕ) × (need wanted a ≡ Some n) × (n ≤ c)
      go None e is = absurd (is c r)
      go (Some n) e is = (n, e, stable (dec_le n c) (λ not. is.2 c (omega arith) r))

  module _ (m n : ℕ) (asked : NeededFor g need row p m n) where
    -- what is needed is no more than the entry
    pub needs : n ≤ slice_index row p → slice_index row p < never → NeedsNoMore g v (entries row) p m
    needs le number = go (entries row asked.0.target) refl asked.2
      where
        go : (o : Option ℕ) → entries row asked.0.target ≡ o → as_entry n ≡ need_if need asked.0.amount o → NeedsNoMore g v (entries row) p m
        go None t is = absurd (none_some (sym is ∙ entry_small n (omega arith)))
        go (Some wanted) t is = record {
          move = asked.0;
          has = slice_index row p;
          wanted = wanted;
          needed = n;
          is_move = asked.1;
          entry = entry_small (slice_index row p) number;
          target = t;
          need = subst (IsNeed v wanted asked.0.amount) (sym is ∙ entry_small n (omega arith)) (graded wanted asked.0.amount);
          enough = le;
        }

    -- and only then
    pub needed_low : NeedsNoMore g v (entries row) p m → n ≤ slice_index row p
    needed_low s =
        let has = entry_back (slice_index row p) s.has s.entry in
        let same : s.move ≡ asked.0 = some_inj (sym s.is_move ∙ asked.1) in
        let there = need_there s.wanted s.move.amount s.needed (s.need.1 s.needed (omega arith) s.need.0) in
        let is : as_entry n ≡ Some there.0 =
        asked.2 ∙ (ap (serves need (entries row)) (sym same) ∙ (ap (need_if need s.move.amount) s.target ∙ there.1)) in
        let this = entry_back n there.0 is in
        omega (arith, has.0, s.enough, there.2, this.0)

  -- of good fills some move serves
  pub always_served : owner_at (g.at p) ≡ Some Ours → ((m : ℕ) → ¬ NeedsNoMore g v (entries row) p m) → GoodFrom g v row → slice_index row p < never → ⊥
  always_served own none parted number =
      let inside = owner_some g wf p Ours own in
      let x = slice_index row p in
      let w = owned g p Ours own in
      let here : Parts v.top (Good g v.table p) (Some x) = subst (Parts v.top (Good g v.table p)) (entry_small x number) (parted p inside) in
      let step = good_leads_on g wf v keeps p x (here.1 x (omega arith) here.0) in
      let ch : Choice w.0.owner w.0.moves (Through v.table (Good g v.table) x) = subst (λ (r : Place). Choice r.owner r.moves (Through v.table (Good g v.table) x)) (some_inj (sym step.1 ∙ w.1)) step.2 in
      let c : Choice Ours w.0.moves (Through v.table (Good g v.table) x) = subst (λ (o : Owner). Choice o w.0.moves (Through v.table (Good g v.table) x)) w.2 ch in
      let is = step_at_lem g p c.0 w.0 c.1 w.1 c.2 in
      let d≤ = keeps.within x c.1.amount c.3.0 c.3.1 in
      let t = slice_index row c.1.target in
      let enough : t ≤ c.3.0 = enough_for g v keeps row parted c.1.target (step_inside g wf p c.0 c.1 is) c.3.0 d≤ c.3.2 in
      let top = keeps.top_fits in
      let low = need_there t c.1.amount x (c.3.0, c.3.1, enough) in
      none c.0 (record {
        move = c.1;
        has = x;
        wanted = t;
        needed = low.0;
        is_move = is;
        entry = entry_small x number;
        target = entry_small t (omega arith);
        need = subst (IsNeed v t c.1.amount) low.1 (graded t c.1.amount);
        enough = low.2;
      })

-- ---- what is refused before any move is looked at
abbrev pub asked : Game → ℕ → ℕ → List Check
asked g room p =
    check (leb g.places p) NoSuchPlace Rest p ∷ check (ltb room g.places) RowTooShort Rest g.places
    ∷ check (is_owner Theirs (owner_at (g.at p))) PlanAtTheirs Rest p ∷ []

-- ---- what a search through the moves tells
abbrev pub FirstServing : Game → Hopper → List ℕ → ℕ → Option ℕ → Type 0
FirstServing g v row p o = MatchOption o ((m : ℕ) → ¬ NeedsNoMore g v (entries row) p m) (Planned g v row p)

pub first_found : (g : Game) (v : Hopper) (row : List ℕ) (p a n : ℕ) (o : Option ℕ) → a ≡ 0 → n ≡ count_at (g.at p)
    → MatchOption o ((k : ℕ) → a ≤ k → k < n → ¬ NeedsNoMore g v (entries row) p k)
    (λ m. (a ≤ m) × (m < n) × NeedsNoMore g v (entries row) p m × ((k : ℕ) → a ≤ k → k < m → ¬ NeedsNoMore g v (entries row) p k))
    → FirstServing g v row p o
first_found g v row p a n None start all none = λ m w. none m (omega arith) (let lt = step_below (g.at p) m w.move w.is_move in omega arith) w
first_found g v row p a n (Some m) start all one = record { serves = one.2; first = λ k lt. one.3 k (omega arith) lt }

module _ (g : Game) (wf : WellFormed g) (v : Hopper) (keeps : Keeps v) (need : Need) (graded : Graded v need) (row : List ℕ) (p : ℕ) where
  pub found_answer : (o : Option ℕ) → FirstServing g v row p o → verdict (asked g (length row) p) ≡ Ok tt → PlanAnswers g v row p (ok_or o (fault NoMoveServes Rest p))
  found_answer (Some m) s h = (sym (second_decides (asked g (length row) p) (check false NoMoveServes Rest p ∷ []) tt tt (sym h)), s)
  found_answer None s h = (sym (second_decides (asked g (length row) p) (check true NoMoveServes Rest p ∷ []) tt tt (sym h)), λ ok. s)

  pub found_served : (o : Option ℕ) (f : Fault) → FirstServing g v row p o → AnswersWhereGood g v row p (ok_or o f)
  found_served (Some m) f s good room own number = refl
  found_served None f s good room own number = absurd (always_served g wf v keeps need graded row p own s good number)

-- ---- a run that follows the plan
module _ (g : Game) (wf : WellFormed g) (v : Hopper) (keeps : Keeps v) (row : List ℕ) (parted : GoodFrom g v row) where
  -- one move, planned at our places, is poured to the target's entry or above
  one_move : (p c m : ℕ) (e : Edge) (o : Owner) (ms : List Edge) → g.at p ≡ Some (record { owner = o; moves = ms }) → slice_get ms m ≡ Some e
      → p < g.places → Enough row p c → c ≤ v.top → (owner_at (g.at p) ≡ Some Ours → Planned g v row p m)
      → (d : ℕ) × (v.table c e.amount ≡ Some d) × Enough row e.target d × (d ≤ v.top)
  one_move p c m e Ours ms at mv lt enough le planned =
      let s = (planned (ap owner_at at)).serves in
      let is : step_at (g.at p) m ≡ Some e = step_at_lem g p m (record { owner = Ours; moves = ms }) e at mv in
      let same : s.move ≡ e = some_inj (sym s.is_move ∙ is) in
      let has = entry_back (slice_index row p) s.has s.entry in
      let wants = entry_back (slice_index row s.move.target) s.wanted s.target in
      let more : s.needed ≤ c = omega (arith, has.0, s.enough) in
      let r = s.need.1 c more le in
      let d≤ = keeps.within c s.move.amount r.0 r.1 in
      let there : slice_index row s.move.target ≤ r.0 = omega (arith, wants.0, r.2) in
      subst (λ (x : Edge). (d : ℕ) × (v.table c x.amount ≡ Some d) × Enough row x.target d × (d ≤ v.top)) same (r.0, r.1, there, d≤)
  one_move p c m e Theirs ms at mv lt enough le planned =
      let step = good_leads_on g wf v keeps p c (good_at g v keeps row parted p lt c enough le) in
      let ch : Choice Theirs ms (Through v.table (Good g v.table) c) = subst (λ (r : Place). Choice r.owner r.moves (Through v.table (Good g v.table) c)) (some_inj (sym step.1 ∙ at)) step.2 in
      let th = ch m e mv in
      let inside = (sound_at g wf p (record { owner = Theirs; moves = ms }) at).sound.targets m e mv in
      let d≤ = keeps.within c e.amount th.0 th.1 in
      (th.0, th.1, enough_for g v keeps row parted e.target inside th.0 d≤ th.2, d≤)

  runs_poured : (run : Run) (p c p' : ℕ) → p < g.places → Enough row p c → c ≤ v.top → Leads g p run p' → FollowsPlan g v row p run
      → (c' : ℕ) × Poured g v.table p c run p' c' × Enough row p' c' × (c' ≤ v.top)
  runs_poured [] p c p' lt enough le leads follows = (c, (leads, refl), subst (λ (x : ℕ). Enough row x c) leads enough, le)
  runs_poured (m ∷ run) p c p' lt enough le leads follows =
      let e : Edge = leads.0 in
      let mv = leads.1 in
      let q : Place = mv.0 in
      let d = one_move p c m e q.owner q.moves mv.1 mv.2 lt enough le follows.0 in
      let w = runs_poured run e.target d.0 p' ((sound_at g wf p q mv.1).sound.targets m e mv.2) d.2 d.3 leads.2 (follows.1 e mv) in
      (w.0, (e, mv, d.0, d.1, w.1), w.2, w.3)

pub planned_runs_are_poured : (g : Game) → WellFormed g → (v : Hopper) → Keeps v → (row : List ℕ) → PlannedRunsArePoured g v row
planned_runs_are_poured g wf v keeps row good p c lt enough le run p' leads follows = runs_poured g wf v keeps row good run p c p' lt enough le leads follows
