use Rattle.std.proofs.Common.{◌≡◌, ◌-◌, Bool, true, false, Decides, sym, refl, ◌∙◌, subst, arith, below_more}
use Rattle.std.proofs.lemmas.Bool.Decides.{not_from_Decides}
use Rattle.hopper.proofs.Boards.{step_below}
use Rattle.lookahead.specs.declared.Outlook.{Outlook}
use Rattle.lookahead.specs.Inner.Asking.{SomeLeads, LeadsOn}
use Rattle.lookahead.specs.Inner.Remembering.{game_in, OnBoard, Held}
use Rattle.lookahead.proofs.Turns.{none_led, some_at, decides_yes, decides_no, decides_same, some_leads, some_out, every_leads, every_out, led_settles}
use Rattle.lookahead.proofs.Memory.+asking.Goals as goal

pub is_settled_by_one-holds-requires : goal.is_settled_by_one-holds-requires
is_settled_by_one-holds-requires t c =
    let o = c.args.self.now.outlook in
    let q = c.args.turn.question in
    let n = c.in-Some.next in
    let led : SomeLeads o q n = some_at (SomeLeads o q) c.first_questions.new.firsts c.loop-place.place n c.in-Some.is (c.first_questions.ensures (none_led o q 256)) in
    let one_fewer : n.moves ≡ q.moves - 1 = led.1.moves in
    (omega (arith, one_fewer, c.args.turn.some_move), subst (λ (x : Outlook). OnBoard x n) (sym c.loop-place.invariant) led.1.there)

pub is_settled_by_one-returns-in-loop-place-clause-answer :
    goal.is_settled_by_one-returns-in-loop-place-clause-answer
is_settled_by_one-returns-in-loop-place-clause-answer t c = λ _.
    let o = c.args.self.now.outlook in
    let q = c.args.turn.question in
    let n = c.in-Some.next in
    let led : SomeLeads o q n = some_at (SomeLeads o q) c.first_questions.new.firsts c.loop-place.place n c.in-Some.is (c.first_questions.ensures (none_led o q 256)) in
    let held = subst (λ (x : Outlook). Decides c.holds.result (Held x n)) c.loop-place.invariant c.holds.ensures.answer in
    led_settles o q c.args.turn.some_move c.args.owner c.requires n led (subst (λ (b : Bool). Decides b (Held o n)) c.we_choose.ensures (decides_same c.holds.result c.we_choose.result c.if-holds-we_choose.true held))

pub some_move-returns-then-leads_on-clause-answer : goal.some_move-returns-then-leads_on-clause-answer
some_move-returns-then-leads_on-clause-answer t c =
    let o = c.args.self.now.outlook in
    let q = c.args.turn.question in
    let on = subst (λ (x : Outlook). Decides c.leads_on.result (LeadsOn x q c.loop-mv.mv)) c.loop-mv.invariant.0 c.leads_on.ensures.answer in
    decides_yes true refl (some_leads o q c.args.turn.some_move c.requires c.loop-mv.mv (on.0 c.if-leads_on.true))

pub some_move-loop-mv-preserved : goal.some_move-loop-mv-preserved
some_move-loop-mv-preserved t c =
    let q = c.args.turn.question in
    let on = subst (λ (x : Outlook). Decides c.leads_on.result (LeadsOn x q c.loop-mv.mv)) c.loop-mv.invariant.0 c.leads_on.ensures.answer in
    (c.leads_on.ensures.same ∙ c.loop-mv.invariant.0, below_more _ _ c.loop-mv.invariant.1 (not_from_Decides c.leads_on.result on c.if-leads_on.false))

pub some_move-returns-clause-answer : goal.some_move-returns-clause-answer
some_move-returns-clause-answer t c =
    let o = c.args.self.now.outlook in
    let q = c.args.turn.question in
    decides_no false refl (λ h.
    let w = some_out o q c.args.turn.some_move c.requires h in
    let below = step_below ((game_in o).at q.place) w.0 w.1.0 w.1.1 in
    c.loop-mv.invariant.1 w.0 (omega (arith, below, c.count-count.ensures, c.loop-mv-test.false)) w.1)

pub every_move-returns-then-not-leads_on-clause-answer : goal.every_move-returns-then-not-leads_on-clause-answer
every_move-returns-then-not-leads_on-clause-answer t c =
    let o = c.args.self.now.outlook in
    let q = c.args.turn.question in
    let m = c.loop-mv.mv in
    let on = subst (λ (x : Outlook). Decides c.leads_on.result (LeadsOn x q m)) c.loop-mv.invariant.0 c.leads_on.ensures.answer in
    decides_no false refl (λ h.
    not_from_Decides c.leads_on.result on c.if-not-leads_on.true
    (every_out o q c.args.turn.some_move c.requires h m (omega (arith, c.loop-mv-test.true, c.count-count.ensures))))

pub every_move-loop-mv-preserved : goal.every_move-loop-mv-preserved
every_move-loop-mv-preserved t c =
    let q = c.args.turn.question in
    let on = subst (λ (x : Outlook). Decides c.leads_on.result (LeadsOn x q c.loop-mv.mv)) c.loop-mv.invariant.0 c.leads_on.ensures.answer in
    (c.leads_on.ensures.same ∙ c.loop-mv.invariant.0, below_more _ _ c.loop-mv.invariant.1 (on.0 c.if-not-leads_on.false))

pub every_move-returns-clause-answer : goal.every_move-returns-clause-answer
every_move-returns-clause-answer t c =
    let o = c.args.self.now.outlook in
    let q = c.args.turn.question in
    decides_yes true refl (every_leads o q c.args.turn.some_move c.requires
    (λ m lt. c.loop-mv.invariant.1 m (omega (arith, lt, c.count-count.ensures, c.loop-mv-test.false))))
