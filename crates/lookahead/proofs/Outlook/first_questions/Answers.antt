use Rattle.std.proofs.Common.{◌≡◌, ◌⊎◌, ℕ, List, get_or, Some, None, IfSome, Option, inl, inr, sym, subst, arith}
use Rattle.std.proofs.lemmas.List.Elements.{All-set}
use Rattle.std.specs.List.{All}
use Rattle.lookahead.specs.declared.Outlook.{Outlook}
use Rattle.lookahead.specs.declared.Question.{Question}
use Rattle.lookahead.specs.Inner.Asking.{SomeLeads}
use Rattle.lookahead.proofs.Turns.{some_at, few_places}
use Rattle.lookahead.proofs.Outlook.first_questions.Goals.{in-Some, in_default}
use Rattle.lookahead.proofs.Outlook.first_questions.Goals as goal

-- some move leads to the question, if there is one
abbrev Led : Outlook → Question → Option Question → Type 0
Led o q first = IfSome first (SomeLeads o q)

-- one of two questions that moves lead to
either : (o : Outlook) (q n : Question) (firsts : List (Option Question)) (i : ℕ) (r : Question) → (r ≡ n) ⊎ (get_or firsts i None ≡ Some r)
    → SomeLeads o q n → All (Led o q) firsts → SomeLeads o q r
either o q n firsts i r (inl same) led all = subst (SomeLeads o q) (sym same) led
either o q n firsts i r (inr there) led all = some_at (SomeLeads o q) firsts i r there all

pub bounds-firsts-i : goal.bounds-firsts-i
bounds-firsts-i c = omega (arith, c.in-Some.ensures.there.place, few_places c.args.self.now)

pub bounds-firsts-i-in-Some : goal.bounds-firsts-i-in-Some
bounds-firsts-i-in-Some c = omega (arith, c.in-Some.ensures.there.place, few_places c.args.self.now)

pub loop-mv-preserved : goal.loop-mv-preserved
loop-mv-preserved c =
    let o = c.args.self.now in
    let q = c.args.turn.question in
    let firsts = c.loop-mv.firsts in
    elim c.match-lead.branch [
      | in-Some w ↦ λ old.
          let n = w.in-Some.next in
          let led : SomeLeads o q n = (c.loop-mv.mv, w.in-Some.ensures) in
          subst (All (Led o q)) (sym w.firsts-is) (All-set (Led o q) firsts n.place (Some w.or_sooner.result) (either o q n firsts n.place w.or_sooner.result w.or_sooner.ensures led (c.loop-mv.invariant old)) (c.loop-mv.invariant old))
      | in_default w ↦ λ old. subst (All (Led o q)) (sym w.firsts-is) (c.loop-mv.invariant old)
    ]
