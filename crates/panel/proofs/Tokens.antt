-- An answer without its token, told by numbers, tells no less.
use Rattle.std.specs.Prelude.{⊤}
use Rattle.std.specs.Result.{result_map_both}
use Rattle.std.proofs.Common.{◌≡◌, ℕ, List, Ok, Err, Result, refl, sym, subst}
use Rattle.game.specs.Game.{Game}
use Rattle.game.specs.Vessel.{Hopper}
use Rattle.hopper.specs.declared.Fault.{Fault}
use Rattle.shift.specs.declared.Order.{Order}
use Rattle.shift.specs.declared.Returned.{Returned}
use Rattle.shift.specs.declared.Shift.{Shift}
use Rattle.shift.specs.Answers.{OrderAnswers, DoneAnswers}
use Rattle.panel.specs.Shifts.{given_out, handed_back}

module _ (g : Game) (v : Hopper) (s s' : Shift) where
  pub order_by_number : (marks : List ℕ) (r : Result Order Fault) (n : Result ℕ Fault) → OrderAnswers g v marks s s' r
      → n ≡ result_map_both (λ (o : Order). o.mv) (λ (f : Fault). f) r → OrderAnswers g v marks s s' (given_out s n)
  order_by_number marks (Ok o) n answered is =
      subst (λ (x : Result ℕ Fault). OrderAnswers g v marks s s' (given_out s x)) (sym is) (answered.0, (answered.1.0, refl, answered.1.2))
  order_by_number marks (Err f) n answered is =
      subst (λ (x : Result ℕ Fault). OrderAnswers g v marks s s' (given_out s x)) (sym is) answered

  pub done_without_order : (o : Order) (r : Result ⊤ Returned) (n : Result ⊤ Fault) → DoneAnswers g v o s s' r
      → n ≡ result_map_both (λ (u : ⊤). u) (λ (x : Returned). x.fault) r → DoneAnswers g v o s s' (handed_back o n)
  done_without_order o (Ok u) n answered is =
      subst (λ (x : Result ⊤ Fault). DoneAnswers g v o s s' (handed_back o x)) (sym is) answered
  done_without_order o (Err x) n answered is =
      subst (λ (y : Result ⊤ Fault). DoneAnswers g v o s s' (handed_back o y)) (sym is) (answered.0, refl, answered.2)
