-- One pass over marks, place by place.
use Rattle.std.proofs.Common.{◌≡◌, ℕ, ◌+◌, max, Bool, true, false, List, get_or, IfSome, refl, inl, inr, arith, below_more}
use Rattle.std.specs.Bool.{then_some}
use Rattle.std.proofs.lemmas.Bool.{cases_lt}
use Rattle.game.specs.Game.{Game}
use Rattle.solver.specs.Entries.{never}
use Rattle.solver.specs.Inner.Marks.{IsDue, Settled}

-- what is answered where the test holds is so where it holds
pub if_then_some : {A : Type 0} (b : Bool) (x : A) (P : A → Type 0) → (b ≡ true → P x) → IfSome (then_some b x) P
if_then_some true x P f = f refl
if_then_some false x P f = tt

module _ (g : Game) (target n : ℕ) (marks : List ℕ) (rounds : ℕ) (s : Settled g target n marks rounds) (due : IsDue g marks target n (get_or marks n 0)) where
  -- a mark that is no number leaves the rounds as they were
  pub settled_never : get_or marks n 0 ≡ never → Settled g target (n + 1) marks rounds
  settled_never e = record {
    due = below_more _ n s.due due;
    most = below_more _ n s.most (inl e);
    attained = elim s.attained [ inl z ↦ inl z | inr k ↦ inr (k.0, (let l = k.1 in omega arith), k.2) ];
  }

  pub settled_number : (now : ℕ) → now ≡ max rounds (get_or marks n 0) → Settled g target (n + 1) marks now
  settled_number now e = record {
    due = below_more _ n s.due due;
    most = below_more _ n (λ p lt. elim (s.most p lt) [ inl a ↦ inl a | inr a ↦ inr (omega arith) ]) (inr (omega arith));
    attained = elim (cases_lt rounds (get_or marks n 0)) [
      | inl b ↦ inr (n, omega arith, omega arith)
      | inr b ↦ elim s.attained [ inl z ↦ inl (omega arith) | inr k ↦ inr (k.0, (let l = k.1 in omega arith), (let l = k.2 in omega arith)) ]
    ];
  }
