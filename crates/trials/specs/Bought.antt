-- A board and a vessel that a buyer makes: their meanings, and that they keep the rules.
use Rattle.std.specs.Prelude.{◌≡◌, ℕ, zero, suc, ◌<◌, ◌≤◌, [], ◌∷◌, negsuc, Some, None, Option, unsigned_abs, refl}
use Rattle.std.proofs.Common.{sym, subst, lit≤, le_of_suc-le-suc, not-suc-le-zero, zero-le}
use Rattle.std.specs.List.{slice_get}
use Rattle.game.specs.declared.Edge.{Edge}
use Rattle.game.specs.declared.Owner.TheVariants.{Theirs}
use Rattle.game.specs.Game.{Game, Place, SoundPlace, WellFormed}
use Rattle.game.specs.Limits.{most_top, most_amount}
use Rattle.game.specs.Vessel.{Hopper, Keeps, up_to}
use Rattle.game.proofs.Base.{none_some, some_inj}
use Rattle.game.proofs.Vessels.{keeps_up_to}

-- one place of theirs, with a move to itself that takes a litre out
abbrev pub leak : Edge
leak = record { target = 0; amount = negsuc 0 }

-- at number 0, and nothing else
abbrev pub leak_at : ℕ → Option Place
leak_at zero = Some (record { owner = Theirs; moves = leak ∷ [] })
leak_at (suc p) = None

-- the game of that place
abbrev pub leak_game : Game
leak_game = record { places = 1; at = leak_at }

only_leak : (m : ℕ) (e : Edge) → slice_get (leak ∷ []) m ≡ Some e → leak ≡ e
only_leak zero e h = some_inj h
only_leak (suc m) e h = absurd (none_some h)

-- it keeps the rules of games
pub leak_formed : WellFormed leak_game
leak_formed =
    record {
      some_place = lit≤ tt;
      few_places = lit≤ tt;
      here = λ p h. here p h;
      gone = λ p h. gone p h;
    }
  where
    sound : SoundPlace leak_game (record { owner = Theirs; moves = leak ∷ [] })
    sound =
        record {
          sound = record {
            some_move = lit≤ tt;
            few_moves = lit≤ tt;
            targets = λ m e x. subst (λ (y : Edge). y.target < 1) (only_leak m e x) (lit≤ tt);
          };
          amounts = λ m e x. subst (λ (y : Edge). unsigned_abs y.amount ≤ most_amount) (only_leak m e x) (lit≤ tt);
        }

    here : (p : ℕ) → p < 1 → (q : Place) × (leak_at p ≡ Some q) × SoundPlace leak_game q
    here zero h = (record { owner = Theirs; moves = leak ∷ [] }, refl, sound)
    here (suc p) h = absurd (not-suc-le-zero (le_of_suc-le-suc h))

    gone : (p : ℕ) → 1 ≤ p → leak_at p ≡ None
    gone zero h = absurd (not-suc-le-zero h)
    gone (suc p) h = refl

-- a sieve: whatever is poured, nothing is left
abbrev pub sieve : ℕ → Hopper
sieve top = record { top = top; table = up_to top (λ c a. Some 0) }

-- it keeps the rules of vessels
pub sieve_keeps : (top : ℕ) → top ≤ most_top → Keeps (sieve top)
sieve_keeps top fits = keeps_up_to top (λ c a. Some 0) fits (λ c a d h. subst (λ (x : ℕ). x ≤ top) (some_inj h) zero-le)
