-- A fill above the top does not hold for a move.
use Rattle.std.proofs.Common.{◌≡◌, ℕ, zero, suc, ◌<◌, ◌≤◌, List, length, ℤ, Some, None, sym, ◌∙◌, arith}
use native.Mathlib.Decide.{dec_le}
use Rattle.game.specs.Game.{Owner, Ours, Theirs, Edge, Game, WellFormed}
use Rattle.game.specs.Vessel.{Hopper}
use Rattle.game.specs.Fill.{Choice, Holds, Good, IsMark}
use Rattle.game.proofs.Base.{none_some, stable, Through}
use Rattle.game.proofs.Force.{sound_at, first_of}

module _ (g : Game) (wf : WellFormed g) (v : Hopper) (above : (c : ℕ) (a : ℤ) → v.top < c → v.table c a ≡ None) where
  choice_level : (o : Owner) (ms : List Edge) (c : ℕ) → 1 ≤ length ms → Choice o ms (Through v.table (Holds g v.table 0) c) → c ≤ v.top
  choice_level Ours ms c some ch = stable (dec_le c v.top) (λ not. none_some (sym (above c ch.1.amount (omega arith)) ∙ ch.3.1))
  choice_level Theirs ms c some ch =
      let f = first_of ms some in
      stable (dec_le c v.top) (λ not. none_some (sym (above c f.0.amount (omega arith)) ∙ (ch 0 f.0 f.1).1))

  pub holds_level : (p c : ℕ) → Holds g v.table 1 p c → c ≤ v.top
  holds_level p c h = choice_level h.0.owner h.0.moves c (sound_at g wf p h.0 h.1).sound.some_move h.2

  pub good_level : (p c : ℕ) → Good g v.table p c → c ≤ v.top
  good_level p c good = holds_level p c (good 1)

  -- so its mark is 1
  pub mark_above : (p c : ℕ) → v.top < c → IsMark g v.table p c (Some 1)
  mark_above p c lt = (λ h. (let le = holds_level p c h in omega arith), at)
    where
      at : (i : ℕ) → i < 1 → Holds g v.table i p c
      at zero l = tt
      at (suc i) l = absurd (omega arith)
