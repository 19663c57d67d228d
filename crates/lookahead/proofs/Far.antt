-- Levels so far from both ends of a closed vessel that the next moves cannot reach them.
use Rattle.std.proofs.Common.{◌≡◌, ℕ, zero, suc, ◌+◌, ◌-◌, ◌*◌, ◌<◌, ◌≤◌, ℤ, pos, negsuc, ◌+ℤ◌, nat_abs, Some, arith}
use Rattle.std.proofs.lemmas.Int.{ints}
use Rattle.std.specs.List.{slice_get}
use Rattle.game.specs.declared.Edge.{Edge}
use Rattle.game.specs.declared.Owner.{Owner}
use Rattle.game.specs.declared.Owner.TheVariants.{Ours, Theirs}
use Rattle.game.specs.Game.{Game, Place, WellFormed, SoundPlace}
use Rattle.game.specs.Vessel.{closed}
use Rattle.game.specs.Fill.{Choice, Holds}
use Rattle.game.proofs.Force.{first_of}
use Rattle.game.proofs.Pour.{closed_make}

-- an amount of at most so many litres, poured at a level that it cannot carry below 0, leads no further than that
sum_near : (most c : ℕ) (a : ℤ) → nat_abs a ≤ most → most ≤ c → (d : ℕ) × (pos c +ℤ a ≡ pos d) × (d ≤ c + most) × (c ≤ d + most)
sum_near most c (pos n) lim le = (c + n, omega (arith, ints), omega arith, omega arith)
sum_near most c (negsuc n) lim le = (c - suc n, omega (arith, ints), omega arith, omega arith)

module _ (g : Game) (wf : WellFormed g) (top most : ℕ)
    (few : (p m : ℕ) (q : Place) (e : Edge) → g.at p ≡ Some q → slice_get q.moves m ≡ Some e → nat_abs e.amount ≤ most) where
  -- levels that k moves cannot carry below 0 or above the top hold for k moves
  abbrev FarHolds : ℕ → Type 0
  FarHolds k = (p c : ℕ) → p < g.places → k * most ≤ c → c + k * most ≤ top → Holds g (closed top).table k p c

  one_more : (k : ℕ) → FarHolds k → FarHolds (suc k)
  one_more k rest p c lt low high = (q, h.1, by q.owner)
    where
      h : (q : Place) × (g.at p ≡ Some q) × SoundPlace g q
      h = wf.here p lt

      q : Place
      q = h.0

      on : (m : ℕ) (e : Edge) → slice_get q.moves m ≡ Some e → (d : ℕ) × ((closed top).table c e.amount ≡ Some d) × Holds g (closed top).table k e.target d
      on m e is =
          let s = sum_near most c e.amount (few p m q e h.1 is) (omega arith) in (
            s.0,
            closed_make top c e.amount s.0 (omega arith) (h.2.amounts m e is) s.1 (omega (arith, s.2)),
            rest e.target s.0 (h.2.sound.targets m e is) (omega (arith, s.3)) (omega (arith, s.2)),
          )

      by : (o : Owner) → Choice o q.moves (λ e. (d : ℕ) × ((closed top).table c e.amount ≡ Some d) × Holds g (closed top).table k e.target d)
      by Ours = let f = first_of q.moves h.2.sound.some_move in (0, f.0, f.1, on 0 f.0 f.1)
      by Theirs = on

  pub far_holds : (k p c : ℕ) → p < g.places → k * most ≤ c → c + k * most ≤ top → Holds g (closed top).table k p c
  far_holds zero = λ p c lt low high. tt
  far_holds (suc k) = one_more k (far_holds k)
