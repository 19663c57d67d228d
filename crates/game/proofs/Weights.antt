-- The accumulated weights of the published problems are the levels of the tables.
use Rattle.std.proofs.Common.{◌≡◌, ℕ, zero, suc, ◌≤◌, min, ℤ, pos, ◌+ℤ◌, ◌≤ℤ◌, sym, refl, ap, ◌∙◌, subst, arith}
use Rattle.std.specs.Int.{int_min}
use Rattle.std.proofs.lemmas.Int.{ints, clamps}
use Rattle.game.specs.Game.{Edge, Game, WellFormed, InLimits}
use Rattle.game.specs.Vessel.{unlimited, lip, closed}
use Rattle.game.specs.Published.{Infinite, Wins, weakly, plainly}
use Rattle.game.proofs.Theorems.{LipIsLowerWeakUpperBound, ClosedIsIntervalBound, UnlimitedIsLowerBound}
use Rattle.game.proofs.Force.{sound_at}
use Rattle.game.proofs.Decided.{lip_dec, closed_dec, free_dec}
use Rattle.game.proofs.Outcomes.{Level, Stays, wins_good, good_wins}
use Rattle.game.proofs.Pour.{natural_make, unlimited_inv, unlimited_make, lip_inv, lip_make, closed_inv, closed_make}

abbrev tail : (ℕ → Edge) → ℕ → Edge
tail es j = es (suc j)

abbrev AllIn : (ℕ → Edge) → Type 0
AllIn es = (k : ℕ) → InLimits (es k).amount

min_of : (z : ℤ) (n b : ℕ) → z ≡ pos n → int_min z (pos b) ≡ pos (min n b)
min_of z n b h = ap (λ (x : ℤ). int_min x (pos b)) h ∙ omega (arith, ints, clamps)

-- ---- lip
weakly_tail : (b c d : ℕ) (es : ℕ → Edge) → int_min (int_min (pos c) (pos b) +ℤ (es 0).amount) (pos b) ≡ pos d → d ≤ b
    → (k : ℕ) → weakly (pos b) (pos c) es (suc k) ≡ weakly (pos b) (pos d) (tail es) k
weakly_tail b c d es h le zero = h ∙ omega (arith, ints, clamps)
weakly_tail b c d es h le (suc k) = ap (λ (z : ℤ). int_min (z +ℤ (es (suc k)).amount) (pos b)) (weakly_tail b c d es h le k)

under : (c b : ℕ) → c ≤ b → int_min (pos c) (pos b) ≡ pos c
under c b le = omega (arith, ints, clamps)

lip_one : (b c n : ℕ) (a : ℤ) → c ≤ b → pos c +ℤ a ≡ pos n → int_min (int_min (pos c) (pos b) +ℤ a) (pos b) ≡ pos (min n b)
lip_one b c n a le h = min_of (int_min (pos c) (pos b) +ℤ a) n b (ap (λ (z : ℤ). z +ℤ a) (under c b le) ∙ h)

lip_stays : (b : ℕ) (k c : ℕ) (es : ℕ → Edge) → c ≤ b → AllIn es → ((j : ℕ) → pos 0 ≤ℤ weakly (pos b) (pos c) es j) → (x : ℕ) × Level (lip b).table c es k x
lip_stays b zero c es le lim h = (c, refl)
lip_stays b (suc k) c es le lim h =
    let z : ℤ = int_min (pos c) (pos b) +ℤ (es 0).amount in
    let low : pos 0 ≤ℤ int_min z (pos b) = h 1 in
    let low' : pos 0 ≤ℤ (pos c +ℤ (es 0).amount) = subst (λ (w : ℤ). pos 0 ≤ℤ (w +ℤ (es 0).amount)) (under c b le) (omega (arith, ints, clamps)) in
    let n = natural_make (pos c +ℤ (es 0).amount) low' in
    let d : ℕ = min n.0 b in
    let one = lip_one b c n.0 (es 0).amount le n.1 in
    let rest = lip_stays b k d (tail es) (omega arith) (λ j. lim (suc j)) (λ j. subst (λ (w : ℤ). pos 0 ≤ℤ w) (weakly_tail b c d es one (omega arith) j) (h (suc j))) in
    (rest.0, (d, lip_make b c (es 0).amount n.0 le (lim 0) n.1, rest.1))

lip_weakly : (b : ℕ) (k c : ℕ) (es : ℕ → Edge) → c ≤ b → (x : ℕ) → Level (lip b).table c es k x → pos 0 ≤ℤ weakly (pos b) (pos c) es k
lip_weakly b zero c es le x lv = omega (arith, ints, clamps)
lip_weakly b (suc k) c es le x lv =
    let w = lip_inv b c (es 0).amount lv.0 lv.1 in
    let one = lip_one b c w.1 (es 0).amount le w.2 ∙ ap pos (sym w.3) in
    let le' : lv.0 ≤ b = omega (arith, w.3) in
    subst (λ (z : ℤ). pos 0 ≤ℤ z) (sym (weakly_tail b c lv.0 es one le' k)) (lip_weakly b k lv.0 (tail es) le' x lv.2)

-- ---- closed
plainly_tail : (c d : ℕ) (es : ℕ → Edge) → pos c +ℤ (es 0).amount ≡ pos d → (k : ℕ) → plainly (pos c) es (suc k) ≡ plainly (pos d) (tail es) k
plainly_tail c d es h zero = h
plainly_tail c d es h (suc k) = ap (λ (z : ℤ). z +ℤ (es (suc k)).amount) (plainly_tail c d es h k)

closed_stays : (b : ℕ) (k c : ℕ) (es : ℕ → Edge) → c ≤ b → AllIn es
    → ((j : ℕ) → (pos 0 ≤ℤ plainly (pos c) es j) × (plainly (pos c) es j ≤ℤ pos b)) → (x : ℕ) × Level (closed b).table c es k x
closed_stays b zero c es le lim h = (c, refl)
closed_stays b (suc k) c es le lim h =
    let n = natural_make (pos c +ℤ (es 0).amount) (h 1).0 in
    let d : ℕ = n.0 in
    let top : pos d ≤ℤ pos b = subst (λ (z : ℤ). z ≤ℤ pos b) n.1 (h 1).1 in
    let le' : d ≤ b = omega (arith, ints) in
    let rest = closed_stays b k d (tail es) le' (λ j. lim (suc j))
    (λ j. subst (λ (w : ℤ). (pos 0 ≤ℤ w) × (w ≤ℤ pos b)) (plainly_tail c d es n.1 j) (h (suc j))) in
    (rest.0, (d, closed_make b c (es 0).amount d le (lim 0) n.1 le', rest.1))

closed_plainly : (b : ℕ) (k c : ℕ) (es : ℕ → Edge) → c ≤ b → (x : ℕ) → Level (closed b).table c es k x
    → (pos 0 ≤ℤ plainly (pos c) es k) × (plainly (pos c) es k ≤ℤ pos b)
closed_plainly b zero c es le x lv = (omega (arith, ints), omega (arith, ints))
closed_plainly b (suc k) c es le x lv =
    let w = closed_inv b c (es 0).amount lv.0 lv.1 in
    subst (λ (z : ℤ). (pos 0 ≤ℤ z) × (z ≤ℤ pos b)) (sym (plainly_tail c lv.0 es w.1 k)) (closed_plainly b k lv.0 (tail es) w.2 x lv.2)

-- ---- without a lip
free_stays : (k c : ℕ) (es : ℕ → Edge) → ((j : ℕ) → pos 0 ≤ℤ plainly (pos c) es j) → (x : ℕ) × Level unlimited c es k x
free_stays zero c es h = (c, refl)
free_stays (suc k) c es h =
    let n = natural_make (pos c +ℤ (es 0).amount) (h 1) in
    let rest = free_stays k n.0 (tail es) (λ j. subst (λ (w : ℤ). pos 0 ≤ℤ w) (plainly_tail c n.0 es n.1 j) (h (suc j))) in
    (rest.0, (n.0, unlimited_make c (es 0).amount n.0 n.1, rest.1))

free_plainly : (k c : ℕ) (es : ℕ → Edge) → (x : ℕ) → Level unlimited c es k x → pos 0 ≤ℤ plainly (pos c) es k
free_plainly zero c es x lv = omega (arith, ints)
free_plainly (suc k) c es x lv =
    subst (λ (z : ℤ). pos 0 ≤ℤ z) (sym (plainly_tail c lv.0 es (unlimited_inv c (es 0).amount lv.0 lv.1) k)) (free_plainly k lv.0 (tail es) x lv.2)

-- ---- the theorems
all_in : (g : Game) → WellFormed g → (p : ℕ) (γ : Infinite g p) → AllIn γ.move
all_in g wf p γ k =
    let mv = γ.made k in
    (sound_at g wf (γ.place k) mv.0 mv.1).amounts (γ.number k) (γ.move k) mv.2

wins_map : (g : Game) (p : ℕ) (V W : (ℕ → Edge) → Type 0) → ((γ : Infinite g p) → V γ.move → W γ.move) → Wins g p V → Wins g p W
wins_map g p V W f w = (w.0, w.1, λ γ out. f γ (w.2 γ out))

pub lip_is_lower_weak_upper_bound : LipIsLowerWeakUpperBound
lip_is_lower_weak_upper_bound g wf b p c lt le = (
  λ good.
      wins_map g p (Stays (lip b).table c) (λ es. (k : ℕ) → pos 0 ≤ℤ weakly (pos b) (pos c) es k)
      (λ γ s k. lip_weakly b k c γ.move le (s k).0 (s k).1)
      (good_wins g wf (lip b).table (lip_dec g wf b) p c good),
  λ w.
      wins_good g wf (lip b).table p c lt
      (wins_map g p (λ es. (k : ℕ) → pos 0 ≤ℤ weakly (pos b) (pos c) es k) (Stays (lip b).table c)
      (λ γ h k. lip_stays b k c γ.move le (all_in g wf p γ) h) w),
)

pub closed_is_interval_bound : ClosedIsIntervalBound
closed_is_interval_bound g wf b p c lt le = (
  λ good.
      wins_map g p (Stays (closed b).table c) (λ es. (k : ℕ) → (pos 0 ≤ℤ plainly (pos c) es k) × (plainly (pos c) es k ≤ℤ pos b))
      (λ γ s k. closed_plainly b k c γ.move le (s k).0 (s k).1)
      (good_wins g wf (closed b).table (closed_dec g wf b) p c good),
  λ w.
      wins_good g wf (closed b).table p c lt
      (wins_map g p (λ es. (k : ℕ) → (pos 0 ≤ℤ plainly (pos c) es k) × (plainly (pos c) es k ≤ℤ pos b)) (Stays (closed b).table c)
      (λ γ h k. closed_stays b k c γ.move le (all_in g wf p γ) h) w),
)

pub unlimited_is_lower_bound : UnlimitedIsLowerBound
unlimited_is_lower_bound g wf p c lt = (
  λ good.
      wins_map g p (Stays unlimited c) (λ es. (k : ℕ) → pos 0 ≤ℤ plainly (pos c) es k)
      (λ γ s k. free_plainly k c γ.move (s k).0 (s k).1)
      (good_wins g wf unlimited (free_dec g wf) p c good),
  λ w.
      wins_good g wf unlimited p c lt
      (wins_map g p (λ es. (k : ℕ) → pos 0 ≤ℤ plainly (pos c) es k) (Stays unlimited c)
      (λ γ h k. free_stays k c γ.move h) w),
)
