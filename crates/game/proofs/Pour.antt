-- What the tables answer.
use Rattle.std.proofs.Common.{◌≡◌, ℕ, ◌<◌, ◌≤◌, min, Bool, true, false, cond, leb, ℤ, pos, negsuc, ◌+ℤ◌, nat_abs, ◌≤ℤ◌, Some, None, Option, sym, refl, ap, ◌∙◌, subst, arith}
use Rattle.std.proofs.lemmas.Int.{ints}
use Rattle.std.proofs.lemmas.Bool.{cond-true, le-leb, leb-true}
use Rattle.game.specs.Game.{InLimits}
use Rattle.game.specs.Limits.{most_amount}
use Rattle.game.specs.Vessel.{Table, natural, capped, refused_past, unlimited, up_to, lip, closed}
use Rattle.game.proofs.Base.{none_some, some_inj}

pub cond_some : {A : Type 0} (b : Bool) (x : Option A) (d : A) → cond b x None ≡ Some d → (b ≡ true) × (x ≡ Some d)
cond_some true x d h = (refl, h)
cond_some false x d h = absurd (none_some h)

pub up_to_inv : (top : ℕ) (t : Table) (c : ℕ) (a : ℤ) (d : ℕ) → up_to top t c a ≡ Some d → (c ≤ top) × InLimits a × (t c a ≡ Some d)
up_to_inv top t c a d h =
    let one = cond_some (leb c top) (cond (leb (nat_abs a) most_amount) (t c a) None) d h in
    let two = cond_some (leb (nat_abs a) most_amount) (t c a) d one.1 in
    (leb-true c top one.0, leb-true (nat_abs a) most_amount two.0, two.1)

pub up_to_make : (top : ℕ) (t : Table) (c : ℕ) (a : ℤ) → c ≤ top → InLimits a → up_to top t c a ≡ t c a
up_to_make top t c a le lim =
    cond-true (leb c top) (cond (leb (nat_abs a) most_amount) (t c a) None) None (le-leb c top le)
    ∙ cond-true (leb (nat_abs a) most_amount) (t c a) None (le-leb (nat_abs a) most_amount lim)

pub some_of : (o : Option ℕ) → ((d : ℕ) → ¬ (o ≡ Some d)) → o ≡ None
some_of None h = refl
some_of (Some d) h = absurd (h d refl)

pub up_to_above : (top : ℕ) (t : Table) (c : ℕ) (a : ℤ) → top < c → up_to top t c a ≡ None
up_to_above top t c a h = some_of (up_to top t c a) (λ d k. let w = up_to_inv top t c a d k in omega (arith, w.0))

pub natural_inv : (z : ℤ) (d : ℕ) → natural z ≡ Some d → z ≡ pos d
natural_inv (pos n) d h = ap pos (some_inj h)
natural_inv (negsuc n) d h = absurd (none_some h)

pub natural_make : (z : ℤ) → pos 0 ≤ℤ z → (d : ℕ) × (z ≡ pos d)
natural_make (pos n) h = (n, refl)
natural_make (negsuc n) h = absurd (omega (arith, ints))

pub capped_inv : (top : ℕ) (o : Option ℕ) (d : ℕ) → capped top o ≡ Some d → (n : ℕ) × (o ≡ Some n) × (d ≡ min n top)
capped_inv top None d h = absurd (none_some h)
capped_inv top (Some n) d h = (n, refl, sym (some_inj h))

pub refused_past_inv : (top : ℕ) (o : Option ℕ) (d : ℕ) → refused_past top o ≡ Some d → (o ≡ Some d) × (d ≤ top)
refused_past_inv top None d h = absurd (none_some h)
refused_past_inv top (Some n) d h =
    let w = cond_some (leb n top) (Some n) d h in
    (w.1, subst (λ (x : ℕ). x ≤ top) (some_inj w.1) (leb-true n top w.0))

pub unlimited_inv : (c : ℕ) (a : ℤ) (d : ℕ) → unlimited c a ≡ Some d → pos c +ℤ a ≡ pos d
unlimited_inv c a d h = natural_inv (pos c +ℤ a) d h

pub unlimited_make : (c : ℕ) (a : ℤ) (d : ℕ) → pos c +ℤ a ≡ pos d → unlimited c a ≡ Some d
unlimited_make c a d h = ap natural h

pub lip_inv : (b c : ℕ) (a : ℤ) (d : ℕ) → (lip b).table c a ≡ Some d → (c ≤ b) × (n : ℕ) × (pos c +ℤ a ≡ pos n) × (d ≡ min n b)
lip_inv b c a d h =
    let w = up_to_inv b (λ c a. capped b (unlimited c a)) c a d h in
    let v = capped_inv b (unlimited c a) d w.2 in
    (w.0, v.0, unlimited_inv c a v.0 v.1, v.2)

pub lip_make : (b c : ℕ) (a : ℤ) (n : ℕ) → c ≤ b → InLimits a → pos c +ℤ a ≡ pos n → (lip b).table c a ≡ Some (min n b)
lip_make b c a n le lim h = up_to_make b (λ c a. capped b (unlimited c a)) c a le lim ∙ ap (capped b) (unlimited_make c a n h)

pub closed_inv : (b c : ℕ) (a : ℤ) (d : ℕ) → (closed b).table c a ≡ Some d → (c ≤ b) × (pos c +ℤ a ≡ pos d) × (d ≤ b)
closed_inv b c a d h =
    let w = up_to_inv b (λ c a. refused_past b (unlimited c a)) c a d h in
    let v = refused_past_inv b (unlimited c a) d w.2 in
    (w.0, unlimited_inv c a d v.0, v.1)

pub closed_make : (b c : ℕ) (a : ℤ) (d : ℕ) → c ≤ b → InLimits a → pos c +ℤ a ≡ pos d → d ≤ b → (closed b).table c a ≡ Some d
closed_make b c a d le lim h k =
    up_to_make b (λ c a. refused_past b (unlimited c a)) c a le lim
    ∙ (ap (refused_past b) (unlimited_make c a d h) ∙ cond-true (leb d b) (Some d) None (le-leb d b k))
