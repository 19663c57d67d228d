-- Decisions: a fill holds for i moves or it does not.
use Rattle.std.proofs.Common.{◌≡◌, ℕ, zero, suc, ◌+◌, ◌⊎◌, List, [], ◌∷◌, Some, None, Option, sym, refl, ◌∙◌, subst, inl, inr, arith}
use Rattle.std.specs.List.{slice_get}
use Rattle.game.specs.Game.{Owner, Ours, Theirs, Edge, Place, Game}
use Rattle.game.specs.Vessel.{Table}
use Rattle.game.specs.Fill.{Choice, Step, Holds, Good}

pub none_some : {A : Type 0} {x : A} → None ≡ Some x → ⊥
none_some e = let z : ◌≡◌ {A = ℕ} 0 1 = cc in omega arith

pub some_inj : {A : Type 0} {x y : A} → Some x ≡ Some y → x ≡ y
some_inj e = cc

unfoldable pub not_dec : {A : Type 0} → Dec A → Dec (¬ A)
not_dec (yes a) = no (λ n. n a)
not_dec (no n) = yes n

unfoldable pub stable : {A : Type 0} → Dec A → ¬ ¬ A → A
stable (yes a) h = a
stable (no n) h = absurd (h n)

abbrev pub SomeMove : List Edge → (Edge → Type 0) → Type 0
SomeMove ms P = (m : ℕ) × (e : Edge) × (slice_get ms m ≡ Some e) × P e

abbrev pub EachMove : List Edge → (Edge → Type 0) → Type 0
EachMove ms P = (m : ℕ) (e : Edge) → slice_get ms m ≡ Some e → P e

unfoldable pub each_cons : (P : Edge → Type 0) (x : Edge) (xs : List Edge) → P x → EachMove xs P → EachMove (x ∷ xs) P
each_cons P x xs px pxs zero e h = subst P (some_inj h) px
each_cons P x xs px pxs (suc m) e h = pxs m e h

unfoldable pub find : (ms : List Edge) (P : Edge → Type 0) → ((e : Edge) → Dec (P e)) → SomeMove ms P ⊎ EachMove ms (λ e. ¬ P e)
find [] P dec = inr (λ m e h. absurd (none_some h))
find (x ∷ xs) P dec = go (dec x) (find xs P dec)
  where
    go : Dec (P x) → SomeMove xs P ⊎ EachMove xs (λ e. ¬ P e) → SomeMove (x ∷ xs) P ⊎ EachMove (x ∷ xs) (λ e. ¬ P e)
    go (yes px) r = inl (0, x, refl, px)
    go (no n) (inl w) = inl (suc w.0, w.1, w.2, w.3)
    go (no n) (inr f) = inr (each_cons (λ e. ¬ P e) x xs n f)

unfoldable pub choice_dec : (o : Owner) (ms : List Edge) (P : Edge → Type 0) → ((e : Edge) → Dec (P e)) → Dec (Choice o ms P)
choice_dec Ours ms P dec = go (find ms P dec)
  where
    go : SomeMove ms P ⊎ EachMove ms (λ e. ¬ P e) → Dec (SomeMove ms P)
    go (inl w) = yes w
    go (inr f) = no (λ w. f w.0 w.1 w.2 w.3)
choice_dec Theirs ms P dec = go (find ms (λ e. ¬ P e) (λ e. not_dec (dec e)))
  where
    go : SomeMove ms (λ e. ¬ P e) ⊎ EachMove ms (λ e. ¬ ¬ P e) → Dec (EachMove ms P)
    go (inl w) = no (λ f. w.3 (f w.0 w.1 w.2))
    go (inr f) = yes (λ m e h. stable (dec e) (f m e h))

-- the table answers a level in S
abbrev pub Pours : Option ℕ → (ℕ → Type 0) → Type 0
Pours o S = (d : ℕ) × (o ≡ Some d) × S d

unfoldable pub pours_dec : (o : Option ℕ) (S : ℕ → Type 0) → ((d : ℕ) → Dec (S d)) → Dec (Pours o S)
pours_dec None S dec = no (λ w. none_some w.1)
pours_dec (Some d) S dec = go (dec d)
  where
    go : Dec (S d) → Dec (Pours (Some d) S)
    go (yes s) = yes (d, refl, s)
    go (no n) = no (λ w. n (subst S (sym (some_inj w.1)) w.2))

abbrev pub Through : Table → (ℕ → ℕ → Type 0) → ℕ → Edge → Type 0
Through t S c e = Pours (t c e.amount) (S e.target)

unfoldable pub step_dec : (g : Game) (t : Table) (S : ℕ → ℕ → Type 0) → ((p c : ℕ) → Dec (S p c)) → (p c : ℕ) → Dec (Step g t S p c)
step_dec g t S dec p c = go (g.at p) refl
  where
    at : (q : Place) → g.at p ≡ Some q → Dec (Choice q.owner q.moves (Through t S c)) → Dec (Step g t S p c)
    at q h (yes x) = yes (q, h, x)
    at q h (no n) = no (λ w. n (subst (λ (r : Place). Choice r.owner r.moves (Through t S c)) (some_inj (sym w.1 ∙ h)) w.2))

    go : (o : Option Place) → g.at p ≡ o → Dec (Step g t S p c)
    go None h = no (λ w. none_some (sym h ∙ w.1))
    go (Some q) h =
        at q h (choice_dec q.owner q.moves (Through t S c) (λ e. pours_dec (t c e.amount) (S e.target) (dec e.target)))

unfoldable pub holds_dec : (g : Game) (t : Table) (i p c : ℕ) → Dec (Holds g t i p c)
holds_dec g t zero p c = yes tt
holds_dec g t (suc i) p c = step_dec g t (Holds g t i) (holds_dec g t i) p c

-- goodness is stable
pub good_stable : (g : Game) (t : Table) (p c : ℕ) → ¬ ¬ Good g t p c → Good g t p c
good_stable g t p c h i = stable (holds_dec g t i p c) (λ n. h (λ good. n (good i)))

-- a set of places and levels that a step keeps is good
pub choice_map : (o : Owner) (ms : List Edge) (P Q : Edge → Type 0) → ((m : ℕ) (e : Edge) → slice_get ms m ≡ Some e → P e → Q e) → Choice o ms P → Choice o ms Q
choice_map Ours ms P Q f w = (w.0, w.1, w.2, f w.0 w.1 w.2 w.3)
choice_map Theirs ms P Q f w = λ m e h. f m e h (w m e h)

pub step_map : (g : Game) (t : Table) (S R : ℕ → ℕ → Type 0) → ((p c : ℕ) → S p c → R p c) → (p c : ℕ) → Step g t S p c → Step g t R p c
step_map g t S R f p c w =
    (w.0, w.1, choice_map w.0.owner w.0.moves (Through t S c) (Through t R c) (λ m e h x. (x.0, x.1, f e.target x.0 x.2)) w.2)

pub good_by : (g : Game) (t : Table) (S : ℕ → ℕ → Type 0) → ((p c : ℕ) → S p c → Step g t S p c) → (i p c : ℕ) → S p c → Holds g t i p c
good_by g t S keep zero p c s = tt
good_by g t S keep (suc i) p c s = step_map g t S (Holds g t i) (good_by g t S keep i) p c (keep p c s)

pub holds_pred : (g : Game) (t : Table) (i p c : ℕ) → Holds g t (suc i) p c → Holds g t i p c
holds_pred g t zero p c h = tt
holds_pred g t (suc i) p c h = step_map g t (Holds g t (suc i)) (Holds g t i) (holds_pred g t i) p c h

pub holds_le : (g : Game) (t : Table) (k i p c : ℕ) → Holds g t (k + i) p c → Holds g t i p c
holds_le g t zero i p c h = subst (λ (n : ℕ). Holds g t n p c) (omega arith) h
holds_le g t (suc k) i p c h =
    let e : suc k + i ≡ suc (k + i) = omega arith in
    holds_le g t k i p c (holds_pred g t (k + i) p c (subst (λ (n : ℕ). Holds g t n p c) e h))
