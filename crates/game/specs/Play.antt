-- Runs, plans and plays.
use Rattle.std.specs.Prelude.{◌≡◌, ℕ, zero, suc, ◌<◌, ◌⊎◌, List, [], ◌∷◌, Some, None, Option}
use Rattle.std.specs.List.{slice_get}
use Rattle.game.specs.Game.{Owner, Ours, Theirs, Edge, Place, Game}
use Rattle.game.specs.Vessel.{Table}

-- a run is the list of the move numbers made, first move first
abbrev pub Run : Type 0
Run = List ℕ

-- a plan answers a move number to the run so far; the replies of the other side are such a plan too
abbrev pub Plan : Type 0
Plan = Run → ℕ

-- the plan that is left once m has been made
abbrev pub after : ℕ → Plan → Plan
after m plan run = plan (m ∷ run)

-- e is move m of the place p
abbrev pub IsMove : Game → ℕ → ℕ → Edge → Type 0
IsMove g p m e = (q : Place) × (g.at p ≡ Some q) × (slice_get q.moves m ≡ Some e)

-- the run leads from p to p'
abbrev pub Leads : Game → ℕ → Run → ℕ → Type 0
Leads g p [] p' = p ≡ p'
Leads g p (m ∷ run) p' = (e : Edge) × IsMove g p m e × Leads g e.target run p'

-- wherever a run from p ends at a place of this owner, the plan names a move of that place
abbrev pub Legal : Game → Owner → ℕ → Plan → Type 0
Legal g o p plan =
    (run : Run) (p' : ℕ) (q : Place) → Leads g p run p' → g.at p' ≡ Some q → q.owner ≡ o
    → (e : Edge) × (slice_get q.moves (plan run) ≡ Some e)

-- the move number that the owner's plan answers at the start
abbrev pub chosen : Owner → Plan → Plan → ℕ
chosen Ours ours theirs = ours []
chosen Theirs ours theirs = theirs []

-- One legal reply of the other side makes it happen, against every plan of ours of this kind.
abbrev pub TheyBringAbout : Game → ℕ → (Plan → Type 0) → (Plan → Plan → Type 0) → Type 0
TheyBringAbout g p kind happens =
    (reply : Plan) × Legal g Theirs p reply
    × ((plan : Plan) → kind plan → happens plan reply)

-- One legal plan of ours keeps it from happening, against every reply.
abbrev pub WePrevent : Game → ℕ → (Plan → Plan → Type 0) → Type 0
WePrevent g p happens =
    (plan : Plan) × Legal g Ours p plan
    × ((reply : Plan) → ¬ happens plan reply)

-- It can be made to happen within just so many moves and no fewer, or, where it is None, be kept from ever happening.
abbrev pub ExactlyWithin : Game → ℕ → (Plan → Type 0) → (ℕ → Plan → Plan → Type 0) → Option ℕ → Type 0
ExactlyWithin g p kind within None = WePrevent g p (λ plan reply. (i : ℕ) × within i plan reply)
ExactlyWithin g p kind within (Some n) = TheyBringAbout g p kind (within n) × ((i : ℕ) → i < n → WePrevent g p (within i))

-- the play from p comes to the target within i moves
abbrev pub ReachesWithin : Game → ℕ → ℕ → ℕ → Plan → Plan → Type 0
ReachesWithin g target zero p ours theirs = p ≡ target
ReachesWithin g target (suc i) p ours theirs =
    (p ≡ target)
    ⊎ ((q : Place) × (g.at p ≡ Some q) × (e : Edge) × (slice_get q.moves (chosen q.owner ours theirs) ≡ Some e)
    × ReachesWithin g target i e.target (after (chosen q.owner ours theirs) ours) (after (chosen q.owner ours theirs) theirs))

-- The other side can bring the run from p to the target within just so many moves, or, where it is None, we keep away for ever.
abbrev pub ExactlyBrought : Game → ℕ → ℕ → Option ℕ → Type 0
ExactlyBrought g target p = ExactlyWithin g p (Legal g Ours p) (λ i. ReachesWithin g target i p)

-- the vessel pours the run from place p and level c, which leads to place p' and level c'
abbrev pub Poured : Game → Table → ℕ → ℕ → Run → ℕ → ℕ → Type 0
Poured g t p c [] p' c' = (p ≡ p') × (c ≡ c')
Poured g t p c (m ∷ run) p' c' =
    (e : Edge) × IsMove g p m e × (d : ℕ) × (t c e.amount ≡ Some d) × Poured g t e.target d run p' c'

-- over the vessel the plan names a move wherever it is asked for one
abbrev pub LegalOver : Game → Table → Owner → ℕ → ℕ → Plan → Type 0
LegalOver g t o p c plan =
    (run : Run) (p' c' : ℕ) (q : Place) → Poured g t p c run p' c' → g.at p' ≡ Some q → q.owner ≡ o
    → (e : Edge) × (slice_get q.moves (plan run) ≡ Some e)

-- in the play from place p at level c, one of the first i moves is refused by the vessel
abbrev pub RefusedWithin : Game → Table → ℕ → ℕ → ℕ → Plan → Plan → Type 0
RefusedWithin g t zero p c ours theirs = ⊥
RefusedWithin g t (suc i) p c ours theirs =
    (q : Place) × (g.at p ≡ Some q) × (e : Edge) × (slice_get q.moves (chosen q.owner ours theirs) ≡ Some e)
    × ((t c e.amount ≡ None)
    ⊎ ((d : ℕ) × (t c e.amount ≡ Some d)
    × RefusedWithin g t i e.target d (after (chosen q.owner ours theirs) ours) (after (chosen q.owner ours theirs) theirs)))

-- The other side makes the vessel refuse within i moves, against every plan that names a move wherever it is asked.
abbrev pub OtherSideForces : Game → Table → ℕ → ℕ → ℕ → Type 0
OtherSideForces g t i p c = TheyBringAbout g p (LegalOver g t Ours p c) (RefusedWithin g t i p c)

-- We keep the vessel from refusing within i moves.
abbrev pub WeHold : Game → Table → ℕ → ℕ → ℕ → Type 0
WeHold g t i p c = WePrevent g p (RefusedWithin g t i p c)

-- We keep the vessel from ever refusing.
abbrev pub WeHoldForever : Game → Table → ℕ → ℕ → Type 0
WeHoldForever g t p c = WePrevent g p (λ plan reply. (i : ℕ) × RefusedWithin g t i p c plan reply)

-- The other side can force a refusal within just so many moves and no fewer, or, where it is None, not at all.
abbrev pub ExactlyForced : Game → Table → ℕ → ℕ → Option ℕ → Type 0
ExactlyForced g t p c = ExactlyWithin g p (LegalOver g t Ours p c) (λ i. RefusedWithin g t i p c)
