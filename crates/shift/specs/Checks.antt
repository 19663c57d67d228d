-- The checks of a shift's calls, and the table of them that each call has.
use Rattle.std.specs.Prelude.{ℕ, ◌+◌, Bool, false, not, ◌&&◌, ◌||◌, List, [], ◌∷◌, length, is_some, Option, ◌==◌, nat_le, nat_lt}
use Rattle.std.specs.Option.{option_map_or, option_and_then}
use Rattle.game.specs.declared.Edge.{Edge}
use Rattle.game.specs.declared.Owner.{Owner}
use Rattle.game.specs.declared.Owner.TheVariants.{Ours, Theirs}
use Rattle.game.specs.Forced.{spill}
use Rattle.game.specs.Game.{Game}
use Rattle.game.specs.Limits.{most_fills}
use Rattle.game.specs.Vessel.{Hopper, Table}
use Rattle.hopper.specs.Faults.{Check, check}
use Rattle.hopper.specs.declared.Layer.TheVariants.{Rest}
use Rattle.hopper.specs.declared.Refusal.{Refusal}
use Rattle.hopper.specs.declared.Refusal.TheVariants as refusal
use Rattle.hopper.specs.Boards.{owner_at, is_owner, step_at}
use Rattle.shift.specs.declared.Order.{Order}
use Rattle.shift.specs.declared.Shift.{Shift}
use Rattle.shift.specs.Good.{is_good, has_good_move}

-- the order is the open one of the shift: it names the shift, its place and the move that is open
abbrev pub is_open_order : Shift → Order → Bool
is_open_order s o = option_map_or (λ m. o.shift == s.number && (o.place == s.place && o.mv == m)) s.opened false

-- the level that the vessel pours the move to from level c, None where there is no move or the vessel refuses it
abbrev pub poured_to : Table → ℕ → Option Edge → Option ℕ
poured_to t c = option_and_then (λ e. t c e.amount)

-- the check that refuses marks without room for the fills and the spill
abbrev pub marks_too_short : Game → Hopper → List ℕ → Check
marks_too_short g v marks = check (nat_lt (length marks) (spill g v.top + 1)) refusal.MarksTooShort Rest (spill g v.top + 1)

-- the check that refuses a shift with an open order
abbrev pub order_still_open : Shift → Check
order_still_open s = check (is_some s.opened) refusal.OrderStillOpen Rest s.place

-- the check that refuses a shift which stands off this board, or above this vessel's top
abbrev pub not_on_board : Game → Hopper → Shift → Check
not_on_board g v s = check (nat_le g.places s.place || nat_lt v.top s.level) refusal.NotOnBoard Rest s.place

-- how a call refuses that cannot be made at a place of this owner
abbrev pub refusal_at : Owner → Refusal
refusal_at Ours = refusal.PlaceIsOurs
refusal_at Theirs = refusal.PlaceIsTheirs

-- the check that refuses a shift at a place of this owner
abbrev pub place_is : Game → Owner → Shift → Check
place_is g o s = check (is_owner o (owner_at (g.at s.place))) (refusal_at o) Rest s.place

-- the check that refuses a shift with no move that is poured to a good level
abbrev pub no_good_move : Game → Hopper → List ℕ → Shift → Check
no_good_move g v marks s = check (not (has_good_move v marks s.level (g.at s.place))) refusal.NoGoodMove Rest s.place

-- the check that refuses an order that is not the open one of the shift
abbrev pub not_the_open_order : Shift → Order → Check
not_the_open_order s o = check (not (is_open_order s o)) refusal.NotTheOpenOrder Rest s.place

-- the check that refuses a move number that the place of the shift does not have
abbrev pub no_such_move : Game → Shift → ℕ → Check
no_such_move g s m = check (not (is_some (step_at (g.at s.place) m))) refusal.NoSuchMove Rest m

-- the check that refuses a move that the vessel does not pour from the level of the shift
abbrev pub vessel_refuses : Game → Hopper → Shift → ℕ → Check
vessel_refuses g v s m = check (not (is_some (poured_to v.table s.level (step_at (g.at s.place) m)))) refusal.VesselRefuses Rest s.place

-- the checks of `open` at place p and fill c, in their order
abbrev pub open_checks : Game → Hopper → List ℕ → ℕ → ℕ → List Check
open_checks g v marks p c =
    check (nat_lt most_fills (spill g v.top)) refusal.TooManyFills Rest v.top
    ∷ marks_too_short g v marks
    ∷ check (nat_le g.places p) refusal.NoSuchPlace Rest p
    ∷ check (nat_lt v.top c) refusal.FillAboveTop Rest c
    ∷ check (not (is_good v.top marks p c)) refusal.FillNotGood Rest p
    ∷ []

-- the checks of `order` on the shift s, in their order
abbrev pub order_checks : Game → Hopper → List ℕ → Shift → List Check
order_checks g v marks s =
    order_still_open s ∷ not_on_board g v s ∷ marks_too_short g v marks ∷ place_is g Theirs s ∷ no_good_move g v marks s ∷ []

-- the checks of `done` for the order o, in their order
abbrev pub done_checks : Game → Hopper → Shift → Order → List Check
done_checks g v s o =
    not_the_open_order s o ∷ not_on_board g v s ∷ place_is g Theirs s ∷ no_such_move g s o.mv ∷ vessel_refuses g v s o.mv ∷ []

-- the one check of `withdrawn` for the order o
abbrev pub withdrawn_checks : Shift → Order → List Check
withdrawn_checks s o = not_the_open_order s o ∷ []

-- the checks of `arrived` for their move m, in their order
abbrev pub arrived_checks : Game → Hopper → Shift → ℕ → List Check
arrived_checks g v s m =
    order_still_open s ∷ not_on_board g v s ∷ place_is g Ours s ∷ no_such_move g s m ∷ vessel_refuses g v s m ∷ []

-- the one check of `close` on the shift s
abbrev pub close_checks : Shift → List Check
close_checks s = order_still_open s ∷ []
