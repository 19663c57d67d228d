-- The number of each refusal and of each layer, and the faults and checks made of them.
use Rattle.std.specs.Prelude.{ℕ, Bool, Option}
use Rattle.std.specs.Bool.{then_some}
use Rattle.std.specs.Option.{option_map}
use Rattle.hopper.specs.declared.Fault.{Fault}
use Rattle.hopper.specs.declared.Layer.{Layer}
use Rattle.hopper.specs.declared.Layer.TheVariants.{Bytes, File, Line, Rest}
use Rattle.hopper.specs.declared.Refusal.{Refusal}
use Rattle.hopper.specs.declared.Refusal.TheVariants as refusal

abbrev pub refusal_number : Refusal → ℕ
refusal_number refusal.FileTooLong = 1
refusal_number refusal.FileTooShort = 2
refusal_number refusal.UnknownVersion = 3
refusal_number refusal.UnknownKind = 4
refusal_number refusal.PlacesOutOfRange = 5
refusal_number refusal.MovesOutOfRange = 6
refusal_number refusal.VesselOutOfRange = 7
refusal_number refusal.WrongDistance = 8
refusal_number refusal.DistancePastStart = 9
refusal_number refusal.BadPlaceRecord = 10
refusal_number refusal.TotalsDiffer = 11
refusal_number refusal.BadNameByte = 12
refusal_number refusal.BadMoveRecord = 13
refusal_number refusal.TableTooShort = 14
refusal_number refusal.OutputTooShort = 15
refusal_number refusal.TooManyFills = 16
refusal_number refusal.MarksTooShort = 17
refusal_number refusal.NoSuchPlace = 18
refusal_number refusal.RowTooShort = 19
refusal_number refusal.RowsKeepChanging = 20
refusal_number refusal.PlanAtTheirs = 21
refusal_number refusal.NoMoveServes = 22
refusal_number refusal.FillAboveTop = 23
refusal_number refusal.LookTooFar = 24
refusal_number refusal.HeightAboveGauge = 25
refusal_number refusal.LitresAboveGauge = 26
refusal_number refusal.FillNotGood = 27
refusal_number refusal.OrderStillOpen = 28
refusal_number refusal.NotOnBoard = 29
refusal_number refusal.PlaceIsTheirs = 30
refusal_number refusal.NoGoodMove = 31
refusal_number refusal.NotTheOpenOrder = 32
refusal_number refusal.VesselRefuses = 33
refusal_number refusal.PlaceIsOurs = 34
refusal_number refusal.NoSuchMove = 35

abbrev pub layer_number : Layer → ℕ
layer_number Bytes = 1
layer_number File = 2
layer_number Line = 3
layer_number Rest = 4

-- a refusal in a layer at a spot
abbrev pub fault : Refusal → Layer → ℕ → Fault
fault r l s = record { refusal = r; layer = l; spot = s }

-- a check: the fault that it refuses with, or nothing where it passes
abbrev pub Check : Type 0
Check = Option Fault

-- a check that refuses where the test is true
abbrev pub check : Bool → Refusal → Layer → ℕ → Check
check b r l s = then_some b (fault r l s)

-- a check that refuses where something was found, with that as its spot
abbrev pub check_at : Option ℕ → Refusal → Layer → Check
check_at o r l = option_map (λ s. fault r l s) o
