-- The rows of a plan sheet as numbers, and what filling them answers.
use Rattle.std.specs.Prelude.{◌≡◌, ℕ, ◌<◌, ◌≤◌, List, length, Ok, Err, Some, None, Option, Result, MatchResult, slice_index, slice_index_or}
use Rattle.std.specs.Option.{option_map, unwrap_or}
use Rattle.std.specs.Result.{result_ok}
use Rattle.game.specs.Fill.{FirstRepeat, IsRow}
use Rattle.game.specs.Game.{Game}
use Rattle.game.specs.Owners.{owner_number}
use Rattle.game.specs.Vessel.{Hopper}
use Rattle.gauge.specs.Gauge.{most_litres, IsLeastHeight}
use Rattle.hopper.specs.Boards.{owner_at}
use Rattle.hopper.specs.declared.Fault.{Fault}
use Rattle.hopper.specs.declared.Layer.TheVariants.{Rest}
use Rattle.hopper.specs.declared.Refusal.TheVariants.{TableTooShort}
use Rattle.hopper.specs.Faults.{fault}
use Rattle.lineformat.specs.declared.Kind.TheVariants.{Closed}
use Rattle.lineformat.specs.Format.{Line}
use Rattle.lineformat.specs.Games.{game_of, hopper_of}
use Rattle.lineformat.specs.Kinds.{kind_number}
use Rattle.sheet.specs.Fills.{LeastMarkedGood, LeastGoodByMarks, OrderedMove, OrderedWhereGood}
use Rattle.solver.specs.Entries.{never, as_entry, entries}
use Rattle.solver.specs.Least.{RowTells}
use Rattle.solver.specs.Marking.{MarkPromises}
use Rattle.solver.specs.Planning.{PlanPromises}
use Rattle.panel.specs.declared.sheets.RowNumbers.{RowNumbers}
use Rattle.panel.specs.Told.{OnFile}

-- the height of a fill: never where there is no fill or the gauge does not go up to it, else the least height that holds it
abbrev pub HeightSays : Option ℕ → ℕ → Type 0
HeightSays None h = h ≡ never
HeightSays (Some c) h = (most_litres < c → h ≡ never) × (c ≤ most_litres → IsLeastHeight c h)

-- what the row of place p says: its number and its owner, the fill and the fill's height, and the move
pub record RowSays (g : Game) (p : ℕ) (level m : Option ℕ) (row : RowNumbers) : Type 0 where
  pub place : row.place ≡ p
  pub owner : option_map owner_number (owner_at (g.at p)) ≡ Some row.owner
  pub fill : row.fill ≡ unwrap_or level never
  pub height : HeightSays level row.height
  pub move : row.mv ≡ unwrap_or m never

-- the row that stands where there is none
abbrev pub no_row : RowNumbers
no_row = record { place = 0; owner = 0; fill = 0; height = 0; mv = 0 }

-- of each of the first n rows P holds, and the others are as they were
pub record RowsFilled (n : ℕ) (P : ℕ → RowNumbers → Type 0) (old new : List RowNumbers) : Type 0 where
  pub same_length : length new ≡ length old
  pub front : (p : ℕ) → p < n → P p (slice_index_or new p no_row)
  pub rest : (k : ℕ) → n ≤ k → slice_index_or new k no_row ≡ slice_index_or old k no_row

-- the row of place p, by a row of least fills and the move that is planned on it
abbrev pub PlannedRow : Game → Hopper → List ℕ → ℕ → RowNumbers → Type 0
PlannedRow g v least p row =
    (r : Result ℕ Fault) × PlanPromises g v least p r × RowSays g p (as_entry (slice_index least p)) (result_ok r) row

-- the sheet over a vessel with rows: by the row of least good fills, which is the first that repeats
pub record PlannedSheet (g : Game) (v : Hopper) (old new : List RowNumbers) (rounds : ℕ) : Type 0 where
  pub least : List ℕ
  pub first : FirstRepeat g v rounds
  pub held : IsRow g v rounds (entries least)
  pub tells : RowTells g v least
  pub rows : RowsFilled g.places (PlannedRow g v least) old new

-- the move of place p at a fill, which is ordered there; none where there is no fill
abbrev pub MoveAt : Game → Hopper → List ℕ → ℕ → Option ℕ → Option ℕ → Type 0
MoveAt g v marks p None mv = mv ≡ None
MoveAt g v marks p (Some c) mv = OrderedMove g v marks p c mv × OrderedWhereGood g v marks p c mv

-- the row of place p, by marks: the lowest fill that they call good, and the move that is ordered there
abbrev pub OrderedRow : Game → Hopper → List ℕ → ℕ → RowNumbers → Type 0
OrderedRow g v marks p row =
    (level : Option ℕ) × (mv : Option ℕ) × LeastMarkedGood v.top marks p level × LeastGoodByMarks v.top marks p level
    × MoveAt g v marks p level mv × RowSays g p level mv row

-- the sheet over a closed vessel: the fills are marked, and where that is accepted the rows are filled by the marks
abbrev pub OrderedSheet : Game → Hopper → List ℕ → List ℕ → List RowNumbers → List RowNumbers → Result ℕ Fault → Type 0
OrderedSheet g v marks marks' rows rows' r =
    MarkPromises g v marks marks' r × MatchResult r (λ _. RowsFilled g.places (OrderedRow g v marks') rows rows') (λ _. rows' ≡ rows)

-- an accepted sheet over a vessel with rows, which leaves the marks
abbrev pub PlannedAnswers : Line → List ℕ → List ℕ → List RowNumbers → List RowNumbers → Result ℕ Fault → Type 0
PlannedAnswers l marks marks' rows rows' (Ok rounds) = PlannedSheet (game_of l) (hopper_of l) rows rows' rounds × (marks' ≡ marks)
PlannedAnswers l marks marks' rows rows' (Err f) = ⊥

-- what the sheet of a line answers: refused where there are fewer rows than places, else as its kind of vessel has it
pub record SheetAnswers (l : Line) (marks marks' : List ℕ) (rows rows' : List RowNumbers) (r : Result ℕ Fault) : Type 0 where
  pub short : length rows < (game_of l).places
      → (r ≡ Err (fault TableTooShort Rest (game_of l).places)) × (marks' ≡ marks) × (rows' ≡ rows)
  pub ordered : (game_of l).places ≤ length rows → l.kind ≡ kind_number Closed
      → OrderedSheet (game_of l) (hopper_of l) marks marks' rows rows' r
  pub planned : (game_of l).places ≤ length rows → ¬ (l.kind ≡ kind_number Closed) → PlannedAnswers l marks marks' rows rows' r

-- what the sheet of the line of a file answers
abbrev pub FileSheet : List ℕ → List ℕ → List ℕ → List RowNumbers → List RowNumbers → Result ℕ Fault → Type 0
FileSheet file marks marks' rows rows' =
    OnFile file (λ l. SheetAnswers l marks marks' rows rows') ((marks' ≡ marks) × (rows' ≡ rows))
