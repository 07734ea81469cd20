-- Steps of one query: what they keep, and what they tell.
use Rattle.std.specs.Prelude.{◌≡◌, ◌≢◌, ℕ, ◌+◌, ◌<◌, ◌≤◌, Bool, List, ◌++◌, ◌||◌, All, MatchBool, Some, true, false}
use Rattle.lock_model.specs.Locks.{Has}
use Rattle.hall.specs.declared.view.View.{View}
use Rattle.hall.specs.declared.view.StepEntry.{StepEntry}
use Rattle.hall.specs.declared.view.Standing.{Standing}
use Rattle.hall.specs.declared.view.Standing.TheVariants.{Away}
use Rattle.hall.specs.Cargo.{exclusive_mode}
use Rattle.hall.specs.Views.{standing, mode_of}
use Rattle.query_rules.specs.declared.query.Query.{Query}
use Rattle.query_rules.specs.declared.query.Query.TheVariants.{Get, Len, Put, Del, Add, Cas, PutLen, TryGet, TryPut, GetBy, PutBy}
use Rattle.query_rules.specs.declared.query.Said.{Said}
use Rattle.query_rules.specs.declared.query.Reply.{Reply}
use Rattle.query_rules.specs.Maps.{Maps, reply_of, is_write, after}
use Rattle.query_rules.specs.History.{IsKindFor}
use Rattle.map_cargo.specs.declared.size.MapCargo.{MapCargo}
use Rattle.map_cargo.specs.declared.entry.Part.{Part}
use Rattle.map_cargo.specs.Cells.{Means}
use Rattle.map_cargo.specs.Entries.{named_cells, spoken_cells}
use Rattle.map_cargo.specs.History.{words_of, plain_of, IsRested}
use Rattle.map_cargo.specs.Steps.{Alike, Gained, MoreSteps}
use Rattle.shared_mutex.specs.Tries.{AddsSteps, IsTry}
use Rattle.query_cells.specs.Asked.{AddsReply, is_job, tells_write}
use Rattle.query_cells.specs.Placing.{IsPlacedUnder, mode_for, number_word, stood_at}

-- nothing was told and no write was drawn
pub record TellsNothing (v w : View Part) : Type 0 where
  pub number : w.number ≡ v.number
  pub span : w.span ≡ v.span
  pub taken : w.taken ≡ v.taken
  pub quota : w.quota ≡ v.quota
  pub seen : w.part.seen ≡ v.part.seen
  pub told : w.part.told ≡ v.part.told
  pub row : w.part.row ≡ v.part.row
  pub stored : w.part.stored ≡ v.part.stored
  pub steps : MoreSteps v w

-- this reply was told, and nothing else
pub record Tells (c : MapCargo) (v w : View Part) (index : ℕ) (q : Query) (reply : Reply) : Type 0 where
  pub number : w.number ≡ v.number
  pub span : w.span ≡ v.span
  pub taken : w.taken ≡ v.taken
  pub quota : MatchBool (tells_write reply) (w.quota + 1 ≡ v.quota) (w.quota ≡ v.quota)
  pub kind : IsKindFor q reply
  pub of_maps : is_job reply ≡ false
  pub told : AddsReply v.number index q reply v.part w.part
  pub placing : IsPlacedUnder c v w q reply

-- steps after which each lock's standing leads back to that before them, and none of which was on the number word
pub record LeadsBack (c : MapCargo) (v w : View Part) : Type 0 where
  pub shape : w.shape ≡ v.shape
  pub added : List StepEntry
  pub stand : w.steps ≡ added ++ v.steps
  pub aside : All (λ (e : StepEntry). e.place ≢ number_word c v) added
  pub back : (lock : ℕ) → stood_at lock added (standing w lock) ≡ standing v lock

-- the pass holds each cell that this reply to the query speaks of in the mode for it
pub record HoldsFor (q : Query) (said : Said) (v : View Part) : Type 0 where
  pub each : (cell : ℕ) → Has (spoken_cells q) cell → mode_of (standing v cell) ≡ mode_for q said

-- a pass holds no other lock than this
abbrev pub OnlyAt : ℕ → View Part → Type 0
OnlyAt lock v = (k : ℕ) → k ≢ lock → standing v k ≡ Away

-- what may be told of cells that the pass holds exclusively: what the plain maps say, for which it has a write to draw where it is one
pub record MayTell (c : MapCargo) (v : View Part) (q : Query) (said : Said) : Type 0 where
  pub near : (cell : ℕ) → Has (named_cells q) cell → cell < c.cells
  pub holds : (cell : ℕ) → Has (named_cells q) cell → mode_of (standing v cell) ≡ exclusive_mode
  pub mode : mode_for q said ≡ exclusive_mode
  pub says : reply_of c.rows (plain_of v.part) q ≡ Some said
  pub quota : is_write said ≡ true → 1 ≤ v.quota
  pub rested : IsRested v.part

-- the plain maps are those that the reply leaves, and no word changed
pub record Follows (v w : View Part) (q : Query) (said : Said) : Type 0 where
  pub plain : (cell : ℕ) → plain_of w.part cell ≡ after (plain_of v.part) q said cell
  pub words : (cell : ℕ) → words_of w.part cell ≡ words_of v.part cell
  pub rested : IsRested w.part

-- the words of a cell are those that a reply leaves
abbrev pub Stored : View Part → ℕ → Query → Said → Type 0
Stored v cell q said = Means (words_of v.part cell) (after (plain_of v.part) q said cell)

-- the cell of a query that speaks of one
abbrev pub cell_of : Query → ℕ
cell_of (Get cell key) = cell
cell_of (Len cell) = cell
cell_of (Put cell key value) = cell
cell_of (Del cell key) = cell
cell_of (Add cell key delta) = cell
cell_of (Cas cell key old new) = cell
cell_of (PutLen cell key value) = cell
cell_of (TryGet cell key) = cell
cell_of (TryPut cell key value) = cell
cell_of (GetBy cell key deadline) = cell
cell_of (PutBy cell key value deadline) = cell
cell_of _ = 0

-- a query that reads one cell
abbrev pub reads_cell : Query → Bool
reads_cell (Get cell key) = true
reads_cell (Len cell) = true
reads_cell (TryGet cell key) = true
reads_cell (GetBy cell key deadline) = true
reads_cell _ = false

-- a query that takes one cell for writing, before it has looked at it
abbrev pub writes_cell : Query → Bool
writes_cell (Put cell key value) = true
writes_cell (Del cell key) = true
writes_cell (Add cell key delta) = true
writes_cell (PutLen cell key value) = true
writes_cell (TryPut cell key value) = true
writes_cell (PutBy cell key value deadline) = true
writes_cell _ = false

-- a query that looks at one cell first, and writes it only where it found what it expects
abbrev pub compares : Query → Bool
compares (Cas cell key old new) = true
compares _ = false

-- a query that may write one cell
abbrev pub changes_cell : Query → Bool
changes_cell q = writes_cell q || compares q

-- these maps have what a query that compares expects
abbrev pub HasExpected : Query → Maps → Type 0
HasExpected (Cas cell key old new) maps = (maps cell).value_at key ≡ Some old
HasExpected _ maps = Unit {0}

-- a cell's words are afterwards those that a reply to a query on the maps before leaves
abbrev pub Leaves : ℕ → View Part → View Part → Query → Said → Type 0
Leaves cell v w q said = Means (words_of w.part cell) (after (plain_of v.part) q said cell)

-- words of held cells may have changed, and nothing else that the pass knows
pub record ChangesWords (v w : View Part) : Type 0 where
  pub alike : Alike v w
  pub made : w.part.made ≡ v.part.made
  pub seen : w.part.seen ≡ v.part.seen
  pub told : w.part.told ≡ v.part.told
  pub row : w.part.row ≡ v.part.row
  pub stored : w.part.stored ≡ v.part.stored

-- a cell wasn't taken: the pass only tried for it, is away from it, and has told nothing
pub record TurnedAway (lock : ℕ) (v w : View Part) : Type 0 where
  pub away : standing w lock ≡ Away
  pub elsewhere : (k : ℕ) → k ≢ lock → standing w k ≡ standing v k
  pub nothing : TellsNothing v w
  pub tries : AddsSteps (IsTry v lock) v w

-- a cell was taken in this way: the pass knows its map
pub record Took (lock : ℕ) (y : Standing) (v w : View Part) : Type 0 where
  pub stands : standing w lock ≡ y
  pub elsewhere : (k : ℕ) → k ≢ lock → standing w k ≡ standing v k
  pub gained : Gained lock v w
