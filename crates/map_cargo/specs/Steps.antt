-- What each call on a cell or on the history leaves.
use Rattle.std.specs.Prelude.{◌≡◌, ◌≢◌, ℕ, ◌+◌, ◌<◌, ◌≤◌, Bool, zero, suc, List, [], ◌∷◌, ◌++◌, length, slice_index, slice_set, Some, None, true, false}
use Rattle.view_sums.specs.Sums.{total}
use Rattle.lock_model.specs.Locks.{Has}
use Rattle.hall.specs.Cargo.{exclusive_mode}
use Rattle.hall.specs.declared.hall.Hall.{Hall}
use Rattle.hall.specs.declared.view.View.{View}
use Rattle.hall.specs.declared.view.StepKind.{StepKind}
use Rattle.hall.specs.declared.view.StepKind.TheVariants.{StoreCargo}
use Rattle.hall.specs.declared.view.StepEntry.{StepEntry}
use Rattle.hall.specs.declared.view.Standing.TheVariants.{Away}
use Rattle.hall.specs.Passes.{shape_of, cargo_of}
use Rattle.hall.specs.Views.{standing, mode_of}
use Rattle.query_rules.specs.Maps.{reply_of, is_write, written}
use Rattle.map_cargo.specs.declared.size.MapCargo.{MapCargo}
use Rattle.map_cargo.specs.declared.entry.Entry.{Entry}
use Rattle.map_cargo.specs.declared.entry.Told.{Told}
use Rattle.map_cargo.specs.declared.entry.Told.TheVariants.{Wrote, Read}
use Rattle.map_cargo.specs.declared.entry.Part.{Part}
use Rattle.map_cargo.specs.Cells.{number_place, log_place, word_count}
use Rattle.map_cargo.specs.Entries.{named_cells, spoken_cells, log_words}
use Rattle.map_cargo.specs.Openings.{first_maps}
use Rattle.map_cargo.specs.History.{words_of, plain_of, is_wrote, Stands, IsSettled, IsRested}

-- the hall has as many words as its cargo, which is so of what `make` gives
abbrev pub Suits : Hall MapCargo Part → Type 0
Suits h = (shape_of h).words ≡ word_count (cargo_of h)

-- the steps only became more: those that were made before stand behind the new ones
pub record MoreSteps (v w : View Part) : Type 0 where
  pub added : List StepEntry
  pub stand : w.steps ≡ added ++ v.steps

-- a call left all of a pass but its quota and its part, and its steps became more
pub record Stays (v w : View Part) : Type 0 where
  pub shape : w.shape ≡ v.shape
  pub standings : w.standings ≡ v.standings
  pub number : w.number ≡ v.number
  pub span : w.span ≡ v.span
  pub taken : w.taken ≡ v.taken
  pub trail : w.trail ≡ v.trail
  pub steps : MoreSteps v w

-- a call left all of a pass but its part, and its steps became more
pub record Alike (v w : View Part) : Type 0 where
  pub shape : w.shape ≡ v.shape
  pub standings : w.standings ≡ v.standings
  pub number : w.number ≡ v.number
  pub span : w.span ≡ v.span
  pub taken : w.taken ≡ v.taken
  pub trail : w.trail ≡ v.trail
  pub quota : w.quota ≡ v.quota
  pub steps : MoreSteps v w

-- a step of the pass on a word of the cargo, which has its place behind all slots and locks
abbrev pub cargo_step : View Part → StepKind → ℕ → ℕ → Bool → StepEntry
cargo_step v kind place word won = record { number = v.number; kind = kind; lock = 0; place = v.shape.slots + v.shape.locks + place; before = Away; word = word; won = won }

-- the stores of the first k words of log row w, the newest first
unfoldable pub row_stores : View Part → MapCargo → ℕ → Entry → ℕ → List StepEntry
row_stores v c w e zero = []
row_stores v c w e (suc k) = cargo_step v StoreCargo (log_place c w k) (slice_index (log_words e) k) true ∷ row_stores v c w e k

-- the part after a word of a cell was stored
abbrev pub rewrote : Part → ℕ → ℕ → ℕ → Part
rewrote p cell i value = record { words = (cell, slice_set (words_of p cell) i value) ∷ p.words; made = p.made; seen = p.seen; told = p.told; row = p.row; stored = p.stored }

-- nothing but the words of one cell changed
pub record Reworded (cell : ℕ) (p q : Part) : Type 0 where
  pub others : (k : ℕ) → k ≢ cell → words_of q k ≡ words_of p k
  pub made : q.made ≡ p.made
  pub seen : q.seen ≡ p.seen
  pub told : q.told ≡ p.told
  pub row : q.row ≡ p.row
  pub stored : q.stored ≡ p.stored

-- the part after k words of its log row were stored
abbrev pub logged : Part → ℕ → Part
logged p k = record { words = p.words; made = p.made; seen = p.seen; told = p.told; row = p.row; stored = k }

-- the part after a read was placed behind so many writes
abbrev pub placed : Part → ℕ → Entry → Part
placed p number e = record { words = p.words; made = p.made; seen = number; told = Read number e ∷ p.told; row = p.row; stored = p.stored }

-- the part after a reply was told that has no place
abbrev pub told_too : Part → Told → Part
told_too p t = record { words = p.words; made = p.made; seen = p.seen; told = t ∷ p.told; row = p.row; stored = p.stored }

-- a mode was lost: the pass knows what it knew
pub record Left (v w : View Part) : Type 0 where
  pub part : w.part ≡ v.part
  pub number : w.number ≡ v.number
  pub quota : w.quota ≡ v.quota
  pub span : w.span ≡ v.span
  pub taken : w.taken ≡ v.taken

-- a pass between two queries: away from each lock, with no log row half stored
abbrev pub IsIdle : View Part → Type 0
IsIdle v = ((lock : ℕ) → standing v lock ≡ Away) × IsRested v.part

-- a mode was gained at a lock: its cell is settled, and all else that the pass knows stays
pub record Gained (lock : ℕ) (v w : View Part) : Type 0 where
  pub settled : IsSettled lock w.part
  pub words : (k : ℕ) → k ≢ lock → words_of w.part k ≡ words_of v.part k
  pub plain : (k : ℕ) → k ≢ lock → plain_of w.part k ≡ plain_of v.part k
  pub seen : w.part.seen ≡ v.part.seen
  pub told : w.part.told ≡ v.part.told
  pub row : w.part.row ≡ v.part.row
  pub stored : w.part.stored ≡ v.part.stored
  pub number : w.number ≡ v.number
  pub quota : w.quota ≡ v.quota
  pub span : w.span ≡ v.span
  pub taken : w.taken ≡ v.taken
  pub steps : MoreSteps v w

-- a write was drawn, and so many words of its log row are stored: its plain maps are those that the write leaves, and it has a number that the pass hadn't seen
pub record Drew (stored : ℕ) (p q : Part) (number : ℕ) (e : Entry) : Type 0 where
  pub words : q.words ≡ p.words
  pub plain : (cell : ℕ) → plain_of q cell ≡ written (plain_of p) e.query cell
  pub fresh : p.seen ≤ number
  pub seen : q.seen ≡ number + 1
  pub told : q.told ≡ Wrote number e ∷ p.told
  pub row : q.row ≡ number
  pub stores : q.stored ≡ stored

-- The pass may draw a write for this entry: it holds each cell that the query names exclusively, and the entry says what the plain maps say
pub record MayDraw (c : MapCargo) (v : View Part) (e : Entry) : Type 0 where
  pub near : (cell : ℕ) → Has (named_cells e.query) cell → cell < c.cells
  pub holds : (cell : ℕ) → Has (named_cells e.query) cell → mode_of (standing v cell) ≡ exclusive_mode
  pub said : reply_of c.rows (plain_of v.part) e.query ≡ Some e.said
  pub writes : is_write e.said ≡ true
  pub rested : IsRested v.part

-- The pass may place a read for this entry: it holds each cell that the reply speaks of, and the entry says what the plain maps say
pub record MayPlace (c : MapCargo) (v : View Part) (e : Entry) : Type 0 where
  pub near : (cell : ℕ) → Has (spoken_cells e.query) cell → cell < c.cells
  pub holds : (cell : ℕ) → Has (spoken_cells e.query) cell → mode_of (standing v cell) ≢ None
  pub said : reply_of c.rows (plain_of v.part) e.query ≡ Some e.said
  pub reads : is_write e.said ≡ false

-- What a pass has at the end: its replies are those of one history, and the log rows of its writes hold their words
pub record Ended (c : MapCargo) (ws : List ℕ) (p : Part) (whole : Type 0) : Type 0 where
  -- the newest first
  pub entries : List Entry
  pub size : length ws ≡ word_count c
  pub number : slice_index ws (number_place c) ≡ length entries
  pub told : (t : Told) → Has p.told t → Stands (first_maps c) c.rows entries t
  pub logged : (w : ℕ) (e : Entry) → Has p.told (Wrote w e) → (j : ℕ) → j < 8 → slice_index ws (log_place c w j) ≡ slice_index (log_words e) j
  -- where all passes were joined, each number that was drawn is a write's in its replies, once
  pub written : whole → (w : ℕ) → w < length entries → (e : Entry) × Has p.told (Wrote w e)
  pub all : whole → (w : ℕ) → w < length entries → total (is_wrote w) p.told ≡ 1
