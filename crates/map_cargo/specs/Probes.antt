-- Which words of a cell the calls on it load and store, and which of them the search for a key loads.
use Rattle.std.specs.Prelude.{◌≡◌, ◌≢◌, ℕ, ◌+◌, ◌*◌, ◌<◌, ◌⊎◌, zero, suc, false, Option, Some, None, List, [], ◌∷◌, ◌++◌}
use Rattle.lock_model.specs.Locks.{Has}
use Rattle.hall.specs.declared.view.View.{View}
use Rattle.hall.specs.declared.view.StepKind.TheVariants.{LoadCargo, StoreCargo}
use Rattle.hall.specs.declared.view.StepEntry.{StepEntry}
use Rattle.hall.specs.Views.{cargo_place_of}
use Rattle.map_cargo.specs.declared.size.MapCargo.{MapCargo}
use Rattle.map_cargo.specs.declared.cells.Search.{Search}
use Rattle.map_cargo.specs.declared.cells.Search.TheVariants.{Here, Free, Nowhere}
use Rattle.map_cargo.specs.declared.entry.Part.{Part}
use Rattle.map_cargo.specs.Cells.{width}
use Rattle.map_cargo.specs.Rows.{home, way, row_above, key_at, IsUsed, IsFree, LookedAt}
use Rattle.map_cargo.specs.Steps.{cargo_step}

-- a load of a word of a cell
abbrev pub loaded : MapCargo → View Part → ℕ → ℕ → ℕ → StepEntry
loaded c v cell index word = cargo_step v LoadCargo (cell * width c + index) word false

-- a step of the pass that loads or stores a word of a cell
pub record IsInCell (c : MapCargo) (cell : ℕ) (v : View Part) (e : StepEntry) : Type 0 where
  pub index : ℕ
  pub below : index < width c
  pub place : e.place ≡ cargo_place_of v (cell * width c + index)
  pub kind : (e.kind ≡ LoadCargo) ⊎ (e.kind ≡ StoreCargo)
  pub number : e.number ≡ v.number

-- each step that a call added loads or stores a word of this cell
pub record StaysInCell (c : MapCargo) (cell : ℕ) (v w : View Part) : Type 0 where
  pub added : List StepEntry
  pub stand : w.steps ≡ added ++ v.steps
  pub each : (e : StepEntry) → Has added e → IsInCell c cell v e

-- These loads, the newest first, look for a key in at most so many rows of a cell, from a row on, and this is the value:
-- of each row the used word; where it is 1 the key word; and where that is the key the value word, which is the last.
-- A used word 0 is the last
abbrev pub Probes : MapCargo → View Part → ℕ → ℕ → ℕ → ℕ → Option ℕ → List StepEntry → Type 0
Probes c v cell key row zero got loads = (loads ≡ []) × (got ≡ None)
Probes c v cell key row (suc left) got loads =
    ((loads ≡ loaded c v cell (3 * row + 1) 0 ∷ []) × (got ≡ None))
    ⊎ ((value : ℕ) × (got ≡ Some value) × (loads ≡ loaded c v cell (3 * row + 3) value ∷ loaded c v cell (3 * row + 2) key ∷ loaded c v cell (3 * row + 1) 1 ∷ []))
    ⊎ ((other : ℕ) × (other ≢ key) × (rest : List StepEntry) × (loads ≡ rest ++ (loaded c v cell (3 * row + 2) other ∷ loaded c v cell (3 * row + 1) 1 ∷ [])) × Probes c v cell key (row_above c.rows row) left got rest)

-- the loads of a whole search for a key, which begins at its home
abbrev pub Seeks : MapCargo → View Part → ℕ → ℕ → Option ℕ → List StepEntry → Type 0
Seeks c v cell key got loads = Probes c v cell key (home c.rows key) c.rows got loads

-- the same for a search that ended so: where the key has a row, the load of its value is still to come
abbrev pub Sought : MapCargo → View Part → ℕ → ℕ → Search → List StepEntry → Type 0
Sought c v cell key (Here row) loads = (value : ℕ) → Seeks c v cell key (Some value) (loaded c v cell (3 * row + 3) value ∷ loads)
Sought c v cell key (Free row) loads = Seeks c v cell key None loads
Sought c v cell key Nowhere loads = Seeks c v cell key None loads

-- where a search for a key ended
abbrev pub Ends : ℕ → List ℕ → ℕ → Search → Type 0
Ends rows words key (Here row) = IsUsed rows words row × (key_at words row ≡ key)
Ends rows words key (Free row) = IsFree rows words row × LookedAt rows words key (way rows (home rows key) row)
Ends rows words key Nowhere = LookedAt rows words key rows
