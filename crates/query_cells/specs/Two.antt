-- Two cells that a query takes at once.
use Rattle.std.specs.Prelude.{◌≡◌, ◌≢◌, ℕ, ◌<◌, true, List, [], ◌∷◌, Some}
use Rattle.lock_model.specs.Locks.{Has}
use Rattle.lock_model.specs.declared.model.Mode.{Mode}
use Rattle.lock_model.specs.declared.model.Mode.TheVariants as modes
use Rattle.hall.specs.declared.view.Footprint.{Footprint}
use Rattle.hall.specs.declared.view.Shape.{Shape}
use Rattle.hall.specs.declared.view.View.{View}
use Rattle.hall.specs.declared.view.Standing.TheVariants.{Away}
use Rattle.hall.specs.Treading.{Treads}
use Rattle.hall.specs.Views.{standing, mode_of}
use Rattle.shared_mutex.specs.Refused.{AddsReads}
use Rattle.acquire_many.specs.declared.guards.Guards.{Guards}
use Rattle.acquire_many.specs.Guards.{Fit, said_by}
use Rattle.acquire_many.specs.Met.{HeldAll}
use Rattle.acquire_many.specs.Wants.{Want}
use Rattle.sync_cell.specs.Gains.{GainedInOrder}
use Rattle.map_cargo.specs.declared.entry.Part.{Part}
use Rattle.map_cargo.specs.History.{IsSettled}
use Rattle.query_cells.specs.Answers.{TellsNothing}

-- a pass holds these cells alone, all in this mode, and their words mean their maps
pub record HoldsCells (cells : List ℕ) (mode : Mode) (v : View Part) : Type 0 where
  pub each : (cell : ℕ) → Has cells cell → mode_of (standing v cell) ≡ Some mode
  pub others : (k : ℕ) → (Has cells k → ⊥) → standing v k ≡ Away
  pub settled : (cell : ℕ) → Has cells cell → IsSettled cell v.part

-- both cells are wanted in this mode
abbrev pub both_wanted : ℕ → ℕ → Mode → List Want
both_wanted one other mode = (one, mode) ∷ (other, mode) ∷ []

-- and these guards hold them so
pub record GuardsBoth (shape : Shape) (one other : ℕ) (mode : Mode) (guards : Guards) (v : View Part) : Type 0 where
  pub holds : HoldsCells (one ∷ other ∷ []) mode v
  pub fits : Fit shape v (said_by guards)
  pub held : HeldAll (both_wanted one other mode) (said_by guards)

-- of any two of these cells the lower one was gained before the higher one was tried for
abbrev pub GainsInOrder : List ℕ → View Part → View Part → Type 0
GainsInOrder cells v w = (low high : ℕ) → Has cells low → Has cells high → low < high → AddsReads (λ shape number added. GainedInOrder low high number added) v w

-- a footprint at one of these cells, and a strong one only where they are held in a stronger mode than shared
abbrev pub IsAtCells : List ℕ → Mode → Footprint → Type 0
IsAtCells cells mode m = Has cells m.lock × (m.strong ≡ true → mode ≢ modes.Shared)

-- two cells that differ were taken, the lower one first, and nothing was told
pub record TakesBoth (shape : Shape) (one other : ℕ) (mode : Mode) (guards : Guards) (v w : View Part) : Type 0 where
  pub apart : one ≢ other
  pub guarded : GuardsBoth shape one other mode guards w
  pub nothing : TellsNothing v w
  pub order : GainsInOrder (one ∷ other ∷ []) v w
  pub trail : Treads (IsAtCells (one ∷ other ∷ []) mode) v w
