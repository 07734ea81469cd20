-- Under which mode a reply was placed, read off the steps of the call that placed it.
use Rattle.std.specs.Prelude.{◌≡◌, ◌≢◌, ℕ, ◌+◌, ◌&&◌, Bool, true, false, cond, eqb, List, [], ◌∷◌, ◌++◌, All, Option, None}
use Rattle.lock_model.specs.Locks.{Has}
use Rattle.lock_model.specs.declared.model.Mode.{Mode}
use Rattle.hall.specs.declared.view.View.{View}
use Rattle.hall.specs.declared.view.StepKind.{StepKind}
use Rattle.hall.specs.declared.view.StepKind.TheVariants.{LoadCargo, StoreCargo, AddCargo, Split, Join}
use Rattle.hall.specs.declared.view.StepEntry.{StepEntry}
use Rattle.hall.specs.declared.view.Standing.{Standing}
use Rattle.hall.specs.Cargo.{shared_mode, upgrade_mode, exclusive_mode}
use Rattle.hall.specs.Views.{standing, mode_of}
use Rattle.query_rules.specs.declared.query.Query.{Query}
use Rattle.query_rules.specs.declared.query.Query.TheVariants.{Get, Len, Put, Del, Add, Cas, PutLen, Move, Both, TryGet, TryPut, GetBy, PutBy, Give, Take, Audit}
use Rattle.query_rules.specs.declared.query.Said.{Said}
use Rattle.query_rules.specs.declared.query.Reply.{Reply}
use Rattle.query_rules.specs.declared.query.Reply.TheVariants.{Placed, Busy, Late, Job}
use Rattle.query_rules.specs.Maps.{is_write}
use Rattle.query_rules.specs.History.{place_of}
use Rattle.map_cargo.specs.declared.size.MapCargo.{MapCargo}
use Rattle.map_cargo.specs.declared.entry.Part.{Part}
use Rattle.map_cargo.specs.Cells.{number_place}
use Rattle.map_cargo.specs.Entries.{spoken_cells}
use Rattle.map_cargo.specs.Steps.{MoreSteps}

-- the mode in which a query holds each cell that this reply to it speaks of, at the step that places the reply; a query of the ledger holds none. A `cas` writes where the key has the expected value, and else only looked
abbrev pub mode_for : Query → Said → Option Mode
mode_for (Get cell key) said = shared_mode
mode_for (Len cell) said = shared_mode
mode_for (Put cell key value) said = exclusive_mode
mode_for (Del cell key) said = exclusive_mode
mode_for (Add cell key delta) said = exclusive_mode
mode_for (Cas cell key old new) said = cond (is_write said) exclusive_mode upgrade_mode
mode_for (PutLen cell key value) said = exclusive_mode
mode_for (Move a b key n) said = exclusive_mode
mode_for (Both a b key) said = shared_mode
mode_for (TryGet cell key) said = shared_mode
mode_for (TryPut cell key value) said = exclusive_mode
mode_for (GetBy cell key deadline) said = shared_mode
mode_for (PutBy cell key value deadline) said = exclusive_mode
mode_for (Give key n) said = None
mode_for (Take key n) said = None
mode_for Audit said = None

-- a step for a lock, on its word or on a slot, and no step on a word of the cargo
abbrev pub is_of_lock : StepKind → Bool
is_of_lock LoadCargo = false
is_of_lock StoreCargo = false
is_of_lock AddCargo = false
is_of_lock Split = false
is_of_lock Join = false
is_of_lock kind = true

-- The standing at a lock before these steps, the newest first, where it is `now` after them: each step for the lock tells the standing before it
abbrev pub stood_at : ℕ → List StepEntry → Standing → Standing
stood_at lock [] now = now
stood_at lock (e ∷ older) now = stood_at lock older (cond (is_of_lock e.kind && eqb e.lock lock) e.before now)

-- where the hall's table has the number word
abbrev pub number_word : MapCargo → View Part → ℕ
number_word c v = v.shape.slots + v.shape.locks + number_place c

-- The call that led from v to w placed a reply: its step on the number word, which is the pass's last on it, drew the write's number or loaded how many writes there were; and at that step the pass held each cell that the reply speaks of in the mode for it
pub record PlacedUnder (c : MapCargo) (v w : View Part) (q : Query) (place : ℕ) (said : Said) : Type 0 where
  pub newer : List StepEntry
  pub step : StepEntry
  pub older : List StepEntry
  pub stand : w.steps ≡ newer ++ (step ∷ (older ++ v.steps))
  pub number : step.number ≡ v.number
  pub kind : step.kind ≡ cond (is_write said) AddCargo LoadCargo
  pub at : step.place ≡ number_word c w
  pub tells : place ≡ place_of step.word said
  pub last : All (λ (e : StepEntry). e.place ≢ number_word c w) newer
  pub held : (cell : ℕ) → Has (spoken_cells q) cell → mode_of (stood_at cell newer (standing w cell)) ≡ mode_for q said

-- which step placed a reply, and under which mode; a refused one and a job's were placed by none
abbrev pub IsPlacedUnder : MapCargo → View Part → View Part → Query → Reply → Type 0
IsPlacedUnder c v w q (Placed place said) = PlacedUnder c v w q place said
IsPlacedUnder c v w q Busy = MoreSteps v w
IsPlacedUnder c v w q (Late now) = MoreSteps v w
IsPlacedUnder c v w q (Job at result) = w.steps ≡ v.steps
