-- Which replies without a place may be told: those of a lock that refused, where the reads that refuse are among the steps that were made.
use Rattle.std.specs.Prelude.{◌≡◌, ◌≢◌, ◌⊎◌, ℕ, ◌<◌, ◌≤◌, ◌∷◌, ◌++◌, true, false, List}
use Rattle.std.proofs.Common.{inl, inr, ⊎_elim}
use Rattle.lock_model.specs.Locks.{Has}
use Rattle.hall.specs.declared.view.Footprint.{Footprint}
use Rattle.hall.specs.declared.view.StepKind.TheVariants.{Load}
use Rattle.hall.specs.declared.view.Shape.{Shape}
use Rattle.hall.specs.declared.view.Standing.TheVariants.{Away}
use Rattle.hall.specs.declared.view.StepEntry.{StepEntry}
use Rattle.hall.specs.declared.view.View.{View}
use Rattle.hall.specs.Refusals.{BusyForReading, BusyForWriting, ReadTwoWords, joined_busy_reading, joined_busy_writing, joined_two_words, still_busy_reading, still_busy_writing, still_two_words}
use Rattle.hall.specs.Views.{entry_of, standing}
use Rattle.query_rules.specs.declared.query.Query.{Query}
use Rattle.query_rules.specs.declared.query.Query.TheVariants.{TryGet, TryPut, GetBy, PutBy}
use Rattle.query_rules.specs.declared.query.Reply.{Reply}
use Rattle.query_rules.specs.declared.query.Reply.TheVariants.{Busy, Late}
use Rattle.map_cargo.specs.Entries.{named_cells}

-- the reply is Busy, and these reads were made
abbrev pub BusyBy : Reply → Type 0 → Type 0
BusyBy Busy Reads = Reads
BusyBy reply Reads = ⊥

-- the reply is Late, at the deadline or after it, and these reads were made
abbrev pub LateBy : ℕ → Reply → Type 0 → Type 0
LateBy deadline (Late now) Reads = (deadline ≤ now) × Reads
LateBy deadline reply Reads = ⊥

-- these steps hold, under this number, reads of the state word of the query's cell that allow the reply
abbrev pub Licensed : Shape → ℕ → List StepEntry → Query → Reply → Type 0
Licensed shape number steps (TryGet cell key) reply = BusyBy reply (BusyForReading shape number steps cell)
Licensed shape number steps (TryPut cell key value) reply = BusyBy reply (BusyForWriting shape number steps cell)
Licensed shape number steps (GetBy cell key deadline) reply = LateBy deadline reply (BusyForReading shape number steps cell ⊎ ReadTwoWords shape number steps cell)
Licensed shape number steps (PutBy cell key value deadline) reply = LateBy deadline reply (BusyForWriting shape number steps cell ⊎ ReadTwoWords shape number steps cell)
Licensed shape number steps query reply = ⊥

-- who was refused met somebody: this trail has a footprint of another number at the query's cell, and a strong one where the query only looks at the cell and doesn't wait
abbrev pub WasMet : ℕ → List Footprint → Query → Type 0
WasMet number trail (TryGet cell key) = (m : Footprint) × Has trail m × (m.lock ≡ cell) × (m.number ≢ number) × (m.strong ≡ true)
WasMet number trail (TryPut cell key value) = (m : Footprint) × Has trail m × (m.lock ≡ cell) × (m.number ≢ number)
WasMet number trail (GetBy cell key deadline) = (m : Footprint) × Has trail m × (m.lock ≡ cell) × (m.number ≢ number)
WasMet number trail (PutBy cell key value deadline) = (m : Footprint) × Has trail m × (m.lock ≡ cell) × (m.number ≢ number)
WasMet number trail query = ⊥

-- where such reads were made of cells below this, somebody was met
abbrev pub MetWhoRefused : Shape → List StepEntry → List Footprint → Type 0
MetWhoRefused shape steps trail = (number : ℕ) (query : Query) (reply : Reply) → ((cell : ℕ) → Has (named_cells query) cell → cell < shape.locks) → Licensed shape number steps query reply → WasMet number trail query

busy_more : (reply : Reply) (R S : Type 0) → (R → S) → BusyBy reply R → BusyBy reply S
busy_more reply R S more h = elim reply as (λ r. BusyBy r R → BusyBy r S) [ Busy ↦ λ h. more h | _ ↦ λ h. absurd h ] h

late_more : (deadline : ℕ) (reply : Reply) (R S : Type 0) → (R → S) → LateBy deadline reply R → LateBy deadline reply S
late_more deadline reply R S more h = elim reply as (λ r. LateBy deadline r R → LateBy deadline r S) [ Late now ↦ λ h. (h.0, more h.1) | _ ↦ λ h. absurd h ] h

licence_more : (shape : Shape) (number : ℕ) (few all : List StepEntry) → ((cell : ℕ) → BusyForReading shape number few cell → BusyForReading shape number all cell) → ((cell : ℕ) → BusyForWriting shape number few cell → BusyForWriting shape number all cell)
    → ((cell : ℕ) → ReadTwoWords shape number few cell → ReadTwoWords shape number all cell) → (query : Query) (reply : Reply) → Licensed shape number few query reply → Licensed shape number all query reply
licence_more shape number few all reading writing two query reply h = elim query as (λ q. Licensed shape number few q reply → Licensed shape number all q reply) [
  | TryGet cell key ↦ busy_more reply _ _ (reading cell)
  | TryPut cell key value ↦ busy_more reply _ _ (writing cell)
  | GetBy cell key deadline ↦ late_more deadline reply _ _ (⊎_elim (λ r. inl (reading cell r)) (λ r. inr (two cell r)))
  | PutBy cell key value deadline ↦ late_more deadline reply _ _ (⊎_elim (λ r. inl (writing cell r)) (λ r. inr (two cell r)))
  | _ ↦ λ h. absurd h
] h

-- a licence stays where a pass makes more steps, or takes another in
pub still_licensed : (shape : Shape) (number : ℕ) (added steps : List StepEntry) (query : Query) (reply : Reply) → Licensed shape number steps query reply → Licensed shape number (added ++ steps) query reply
still_licensed shape number added steps = licence_more shape number steps (added ++ steps) (still_busy_reading shape number added steps) (still_busy_writing shape number added steps) (still_two_words shape number added steps)

-- and where the pass is taken in
pub licence_joined : (shape : Shape) (number : ℕ) (steps others : List StepEntry) (query : Query) (reply : Reply) → Licensed shape number steps query reply → Licensed shape number (steps ++ others) query reply
licence_joined shape number steps others = licence_more shape number steps (steps ++ others) (joined_busy_reading shape number steps others) (joined_busy_writing shape number steps others) (joined_two_words shape number steps others)

module _ {P : Type 0} where
  -- The pass may tell that the lock of its cell refused the query: it is away from the cell, and its steps hold the reads that allow the reply
  pub record MayRefuse (v : View P) (query : Query) (reply : Reply) : Type 0 where
    pub near : (cell : ℕ) → Has (named_cells query) cell → cell < v.shape.locks
    pub away : (cell : ℕ) → Has (named_cells query) cell → standing v cell ≡ Away
    pub licence : Licensed v.shape v.number v.steps query reply

  -- one step was made: a load of the state word of a cell that the query names
  abbrev pub LoadedOnce : Query → View P → View P → Type 0
  LoadedOnce query v w = (cell : ℕ) × (word : ℕ) × Has (named_cells query) cell × (w.steps ≡ entry_of v Load cell word false ∷ v.steps)
