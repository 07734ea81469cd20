-- What a call with a deadline that was late adds to the steps of its pass: the reads for which the cell's lock refused it last.
use Rattle.std.specs.Prelude.{◌≡◌, ℕ, List, ◌∷◌}
use Rattle.std.specs.declared.option.Option.{Option}
use Rattle.std.proofs.Common.{⊎_elim}
use Rattle.hall.specs.declared.cargo.CargoRule.{Ghosts}
use Rattle.hall.specs.declared.guards.TryFault.{TryFault}
use Rattle.hall.specs.declared.view.Standing.TheVariants.{Away}
use Rattle.hall.specs.declared.view.View.{View}
use Rattle.hall.specs.Views.{standing}
use Rattle.shared_mutex.specs.Refused.{AddsReads, ReadAsReader, ReadAsWriter}
use Rattle.shared_mutex.specs.Tries.{ReadersRefused}
use Rattle.shared_mutex.specs.TriesRefused.{gave_up_refused, readers_refused, writers_refused}
use Rattle.sync_cell.specs.Waits.{GaveUpLate}

module _ {C P : Type 0} (g : Ghosts C P) where
  -- a reader that was late
  pub reader_late : (v : View P) (lock : ℕ) (w : View P) (fault : TryFault) (faults : List TryFault) → standing v lock ≡ Away → ReadersRefused g lock v (fault ∷ faults) w → AddsReads (ReadAsReader lock fault) v w
  reader_late = readers_refused g

  -- a writer that was late
  pub writer_late : {T : Type 0} (last : T → ℕ) (answers : T → Option (List ℕ)) (deadline lock : ℕ) (v w : View P) (old new : T) (fault : TryFault) (now : ℕ) → standing v lock ≡ Away → GaveUpLate g last answers deadline lock v w old new fault now → AddsReads (ReadAsWriter lock fault) v w
  writer_late last answers deadline lock v w old new fault now away r = ⊎_elim
      (λ t. writers_refused g v lock w fault t.0 away t.1)
      (λ t. gave_up_refused g v lock w fault t.0 t.1 t.2)
      r
