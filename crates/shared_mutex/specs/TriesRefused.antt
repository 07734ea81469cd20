-- What tries that were refused one after the other add to the steps of their pass: the reads for which the lock refused the last.
use Rattle.std.specs.Prelude.{◌≡◌, ℕ, List, ◌∷◌, true}
use Rattle.std.proofs.Common.{◌∙◌}
use Rattle.hall.specs.declared.cargo.CargoRule.{Ghosts}
use Rattle.hall.specs.declared.guards.TryFault.{TryFault}
use Rattle.hall.specs.declared.guards.TryFault.TheVariants.{Busy, Raced}
use Rattle.hall.specs.declared.view.StepKind.TheVariants as kinds
use Rattle.hall.specs.declared.view.Standing.TheVariants.{Away}
use Rattle.hall.specs.declared.view.View.{View}
use Rattle.hall.specs.Plays.{Retracts}
use Rattle.hall.specs.Views.{standing}
use Rattle.shared_mutex.specs.Refused.{AddsReads, GoesOn, ReadAsReader, ReadAsWriter, announced_goes_on, announcing_refused, goes_on_once, goes_on_then, joined_as_reader, joined_as_writer, meets_readers, reader_refused, reads_after, reads_then, still_as_writer, swept_goes_on}
use Rattle.shared_mutex.specs.Tries.{AnnouncesAtLast, GivesUp, MeetsReaders, StaysAsItWas, ReadersRefused, WritersRefused}
use Rattle.shared_mutex.specs.TryLaws.{meetings_looked, readers_looked, stands_still, writers_looked}

module _ {P : Type 0} where
  pub looked_goes_on : (v w : View P) (lock : ℕ) → StaysAsItWas v lock w → GoesOn v w
  looked_goes_on v w lock looked = record { shape = looked.shape; number = looked.number; more = (looked.steps.0, looked.steps.1) }

module _ {C P : Type 0} (g : Ghosts C P) where
  -- tries to enter
  pub readers_refused : (v : View P) (lock : ℕ) (w : View P) (fault : TryFault) (faults : List TryFault) → standing v lock ≡ Away → ReadersRefused g lock v (fault ∷ faults) w → AddsReads (ReadAsReader lock fault) v w
  readers_refused v lock w fault faults away r =
      let u : View P = r.0 in let looked : StaysAsItWas v lock u = readers_looked g v lock u faults r.1 in
      reads_after (ReadAsReader lock fault) (joined_as_reader lock fault) v u w (looked_goes_on v u lock looked) (reader_refused g u lock w fault (stands_still v u lock looked ∙ away) r.2)

  -- tries to announce a writer
  pub writers_refused : (v : View P) (lock : ℕ) (w : View P) (fault : TryFault) (faults : List TryFault) → standing v lock ≡ Away → WritersRefused g lock v (fault ∷ faults) w → AddsReads (ReadAsWriter lock fault) v w
  writers_refused v lock w fault faults away r =
      let u : View P = r.0 in let looked : StaysAsItWas v lock u = writers_looked g v lock u faults r.1 in
      reads_after (ReadAsWriter lock fault) (joined_as_writer lock fault) v u w (looked_goes_on v u lock looked) (announcing_refused g u lock w fault (stands_still v u lock looked ∙ away) r.2)

  -- a writer that was announced at last
  announced_at_last : (v : View P) (lock : ℕ) (faults : List TryFault) (a : View P) → AnnouncesAtLast g v lock faults a → GoesOn v a
  announced_at_last v lock faults a e =
      let u : View P = e.0 in let won = e.3 in let b : View P = won.0 in
      goes_on_then v b a (goes_on_then v u b (looked_goes_on v u lock e.2) (announced_goes_on g u lock b won.1)) (swept_goes_on g lock v.shape.slots won.2.0 b a won.2.1)

  -- met readers, and then took its announcement back
  met_and_left : (v t u : View P) (lock : ℕ) (w : View P) (fault : TryFault) → GoesOn v t → MeetsReaders g t lock u fault → (found : ℕ) × Retracts g u lock found w → AddsReads (ReadAsWriter lock fault) v w
  met_and_left v t u lock w (Busy word) before met back =
      reads_after (ReadAsWriter lock (Busy word)) (joined_as_writer lock (Busy word)) v t w before
      (reads_then (ReadAsWriter lock (Busy word)) (still_as_writer lock (Busy word)) t u w (meets_readers t lock u word met.0.0 met.0.1.0) (goes_on_once u w kinds.Retract lock back.0 true Away u.part back.1.0).more)
  met_and_left v t u lock w (Raced expected found) before met back = absurd met

  pub gave_up_refused : (v : View P) (lock : ℕ) (w : View P) (fault : TryFault) (faults misses : List TryFault) → GivesUp g v lock faults (fault ∷ misses) w → AddsReads (ReadAsWriter lock fault) v w
  gave_up_refused v lock w fault faults misses e =
      let a : View P = e.0 in let u : View P = e.2.0 in let met = e.2.1 in let t : View P = met.0 in
      met_and_left v t u lock w fault (goes_on_then v a t (announced_at_last v lock faults a e.1) (looked_goes_on a t lock (meetings_looked g a lock t misses met.1))) met.2 e.2.3
