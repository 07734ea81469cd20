-- Cells that were taken by a try or until a deadline, and such that weren't.
use Rattle.std.specs.Prelude.{◌≡◌, ℕ, ◌⊎◌, Bool, true, false, List, ◌∷◌}
use Rattle.std.specs.declared.option.Option.{Option}
use Rattle.std.proofs.Common.{refl, ap, ◌∙◌, subst, ⊎_elim, inl, inr}
use Rattle.hall.specs.declared.cargo.CargoRule.{Ghosts}
use Rattle.hall.specs.declared.guards.TryFault.{TryFault}
use Rattle.hall.specs.declared.guards.TryFault.TheVariants.{Busy, Raced}
use Rattle.hall.specs.declared.view.StepKind.{StepKind}
use Rattle.hall.specs.declared.view.StepKind.TheVariants as kinds
use Rattle.hall.specs.declared.view.Standing.{Standing}
use Rattle.hall.specs.declared.view.Standing.TheVariants.{Away, Exclusive}
use Rattle.hall.specs.declared.view.View.{View}
use Rattle.hall.specs.Refusals.{BusyForReading, BusyForWriting, ReadTwoWords}
use Rattle.hall.specs.Views.{after_look, after_step, standing}
use Rattle.apply_deferred.specs.SweepLaws.{sweep_goes}
use Rattle.apply_deferred.specs.Sweeping.{Sweeps}
use Rattle.shared_mutex.specs.Acquiring.{AnnouncesWriter, ElsewhereSame, FoundReaders, RefusesExclusive, RefusesShared}
use Rattle.shared_mutex.specs.Refused.{AddsReads, GoesOn, ReadAsReader, ReadAsWriter, goes_on_none, goes_on_once, goes_on_then, joined_as_reader, joined_as_writer, reads_after, swept_goes_on}
use Rattle.shared_mutex.specs.TriesRefused.{looked_goes_on}
use Rattle.shared_mutex.specs.Tries.{AddsSteps, AnnouncesAtLast, GivesUp, IsTry, StaysAsItWas}
use Rattle.shared_mutex.specs.TryLaws.{reader_looked, writer_looked}
use Rattle.upgrade_mode.specs.Holding.{BeginsUpgrade}
use Rattle.upgrade_mode.specs.Tries.{RisesAtLast}
use Rattle.sync_cell.specs.Waits.{GaveUpLate}
use Rattle.map_cargo.specs.declared.size.MapCargo.{MapCargo}
use Rattle.map_cargo.specs.declared.entry.Part.{Part}
use Rattle.map_cargo.specs.Gaining.{gained_from}
use Rattle.map_cargo.specs.Steps.{Gained, MoreSteps}
use Rattle.query_cells.specs.Answers.{TellsNothing, Took, TurnedAway}

-- steps that left all that the pass knows and has to draw
pub record Unchanged (v w : View Part) : Type 0 where
  pub part : w.part ≡ v.part
  pub quota : w.quota ≡ v.quota
  pub span : w.span ≡ v.span
  pub taken : w.taken ≡ v.taken
  pub goes_on : GoesOn v w

pub unchanged_none : (v : View Part) → Unchanged v v
unchanged_none v = record { part = refl; quota = refl; span = refl; taken = refl; goes_on = goes_on_none v v refl }

pub unchanged_then : (v u w : View Part) → Unchanged v u → Unchanged u w → Unchanged v w
unchanged_then v u w a b = record { part = b.part ∙ a.part; quota = b.quota ∙ a.quota; span = b.span ∙ a.span; taken = b.taken ∙ a.taken; goes_on = goes_on_then v u w a.goes_on b.goes_on }

pub unchanged_look : (v w : View Part) (lock : ℕ) → StaysAsItWas v lock w → Unchanged v w
unchanged_look v w lock looked = record { part = looked.part; quota = looked.quota; span = looked.span; taken = looked.taken; goes_on = looked_goes_on v w lock looked }

unchanged_step : (v w : View Part) (kind : StepKind) (lock word : ℕ) (won : Bool) (y : Standing) → w ≡ after_step v kind lock word won y v.part → Unchanged v w
unchanged_step v w kind lock word won y is = record {
  part = ap (λ (z : View Part). z.part) is;
  quota = ap (λ (z : View Part). z.quota) is;
  span = ap (λ (z : View Part). z.span) is;
  taken = ap (λ (z : View Part). z.taken) is;
  goes_on = goes_on_once v w kind lock word won y v.part is;
}

pub unchanged_once : (v : View Part) (kind : StepKind) (lock word : ℕ) → Unchanged v (after_look v kind lock word)
unchanged_once v kind lock word = unchanged_step v (after_look v kind lock word) kind lock word false (standing v lock) refl

-- they only became more
more_of : (v w : View Part) → Unchanged v w → MoreSteps v w
more_of v w h = record { added = h.goes_on.more.0; stand = h.goes_on.more.1 }

-- such steps tell nothing
pub unchanged_tells : (v w : View Part) → Unchanged v w → TellsNothing v w
unchanged_tells v w h = record {
  number = h.goes_on.number;
  span = h.span;
  taken = h.taken;
  quota = h.quota;
  seen = ap (λ (p : Part). p.seen) h.part;
  told = ap (λ (p : Part). p.told) h.part;
  row = ap (λ (p : Part). p.row) h.part;
  stored = ap (λ (p : Part). p.stored) h.part;
  steps = more_of v w h;
}

pub gained_later : (lock : ℕ) (v u w : View Part) → Unchanged v u → Gained lock u w → Gained lock v w
gained_later lock v u w h got = gained_from lock u v w h.part h.goes_on.number h.quota h.span h.taken (more_of v u h) got

module _ (g : Ghosts MapCargo Part) where
  pub reader_unchanged : (v : View Part) (lock : ℕ) (w : View Part) (f : TryFault) → RefusesShared g v lock w f → Unchanged v w
  reader_unchanged v lock w f r = unchanged_look v w lock (reader_looked g v lock w f r)

  pub announced : (v u : View Part) (lock : ℕ) → AnnouncesWriter g v lock u → Unchanged v u
  announced v u lock a = unchanged_then v (after_look v kinds.Load lock a.0) u (unchanged_step v (after_look v kinds.Load lock a.0) kinds.Load lock a.0 false (standing v lock) refl) (unchanged_step (after_look v kinds.Load lock a.0) u kinds.Announce lock a.0 true _ a.2.0)

  -- a sweep
  pub swept : (lock slots taken : ℕ) (u z : View Part) → Sweeps g lock slots taken u z → Unchanged u z
  swept lock slots taken u z r = let t = sweep_goes g lock slots taken u z r in record { part = t.part; quota = t.quota; span = t.span; taken = t.taken; goes_on = swept_goes_on g lock slots taken u z r }

  found_readers : (v : View Part) (lock : ℕ) (w : View Part) (word : ℕ) → FoundReaders g v lock w word → Unchanged v w
  found_readers v lock w word r =
      let u : View Part = r.0 in let z : View Part = r.2 in let look : View Part = after_look z kinds.Hold lock word in
      unchanged_then v u w (announced v u lock r.1) (unchanged_then u z w (swept lock v.shape.slots r.3 u z r.4) (unchanged_then z look w (unchanged_step z look kinds.Hold lock word false (standing z lock) refl) (unchanged_step look w kinds.Retract lock r.7.0 true Away r.7.1)))

  pub writer_unchanged : (v : View Part) (lock : ℕ) (w : View Part) (f : TryFault) → RefusesExclusive g v lock w f → Unchanged v w
  writer_unchanged v lock w (Busy word) r = ⊎_elim (λ t. unchanged_look v w lock (writer_looked g v lock w (Busy word) t)) (found_readers v lock w word) r
  writer_unchanged v lock w (Raced expected found) r = unchanged_look v w lock (writer_looked g v lock w (Raced expected found) r)

  pub announced_at_last : (v : View Part) (lock : ℕ) (faults : List TryFault) (a : View Part) → AnnouncesAtLast g v lock faults a → Unchanged v a
  announced_at_last v lock faults a e =
      let u : View Part = e.0 in let won = e.3 in let b : View Part = won.0 in
      unchanged_then v b a (unchanged_then v u b (unchanged_look v u lock e.2) (announced u b lock won.1)) (swept lock v.shape.slots won.2.0 b a won.2.1)

  -- an upgrade holder was announced at last, swept, and took the lock at last
  begun : (v u : View Part) (lock : ℕ) → BeginsUpgrade g v lock u → Unchanged v u
  begun v u lock a = unchanged_then v (after_look v kinds.Load lock a.0) u (unchanged_once v kinds.Load lock a.0) (unchanged_step (after_look v kinds.Load lock a.0) u kinds.Up lock a.0 true _ a.2.0)

  pub rose_at_last : (v : View Part) (lock : ℕ) (faults misses : List TryFault) (w : View Part) → RisesAtLast g v lock faults misses w → Unchanged v w
  rose_at_last v lock faults misses w e =
      let a : View Part = e.0 in let s = e.1 in let won = s.3 in let b : View Part = won.0 in let h = e.2 in
      unchanged_then v b w (unchanged_then v s.0 b (unchanged_look v s.0 lock s.2) (begun s.0 b lock won.1))
      (unchanged_then b a w (swept lock v.shape.slots won.2.0 b a won.2.1) (unchanged_then a h.0 w (unchanged_look a h.0 lock h.2) (unchanged_step h.0 w kinds.Hold lock 6 true Exclusive h.3.0)))

  gave_up : (v : View Part) (lock : ℕ) (faults misses : List TryFault) (w : View Part) → GivesUp g v lock faults misses w → Unchanged v w
  gave_up v lock faults misses w e =
      let a : View Part = e.0 in let met = e.2 in
      unchanged_then v a w (announced_at_last v lock faults a e.1) (unchanged_then a met.0 w (unchanged_look a met.0 lock met.2) (unchanged_step met.0 w kinds.Retract lock met.3.0 true Away met.3.1.0))

  pub late_unchanged : {T : Type 0} (last : T → ℕ) (answers : T → Option (List ℕ)) (deadline lock : ℕ) (v w : View Part) (old new : T) (fault : TryFault) (now : ℕ) → GaveUpLate g last answers deadline lock v w old new fault now → Unchanged v w
  late_unchanged last answers deadline lock v w old new fault now r = ⊎_elim (λ t. unchanged_look v w lock t.2) (λ t. gave_up v lock t.0 (fault ∷ t.1) w t.2) r

-- what a late reader and a late writer read
pub late_reads : (v w : View Part) (lock : ℕ) (fault : TryFault) → AddsReads (ReadAsReader lock fault) v w → AddsReads (λ shape number added. BusyForReading shape number added lock ⊎ ReadTwoWords shape number added lock) v w
late_reads v w lock (Busy word) r = (r.0, r.1, inl r.2)
late_reads v w lock (Raced expected found) r = (r.0, r.1, inr r.2)

pub late_writes : (v w : View Part) (lock : ℕ) (fault : TryFault) → AddsReads (ReadAsWriter lock fault) v w → AddsReads (λ shape number added. BusyForWriting shape number added lock ⊎ ReadTwoWords shape number added lock) v w
late_writes v w lock (Busy word) r = (r.0, r.1, inl r.2)
late_writes v w lock (Raced expected found) r = (r.0, r.1, inr r.2)

-- what a reader or a writer read that was busy after other tries
pub busy_reads : (v u w : View Part) (lock : ℕ) (fault : TryFault) (word : ℕ) → fault ≡ Busy word → Unchanged v u → AddsReads (ReadAsReader lock fault) u w → AddsReads (λ shape number added. BusyForReading shape number added lock) v w
busy_reads v u w lock fault word is before r =
    reads_after (ReadAsReader lock (Busy word)) (joined_as_reader lock (Busy word)) v u w before.goes_on (subst (λ (f : TryFault). AddsReads (ReadAsReader lock f) u w) is r)

pub busy_writes : (v u w : View Part) (lock : ℕ) (fault : TryFault) (word : ℕ) → fault ≡ Busy word → Unchanged v u → AddsReads (ReadAsWriter lock fault) u w → AddsReads (λ shape number added. BusyForWriting shape number added lock) v w
busy_writes v u w lock fault word is before r =
    reads_after (ReadAsWriter lock (Busy word)) (joined_as_writer lock (Busy word)) v u w before.goes_on (subst (λ (f : TryFault). AddsReads (ReadAsWriter lock f) u w) is r)

-- a pass that wasn't let in after tries
pub turned_away : (v u w : View Part) (lock : ℕ) → Unchanged v u → Unchanged u w → ElsewhereSame v u lock → ElsewhereSame u w lock → standing w lock ≡ Away → AddsSteps (IsTry v lock) v w → TurnedAway lock v w
turned_away v u w lock a b x y away tries = record { away = away; elsewhere = λ k ne. y k ne ∙ x k ne; nothing = unchanged_tells v w (unchanged_then v u w a b); tries = tries }

pub took_at_last : (v u w : View Part) (lock : ℕ) (y : Standing) → Unchanged v u → ElsewhereSame v u lock → ElsewhereSame u w lock → standing w lock ≡ y → Gained lock u w → Took lock y v w
took_at_last v u w lock y a same_u same_w stands got = record { stands = stands; elsewhere = λ k ne. same_w k ne ∙ same_u k ne; gained = gained_later lock v u w a got }
