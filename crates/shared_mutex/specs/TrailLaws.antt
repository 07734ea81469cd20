-- The footprints of tries and calls: a reader leaves weak ones at its lock and no others, and a writer any at its lock.
use Rattle.std.specs.Prelude.{◌≡◌, ℕ, ◌<◌, ◌||◌, Bool, false, true, List, length, None}
use Rattle.std.proofs.Common.{refl, ap, ◌∙◌, ⊎_elim}
use Rattle.hall.specs.declared.cargo.CargoRule.{Ghosts}
use Rattle.hall.specs.declared.guards.Form.{Form}
use Rattle.hall.specs.declared.guards.TryFault.{TryFault}
use Rattle.hall.specs.declared.guards.TryFault.TheVariants.{Busy, Raced}
use Rattle.hall.specs.declared.view.StepKind.{StepKind}
use Rattle.hall.specs.declared.view.StepKind.TheVariants as kinds
use Rattle.hall.specs.declared.view.Standing.{Standing}
use Rattle.hall.specs.declared.view.Standing.TheVariants.{Away, Inline, Exclusive, Announcing}
use Rattle.hall.specs.declared.view.View.{View}
use Rattle.hall.specs.Fitting.{stands_by}
use Rattle.hall.specs.Plays.{GivesBack, Holding, Releases, Retracts, lowered_part}
use Rattle.hall.specs.Treading.{IsAt, IsBetween, IsWeakAt, Treads, treads_as, treads_step, treads_then, weak_between}
use Rattle.hall.specs.Views.{after_look, after_step, is_strong, standing}
use Rattle.apply_deferred.specs.SweepLaws.{sweep_goes}
use Rattle.apply_deferred.specs.Sweeping.{Sweeps}
use Rattle.shared_mutex.specs.Acquiring.{AnnouncesWriter, FoundReaders, LeavesShared, RefusesAnnouncing, RefusesExclusive, RefusesShared, TakesExclusive, TakesShared}
use Rattle.shared_mutex.specs.Entering.{enters_last, enters_weakly, leaves_lock}
use Rattle.shared_mutex.specs.Tries.{AnnouncesAtLast, EntersAtLast, GivesUp, HoldsAtLast, StaysAsItWas, WritesAtLast}
use Rattle.shared_mutex.specs.TryLaws.{looked_once, reader_looked, stands_still, writer_looked}

module _ {P : Type 0} (v w : View P) (lock : ℕ) where
  pub looked_weak : standing v lock ≡ Away → StaysAsItWas v lock w → Treads (IsWeakAt lock) v w
  looked_weak away l = treads_as (IsBetween lock (standing v lock) (standing v lock)) (IsWeakAt lock) v w (λ m. weak_between lock (standing v lock) (standing v lock) m (ap (λ x. is_strong x || is_strong x) away)) l.trail

  pub looked_at : StaysAsItWas v lock w → Treads (IsAt lock) v w
  looked_at l = treads_as (IsBetween lock (standing v lock) (standing v lock)) (IsAt lock) v w (λ m p. p.0) l.trail

  -- one step that changes the standing
  step_at : (kind : StepKind) (word : ℕ) (won : Bool) (y : Standing) (part : P) → w ≡ after_step v kind lock word won y part → Treads (IsAt lock) v w
  step_at kind word won y part is = treads_as (IsBetween lock (standing v lock) y) (IsAt lock) v w (λ m p. p.0) (treads_step v w kind lock word won y part is)

  step_weak : (kind : StepKind) (word : ℕ) (won : Bool) (y : Standing) (part : P) → (is_strong (standing v lock) || is_strong y) ≡ false → w ≡ after_step v kind lock word won y part → Treads (IsWeakAt lock) v w
  step_weak kind word won y part weak is = treads_as (IsBetween lock (standing v lock) y) (IsWeakAt lock) v w (λ m. weak_between lock (standing v lock) y m weak) (treads_step v w kind lock word won y part is)

module _ {C P : Type 0} (g : Ghosts C P) (v w : View P) (lock : ℕ) where
  -- readers
  pub takes_shared_treads : standing v lock ≡ Away → TakesShared g v lock w → Treads (IsWeakAt lock) v w
  takes_shared_treads away t = enters_weakly g v w lock away (enters_last g v w lock away t)

  pub refuses_shared_treads : (fault : TryFault) → standing v lock ≡ Away → RefusesShared g v lock w fault → Treads (IsWeakAt lock) v w
  refuses_shared_treads fault away r = looked_weak v w lock away (reader_looked g v lock w fault r)

  pub gives_back_treads : (found : ℕ) → standing v lock ≡ Inline → GivesBack g v lock found w → Treads (IsWeakAt lock) v w
  gives_back_treads found held b = step_weak v w lock kinds.Lower found true Away (lowered_part g (standing v lock) lock v.part) (ap (λ x. is_strong x || false) held) b.0

  pub leaves_shared_treads : (form : Form) → lock < length v.standings → standing v lock ≡ stands_by form → LeavesShared g v lock form w → Treads (IsWeakAt lock) v w
  leaves_shared_treads form near held r = (leaves_lock g v w lock near form held r).trail

  -- writers
  pub announces_treads : AnnouncesWriter g v lock w → Treads (IsAt lock) v w
  announces_treads a =
      let u = after_look v kinds.Load lock a.0 in
      treads_then (IsAt lock) v u w (looked_at v u lock (looked_once v u kinds.Load lock a.0 refl refl))
      (step_at u w lock kinds.Announce a.0 true (Announcing 0 0 false) u.part a.2.0)

  pub sweeps_treads : (slots taken : ℕ) → Sweeps g lock slots taken v w → Treads (IsAt lock) v w
  sweeps_treads slots taken s = (sweep_goes g lock slots taken v w s).trail

  pub holding_treads : Holding g v lock 4 w → Treads (IsAt lock) v w
  holding_treads h = step_at v w lock kinds.Hold 4 true Exclusive h.0.1 h.0.3

  pub retracts_treads : (found : ℕ) → Retracts g v lock found w → Treads (IsAt lock) v w
  retracts_treads found r = step_at v w lock kinds.Retract found true Away v.part r.0

  pub releases_treads : Releases g v lock 8 w → Treads (IsAt lock) v w
  releases_treads r = step_at v w lock kinds.Release 8 true Away (g.lowered lock None v.part) r.1

  pub refuses_announcing_treads : (fault : TryFault) → RefusesAnnouncing g v lock w fault → Treads (IsAt lock) v w
  refuses_announcing_treads fault r = looked_at v w lock (writer_looked g v lock w fault r)

module _ {C P : Type 0} (g : Ghosts C P) (v w : View P) (lock : ℕ) where
  pub takes_exclusive_treads : TakesExclusive g v lock w → Treads (IsAt lock) v w
  takes_exclusive_treads t =
      let u = t.0 in let z = t.2 in
      treads_then (IsAt lock) v u w (announces_treads g v u lock t.1)
      (treads_then (IsAt lock) u z w (sweeps_treads g u z lock v.shape.slots t.3 t.4) (holding_treads g z w lock t.5))

  found_readers_treads : (word : ℕ) → FoundReaders g v lock w word → Treads (IsAt lock) v w
  found_readers_treads word f =
      let u = f.0 in let z = f.2 in
      let looked = after_look z kinds.Hold lock word in
      treads_then (IsAt lock) v u w (announces_treads g v u lock f.1)
      (treads_then (IsAt lock) u z w (sweeps_treads g u z lock v.shape.slots f.3 f.4)
      (treads_then (IsAt lock) z looked w (looked_at z looked lock (looked_once z looked kinds.Hold lock word refl refl))
      (step_at looked w lock kinds.Retract f.7.0 true Away z.part f.7.1)))

  pub refuses_exclusive_treads : (fault : TryFault) → RefusesExclusive g v lock w fault → Treads (IsAt lock) v w
  refuses_exclusive_treads (Busy word) r = ⊎_elim (λ a. refuses_announcing_treads g v w lock (Busy word) a) (λ f. found_readers_treads word f) r
  refuses_exclusive_treads (Raced expected found) r = refuses_announcing_treads g v w lock (Raced expected found) r

  -- waiting
  pub enters_treads : (faults : List TryFault) → standing v lock ≡ Away → EntersAtLast g v lock faults w → Treads (IsWeakAt lock) v w
  enters_treads faults away e =
      treads_then (IsWeakAt lock) v e.0 w (looked_weak v e.0 lock away e.2) (takes_shared_treads g e.0 w lock (stands_still v e.0 lock e.2 ∙ away) e.3)

  pub announces_last_treads : (faults : List TryFault) → AnnouncesAtLast g v lock faults w → Treads (IsAt lock) v w
  announces_last_treads faults a =
      let u = a.0 in let won = a.3 in let z = won.0 in
      treads_then (IsAt lock) v u w (looked_at v u lock a.2)
      (treads_then (IsAt lock) u z w (announces_treads g u z lock won.1) (sweeps_treads g z w lock v.shape.slots won.2.0 won.2.1))

  pub holds_last_treads : (misses : List TryFault) → HoldsAtLast g v lock misses w → Treads (IsAt lock) v w
  holds_last_treads misses h = treads_then (IsAt lock) v h.0 w (looked_at v h.0 lock h.2) (holding_treads g h.0 w lock h.3)

module _ {C P : Type 0} (g : Ghosts C P) (v w : View P) (lock : ℕ) where
  pub writes_treads : (faults misses : List TryFault) → WritesAtLast g v lock faults misses w → Treads (IsAt lock) v w
  writes_treads faults misses t = treads_then (IsAt lock) v t.0 w (announces_last_treads g v t.0 lock faults t.1) (holds_last_treads g t.0 w lock misses t.2)

  pub gives_up_treads : (faults misses : List TryFault) → GivesUp g v lock faults misses w → Treads (IsAt lock) v w
  gives_up_treads faults misses t =
      treads_then (IsAt lock) v t.0 w (announces_last_treads g v t.0 lock faults t.1)
      (treads_then (IsAt lock) t.0 t.2.0 w (looked_at t.0 t.2.0 lock t.2.2) (retracts_treads g t.2.0 w lock t.2.3.0 t.2.3.1))
