-- The footprints of calls that write or hold upgrade: any at their cell, and no others.
use Rattle.std.specs.Prelude.{◌≡◌, ℕ, true, List, ◌∷◌, None}
use Rattle.std.specs.declared.option.Option.{Option}
use Rattle.std.proofs.Common.{refl, ⊎_elim}
use Rattle.hall.specs.declared.cargo.CargoRule.{Ghosts}
use Rattle.hall.specs.declared.guards.TryFault.{TryFault}
use Rattle.hall.specs.declared.view.StepKind.{StepKind}
use Rattle.hall.specs.declared.view.StepKind.TheVariants as kinds
use Rattle.hall.specs.declared.view.Standing.{Standing}
use Rattle.hall.specs.declared.view.Standing.TheVariants.{Away, Inline, Upgrade, Exclusive, Announcing}
use Rattle.hall.specs.declared.view.View.{View}
use Rattle.hall.specs.Cargo.{shared_mode}
use Rattle.hall.specs.Treading.{IsAt, IsBetween, Treads, treads_as, treads_step, treads_then}
use Rattle.hall.specs.Upgrading.{LeavesUpgrade, LowersToShared}
use Rattle.hall.specs.Views.{after_look, after_step, standing}
use Rattle.shared_mutex.specs.TrailLaws.{gives_up_treads, looked_at, sweeps_treads}
use Rattle.shared_mutex.specs.Tries.{StaysAsItWas}
use Rattle.shared_mutex.specs.TryLaws.{looked_once, looked_then}
use Rattle.upgrade_mode.specs.Tries.{EntersUpgradeAtLast, RisesAtLast}
use Rattle.sync_cell.specs.Waits.{GaveUpLate}

-- a call to write that was late
pub gave_up_treads : {C P T : Type 0} (g : Ghosts C P) (v w : View P) (lock : ℕ) (last : T → ℕ) (answers : T → Option (List ℕ)) (deadline : ℕ) (old new : T) (fault : TryFault) (now : ℕ) → GaveUpLate g last answers deadline lock v w old new fault now → Treads (IsAt lock) v w
gave_up_treads g v w lock last answers deadline old new fault now late = ⊎_elim (λ a. looked_at v w lock a.2) (λ b. gives_up_treads g v w lock b.0 (fault ∷ b.1) b.2) late

module _ {P : Type 0} (v w : View P) (lock : ℕ) where
  once_at : (kind : StepKind) (word : ℕ) (y : Standing) (part : P) → w ≡ after_step v kind lock word true y part → Treads (IsAt lock) v w
  once_at kind word y part is = treads_as (IsBetween lock (standing v lock) y) (IsAt lock) v w (λ m p. p.0) (treads_step v w kind lock word true y part is)

  -- a try that won at last: looks, one look more, and the step that won
  tries_at : (u : View P) (kind : StepKind) (seen : ℕ) (y : Standing) (part : P) → StaysAsItWas v lock u → w ≡ after_step (after_look u kinds.Load lock seen) kind lock seen true y part → Treads (IsAt lock) v w
  tries_at u kind seen y part looked is =
      let look : View P = after_look u kinds.Load lock seen in
      treads_then (IsAt lock) v look w (looked_at v look lock (looked_then v u look lock looked (looked_once u look kinds.Load lock seen refl refl)))
      (treads_as (IsBetween lock (standing look lock) y) (IsAt lock) look w (λ m p. p.0) (treads_step look w kind lock seen true y part is))

-- upgrade was taken, raised to an exclusive hold, and given back
module _ {C P : Type 0} (g : Ghosts C P) (v w : View P) (lock : ℕ) where
  pub upgrades_treads : (faults : List TryFault) → EntersUpgradeAtLast g v lock faults w → Treads (IsAt lock) v w
  upgrades_treads faults e = tries_at v w lock e.0 kinds.UpgradeIn e.3.0 Upgrade e.3.2.0.1 e.2 e.3.2.0.3

  pub rises_treads : (faults misses : List TryFault) → RisesAtLast g v lock faults misses w → Treads (IsAt lock) v w
  rises_treads faults misses t =
      let a = t.0 in let e = t.1 in let won = e.3 in let h = t.2 in
      treads_then (IsAt lock) v won.0 w (tries_at v won.0 lock e.0 kinds.Up won.1.0 (Announcing 0 0 true) e.0.part e.2 won.1.2.0)
      (treads_then (IsAt lock) won.0 a w (sweeps_treads g won.0 a lock v.shape.slots won.2.0 won.2.1)
      (treads_then (IsAt lock) a h.0 w (looked_at a h.0 lock h.2) (once_at h.0 w lock kinds.Hold 6 Exclusive h.0.part h.3.0)))

  pub leaves_upgrade_treads : (found : ℕ) → LeavesUpgrade g v lock found w → Treads (IsAt lock) v w
  leaves_upgrade_treads found l = once_at v w lock kinds.UpgradeOut found Away (g.lowered lock None v.part) l.0

  -- an exclusive hold was lowered
  pub lowers_treads : LowersToShared g v lock 8 w → Treads (IsAt lock) v w
  lowers_treads l = once_at v w lock kinds.ExclusiveShared 8 Inline (g.lowered lock shared_mode v.part) l.1
