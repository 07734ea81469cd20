-- What a refused call adds to the steps of its pass: the reads for which the lock refuses.
use Rattle.std.specs.Prelude.{◌≡◌, ℕ, false, List, [], ◌∷◌}
use Rattle.std.proofs.Common.{refl, ap, inl}
use Rattle.hall.specs.declared.cargo.CargoRule.{Ghosts}
use Rattle.hall.specs.declared.guards.TryFault.{TryFault}
use Rattle.hall.specs.declared.guards.TryFault.TheVariants.{Busy, Raced}
use Rattle.hall.specs.declared.view.StepKind.TheVariants as kinds
use Rattle.hall.specs.declared.view.Shape.{Shape}
use Rattle.hall.specs.declared.view.Standing.TheVariants.{Away}
use Rattle.hall.specs.declared.view.StepEntry.{StepEntry}
use Rattle.hall.specs.declared.view.View.{View}
use Rattle.hall.specs.Refusals.{BusyForUpgrade, ReadTwoWords}
use Rattle.hall.specs.Views.{entry_of, is_outside, standing}
use Rattle.shared_mutex.specs.Refused.{AddsReads, two_words}
use Rattle.upgrade_mode.specs.Holding.{RefusesUpgrade, RacesToBegin}

-- among these steps are the reads of a lock's word for which upgrade is refused with this fault
abbrev pub ReadAsUpgrader : ℕ → TryFault → Shape → ℕ → List StepEntry → Type 0
ReadAsUpgrader lock (Busy word) shape number steps = BusyForUpgrade shape number steps lock
ReadAsUpgrader lock (Raced expected found) shape number steps = ReadTwoWords shape number steps lock

module _ {C P : Type 0} (g : Ghosts C P) where
  -- whom a try for upgrade refused
  pub upgrade_refused : (v : View P) (lock : ℕ) (w : View P) (fault : TryFault) → standing v lock ≡ Away → RefusesUpgrade g v lock w fault → AddsReads (ReadAsUpgrader lock fault) v w
  upgrade_refused v lock w (Busy word) away r =
      let load : StepEntry = entry_of v kinds.Load lock word false in
      (load ∷ [], ap (λ (z : View P). z.steps) r.1, (load, inl refl, (refl, refl), ap is_outside away, r.0))
  upgrade_refused v lock w (Raced expected found) away r = two_words v w lock kinds.UpgradeIn expected found r.0 r.1

  -- an upgrade holder whose announcing raced
  pub begin_refused : (v : View P) (lock expected found : ℕ) (w : View P) → RacesToBegin g v lock expected found w → AddsReads (λ shape number steps. ReadTwoWords shape number steps lock) v w
  begin_refused v lock expected found w r = two_words v w lock kinds.Up expected found r.0 r.1
