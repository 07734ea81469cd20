-- The steps of a pass that goes from upgrade to an exclusive hold, and of one that waits for its first mode.
use Rattle.std.specs.Prelude.{◌≡◌, ℕ, false}
use Rattle.std.specs.declared.option.Option.{Option}
use Rattle.lock_model.specs.declared.model.Mode.{Mode}
use Rattle.hall.specs.declared.view.StepEntry.{StepEntry}
use Rattle.hall.specs.declared.view.View.{View}
use Rattle.hall.specs.Cargo.{upgrade_mode}
use Rattle.hall.specs.Views.{mode_of}
use Rattle.shared_mutex.specs.Tries.{is_retract}

module _ {P : Type 0} where
  -- a step for a lock, on its word or on a slot, under the pass's number, by a pass that holds this mode there, and none that takes an announcement back
  abbrev pub IsPatient : Option Mode → View P → ℕ → StepEntry → Type 0
  IsPatient held v lock e = ((e.number ≡ v.number) × (e.lock ≡ lock) × (mode_of e.before ≡ held)) × (is_retract e.kind ≡ false)

  -- and the pass holds upgrade at each such step: it neither lets go of it nor takes its announcement back
  abbrev pub IsPatientRise : View P → ℕ → StepEntry → Type 0
  IsPatientRise = IsPatient upgrade_mode
