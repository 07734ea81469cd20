-- A try that was announced and swept.
use Rattle.std.proofs.Common.{◌≡◌, ℕ, true, ap, ◌∙◌, subst, Some}
use Rattle.lock_model.specs.declared.model.Act.TheVariants as act
use Rattle.state_word.specs.Words.{retract_of}
use Rattle.hall.specs.declared.cargo.CargoRule.{Ghosts}
use Rattle.hall.specs.declared.view.View.{View}
use Rattle.hall.specs.declared.view.StepKind.TheVariants as kinds
use Rattle.hall.specs.declared.view.Standing.TheVariants.{Away}
use Rattle.hall.specs.Moves.{Moment}
use Rattle.hall.specs.Plays.{Holding, HoldMisses, Retracts}
use Rattle.hall.specs.Reasons.{WasNotAlone}
use Rattle.hall.specs.Views.{after_look, after_step}
use Rattle.apply_deferred.specs.Sweeping.{Sweeps}
use Rattle.shared_mutex.specs.Acquiring.{AnnouncesWriter, TakesExclusive, FoundReaders}

module _ {C P : Type 0} (g : Ghosts C P) (v u z w : View P) (lock announced slots taken : ℕ) (starts : AnnouncesWriter g v lock u) (same : announced ≡ lock) (all : slots ≡ v.shape.slots) (sweeps : Sweeps g announced slots taken u z) where
  swept : Sweeps g lock v.shape.slots taken u z
  swept = subst (λ (n : ℕ). Sweeps g lock n taken u z) all (subst (λ (j : ℕ). Sweeps g j slots taken u z) same sweeps)

  -- it took the lock
  pub took : (at : ℕ) → at ≡ announced → Holding g z at 4 w → TakesExclusive g v lock w
  took at is h = (u, starts, z, taken, swept, subst (λ (j : ℕ). Holding g z j 4 w) (is ∙ same) h)

  -- it found readers
  pub gave_up : (w' : View P) (at back word : ℕ) → at ≡ announced → back ≡ at → HoldMisses g z at word w' → WasNotAlone g w' at → ((found : ℕ) × Retracts g w' back found w) → (said : ℕ) → word ≡ said → FoundReaders g v lock w said
  gave_up w' at back word is returned miss alone r said told =
      let here : at ≡ lock = is ∙ same in let look = miss.1 in let e : w' ≡ after_look z kinds.Hold lock word = look.0 ∙ ap (λ (j : ℕ). after_look z kinds.Hold j word) here in let there : back ≡ lock = returned ∙ here in subst (FoundReaders g v lock w) told (
        u,
        starts,
        z,
        taken,
        swept,
        miss.0,
        subst (λ (y : View P). WasNotAlone g y lock) e (subst (λ (j : ℕ). WasNotAlone g w' j) here alone),
        (
          r.0,
          r.1.0 ∙ ap (λ (j : ℕ). after_step w' kinds.Retract j r.0 true Away w'.part) there ∙ ap (λ (y : View P). after_step y kinds.Retract lock r.0 true Away y.part) e,
          subst (λ (y : View P). Moment g y w lock r.0 (retract_of r.0) (Some act.Retract)) e (subst (λ (j : ℕ). Moment g w' w j r.0 (retract_of r.0) (Some act.Retract)) there r.1.1),
        ),
      )
