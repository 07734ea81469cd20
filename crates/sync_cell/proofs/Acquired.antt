-- What a hold that was gained at last left elsewhere, and which steps it made.
use Rattle.std.specs.Prelude.{◌≡◌, ℕ, ◌+◌, true, false, List, [], ◌∷◌, All, Option, None}
use Rattle.std.proofs.Common.{refl, sym, ap, ◌∙◌, subst}
use Rattle.lock_model.specs.declared.model.Mode.{Mode}
use Rattle.hall.specs.declared.view.StepEntry.{StepEntry}
use Rattle.apply_deferred.specs.Sweeping.{Sweeps}
use Rattle.apply_deferred.specs.SweepLaws.{AllSweeping, is_sweeping, same_mode, sweep_goes}
use Rattle.std.proofs.lemmas.List.Elements.{All-nil, All-cons}
use Rattle.hall.specs.declared.cargo.CargoRule.{Ghosts}
use Rattle.hall.specs.declared.guards.Form.{Form}
use Rattle.hall.specs.declared.guards.TryFault.{TryFault}
use Rattle.hall.specs.declared.view.StepKind.{StepKind}
use Rattle.hall.specs.declared.view.StepKind.TheVariants as kinds
use Rattle.hall.specs.declared.view.Shape.{Shape}
use Rattle.hall.specs.declared.view.Standing.{Standing}
use Rattle.hall.specs.declared.view.Standing.TheVariants.{Away, Upgrade, Announcing}
use Rattle.hall.specs.declared.view.View.{View}
use Rattle.hall.specs.Plays.{Retracts}
use Rattle.hall.specs.Cargo.{upgrade_mode}
use Rattle.hall.specs.Views.{after_look, after_step, entry_of, mode_of, standing}
use Rattle.shared_mutex.specs.Tries.{AddsSteps, AnnouncesAtLast, HoldsAtLast, IsLook, IsPatientTry, IsTry, StaysAsItWas, is_retract}
use Rattle.upgrade_mode.specs.Tries.{BeginsAtLast, EntersUpgradeAtLast, HoldsUpAtLast}
use Rattle.sync_cell.specs.Rising.{IsPatient, IsPatientRise}
use Rattle.shared_mutex.specs.Entering.{enters_last, enters_patiently}
use Rattle.shared_mutex.specs.TryLaws.{adds_as, adds_then, looked_once, looked_then, stands_still}
use Rattle.sync_cell.specs.Attempts.{ReadsAtLast}

module _ {P : Type 0} where
  -- it is the same pass of the same hall
  abbrev Kept : View P → View P → Type 0
  Kept v w = (w.number ≡ v.number) × (w.shape ≡ v.shape)

  kept_then : (v u w : View P) → Kept v u → Kept u w → Kept v w
  kept_then v u w a b = (b.0 ∙ a.0, b.1 ∙ a.1)

  kept_looked : (v w : View P) (lock : ℕ) → StaysAsItWas v lock w → Kept v w
  kept_looked v w lock looked = (looked.number, looked.shape)

  kept_step : (v w : View P) (kind : StepKind) (lock word : ℕ) (y : Standing) (part : P) → w ≡ after_step v kind lock word true y part → Kept v w
  kept_step v w kind lock word y part is = (ap (λ (z : View P). z.number) is, ap (λ (z : View P). z.shape) is)

sweeping_patient : (k : StepKind) → is_sweeping k ≡ true → is_retract k ≡ false
sweeping_patient k e = elim k as (λ z. is_sweeping z ≡ true → is_retract z ≡ false) [ kinds.Retract ↦ λ h. absurd (cc) | kinds.UpRetract ↦ λ h. absurd (cc) | _ ↦ λ h. refl ] e

-- by a pass that holds the same mode at the lock all the while
module _ {P : Type 0} (held : Option Mode) where
  all_patient : (v : View P) (lock : ℕ) (es : List StepEntry) → AllSweeping v.number lock held es → All (IsPatient held v lock) es
  all_patient v lock [] h = All-nil (IsPatient held v lock)
  all_patient v lock (e ∷ es) h = All-cons (IsPatient held v lock) e es ((h.0, h.1, h.3), sweeping_patient e.kind h.2) (all_patient v lock es h.4)

  patient_then : (v u w : View P) (lock : ℕ) → Kept v u → AddsSteps (IsPatient held v lock) v u → AddsSteps (IsPatient held u lock) u w → AddsSteps (IsPatient held v lock) v w
  patient_then v u w lock kept a b =
      adds_then (IsPatient held v lock) v u w a (adds_as (IsPatient held u lock) (IsPatient held v lock) u w (λ e p. ((p.0.0 ∙ kept.0, p.0.1, p.0.2), p.1)) b)

  looks : (v w : View P) (lock : ℕ) → mode_of (standing v lock) ≡ held → StaysAsItWas v lock w → AddsSteps (IsPatient held v lock) v w
  looks v w lock holds looked = adds_as (IsLook v lock) (IsPatient held v lock) v w (λ e p. ((p.0, p.1, p.2 ∙ holds), p.3)) looked.steps

  step : (v w : View P) (kind : StepKind) (lock word : ℕ) (y : Standing) (part : P) → mode_of (standing v lock) ≡ held → is_retract kind ≡ false → w ≡ after_step v kind lock word true y part → AddsSteps (IsPatient held v lock) v w
  step v w kind lock word y part holds patient is =
      (entry_of v kind lock word true ∷ [], ap (λ (z : View P). z.steps) is, All-cons (IsPatient held v lock) (entry_of v kind lock word true) [] ((refl, refl, holds), patient) (All-nil (IsPatient held v lock)))

  -- looks, and then a step
  looks_step : (v u w : View P) (kind : StepKind) (lock word : ℕ) (y : Standing) (part : P) → mode_of (standing v lock) ≡ held → StaysAsItWas v lock u → is_retract kind ≡ false → w ≡ after_step u kind lock word true y part → Kept v w × AddsSteps (IsPatient held v lock) v w
  looks_step v u w kind lock word y part holds looked patient is =
      let kept : Kept v u = kept_looked v u lock looked in let still : mode_of (standing u lock) ≡ held = ap mode_of (stands_still v u lock looked) ∙ holds in
      (kept_then v u w kept (kept_step u w kind lock word y part is), patient_then v u w lock kept (looks v u lock holds looked) (step u w kind lock word y part still patient is))

  -- looks, one look more, and then a step: a try that won at last
  tries_step : (v u w : View P) (kind : StepKind) (lock seen : ℕ) (y : Standing) (part : P) → mode_of (standing v lock) ≡ held → StaysAsItWas v lock u → is_retract kind ≡ false → w ≡ after_step (after_look u kinds.Load lock seen) kind lock seen true y part → Kept v w × AddsSteps (IsPatient held v lock) v w
  tries_step v u w kind lock seen y part holds looked patient is =
      let look : View P = after_look u kinds.Load lock seen in
      looks_step v look w kind lock seen y part holds (looked_then v u look lock looked (looked_once u look kinds.Load lock seen refl refl)) patient is

  -- such a try that announced a writer, which then swept
  tries_sweep : {C : Type 0} (v u b a : View P) (kind : StepKind) (lock seen slots taken : ℕ) (y : Standing) → mode_of (standing v lock) ≡ held → mode_of y ≡ held → StaysAsItWas v lock u → is_retract kind ≡ false → b ≡ after_step (after_look u kinds.Load lock seen) kind lock seen true y u.part → (g : Ghosts C P) → Sweeps g lock slots taken b a → Kept v a × AddsSteps (IsPatient held v lock) v a
  tries_sweep v u b a kind lock seen slots taken y holds stays looked patient is g sweeps =
      let look : View P = after_look u kinds.Load lock seen in
      let first = tries_step v u b kind lock seen y u.part holds looked patient is in
      let here : mode_of (standing look lock) ≡ held = same_mode u.standings lock (standing u lock) refl ∙ ap mode_of (stands_still v u lock looked) ∙ holds in
      let swept = sweep_goes g lock slots taken b a sweeps in
      let mode : mode_of (standing b lock) ≡ held = ap (λ (z : View P). mode_of (standing z lock)) is ∙ same_mode look.standings lock y (stays ∙ sym here) ∙ here in (
        kept_then v b a first.0 (swept.number, swept.shape),
        patient_then v b a lock first.0 first.1 (swept.added, swept.steps, all_patient b lock swept.added (subst (λ (m : Option Mode). AllSweeping b.number lock m swept.added) mode swept.sweeping)),
      )

module _ {P : Type 0} where
  pub patient_looks : (v w : View P) (lock : ℕ) → mode_of (standing v lock) ≡ None → StaysAsItWas v lock w → AddsSteps (IsPatientTry v lock) v w
  patient_looks v w lock free looked = looks None v w lock free looked

module _ {C P : Type 0} (g : Ghosts C P) (v : View P) (lock : ℕ) (away : standing v lock ≡ Away) where
  pub patient_reader : (faults : List TryFault) (form : Form) (w : View P) → ReadsAtLast g v lock form faults w → AddsSteps (IsPatientTry v lock) v w
  patient_reader faults form w e =
      let u : View P = e.0 in let still : standing u lock ≡ Away = stands_still v u lock e.2 ∙ away in
      patient_then None v u w lock (kept_looked v u lock e.2) (patient_looks v u lock (ap mode_of away) e.2) (enters_patiently g u w lock still (enters_last g u w lock still (form, e.3)))

  pub patient_upgrader : (faults : List TryFault) (w : View P) → EntersUpgradeAtLast g v lock faults w → AddsSteps (IsPatientTry v lock) v w
  patient_upgrader faults w e = (tries_step None v e.0 w kinds.UpgradeIn lock e.3.0 _ e.3.2.0.1 (ap mode_of away) e.2 refl e.3.2.0.3).1

  announced : (faults : List TryFault) (a : View P) → AnnouncesAtLast g v lock faults a → Kept v a × AddsSteps (IsPatientTry v lock) v a
  announced faults a e = let won = e.3 in tries_sweep None v e.0 won.0 a kinds.Announce lock won.1.0 v.shape.slots won.2.0 (Announcing 0 0 false) (ap mode_of away) refl e.2 refl won.1.2.0 g won.2.1

  -- the announced writer's tries, and its last step
  pub patient_writer : (slots : ℕ) (faults misses : List TryFault) (a w : View P) → AnnouncesAtLast g v lock faults a → standing a lock ≡ Announcing slots 0 false → HoldsAtLast g a lock misses w → AddsSteps (IsPatientTry v lock) v w
  patient_writer slots faults misses a w began stands e =
      let first = announced faults a began in
      patient_then None v a w lock first.0 first.1 (looks_step None a e.0 w kinds.Hold lock 4 _ e.3.0.1 (ap mode_of stands) e.2 refl e.3.0.3).1

  -- and those of a writer that was announced, met readers, and took its announcement back
  pub trying_writer : (slots : ℕ) (faults : List TryFault) (a u w : View P) → AnnouncesAtLast g v lock faults a → standing a lock ≡ Announcing slots 0 false → StaysAsItWas a lock u → (found : ℕ) × Retracts g u lock found w → AddsSteps (IsTry v lock) v w
  trying_writer slots faults a u w began stands looked back =
      let first = announced faults a began in let kept : Kept v u = kept_then v a u first.0 (kept_looked a u lock looked) in let free_a : mode_of (standing a lock) ≡ None = ap mode_of stands in
      let free_u : mode_of (standing u lock) ≡ None = ap mode_of (stands_still a u lock looked) ∙ free_a in
      let before : AddsSteps (IsPatientTry v lock) v u = patient_then None v a u lock first.0 first.1 (patient_looks a u lock free_a looked) in
      let last : AddsSteps (IsTry v lock) u w =
      (entry_of u kinds.Retract lock back.0 true ∷ [], ap (λ (z : View P). z.steps) back.1.0, All-cons (IsTry v lock) (entry_of u kinds.Retract lock back.0 true) [] (kept.0, refl, free_u) (All-nil (IsTry v lock))) in
      adds_then (IsTry v lock) v u w (adds_as (IsPatientTry v lock) (IsTry v lock) v u (λ e p. p.0) before) last

module _ {C P : Type 0} (g : Ghosts C P) (v : View P) (lock : ℕ) (upgrade : standing v lock ≡ Upgrade) where
  -- the upgrade holder is announced, sweeps, and takes the lock
  pub patient_rise : (slots : ℕ) (faults misses : List TryFault) (a w : View P) → BeginsAtLast g v lock faults a → standing a lock ≡ Announcing slots 0 true → HoldsUpAtLast g a lock misses w → AddsSteps (IsPatientRise v lock) v w
  patient_rise slots faults misses a w e stands h =
      let won = e.3 in
      let first = tries_sweep upgrade_mode v e.0 won.0 a kinds.Up lock won.1.0 v.shape.slots won.2.0 (Announcing 0 0 true) (ap mode_of upgrade) refl e.2 refl won.1.2.0 g won.2.1 in
      patient_then upgrade_mode v a w lock first.0 first.1 (looks_step upgrade_mode a h.0 w kinds.Hold lock 6 _ h.0.part (ap mode_of stands) h.2 refl h.3.0).1

  -- and its part is as it was
  pub same_part : (faults misses : List TryFault) (a w : View P) → BeginsAtLast g v lock faults a → HoldsUpAtLast g a lock misses w → w.part ≡ v.part
  same_part faults misses a w e h =
      let won = e.3 in
      ap (λ (z : View P). z.part) h.3.0 ∙ h.2.part ∙ (sweep_goes g lock v.shape.slots won.2.0 won.0 a won.2.1).part ∙ ap (λ (z : View P). z.part) won.1.2.0 ∙ e.2.part
