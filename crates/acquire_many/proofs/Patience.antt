-- The steps of a wait: each was made for the lock with no mode held there, and none took an announcement back.
use Rattle.std.specs.Prelude.{◌≡◌, ℕ, Bool, true, false, List, [], ◌∷◌, All, None}
use Rattle.std.proofs.Common.{refl, sym, ap, ◌∙◌, subst}
use Rattle.std.proofs.lemmas.List.Elements.{All-nil, All-cons}
use Rattle.hall.specs.declared.cargo.CargoRule.{Ghosts}
use Rattle.hall.specs.declared.guards.Form.{Form}
use Rattle.hall.specs.declared.guards.TryFault.{TryFault}
use Rattle.hall.specs.declared.view.StepKind.{StepKind}
use Rattle.hall.specs.declared.view.StepKind.TheVariants as kinds
use Rattle.hall.specs.declared.view.Standing.{Standing}
use Rattle.hall.specs.declared.view.Standing.TheVariants.{Away, Announcing}
use Rattle.hall.specs.declared.view.StepEntry.{StepEntry}
use Rattle.hall.specs.declared.view.View.{View}
use Rattle.hall.specs.Views.{after_look, after_step, entry_of, mode_of, standing}
use Rattle.apply_deferred.specs.SweepLaws.{AllSweeping, is_sweeping, same_mode, sweep_goes}
use Rattle.shared_mutex.specs.Tries.{AddsSteps, AnnouncesAtLast, HoldsAtLast, IsLook, IsPatientTry, StaysAsItWas, is_retract}
use Rattle.shared_mutex.specs.TryLaws.{adds_as, adds_then, looked_once, looked_then, stands_still}
use Rattle.shared_mutex.specs.Entering.{enters_last, enters_patiently}
use Rattle.upgrade_mode.specs.Tries.{EntersUpgradeAtLast}
use Rattle.acquire_many.specs.Met.{EntersAtLastBy}

sweeping_patient : (k : StepKind) → is_sweeping k ≡ true → is_retract k ≡ false
sweeping_patient k e = elim k as (λ z. is_sweeping z ≡ true → is_retract z ≡ false) [ kinds.Retract ↦ λ h. absurd (cc) | kinds.UpRetract ↦ λ h. absurd (cc) | _ ↦ λ h. refl ] e

-- a pass that holds no mode at the lock went on from u, which has the number of v
module _ {P : Type 0} (v : View P) (lock : ℕ) (u w : View P) (same : u.number ≡ v.number) (free : mode_of (standing u lock) ≡ None) where
  looks : StaysAsItWas u lock w → AddsSteps (IsPatientTry v lock) u w
  looks looked = adds_as (IsLook u lock) (IsPatientTry v lock) u w (λ e p. ((p.0 ∙ same, p.1, p.2 ∙ free), p.3)) looked.steps

  step : (kind : StepKind) (word : ℕ) (won : Bool) (y : Standing) (part : P) → is_retract kind ≡ false → w ≡ after_step u kind lock word won y part → AddsSteps (IsPatientTry v lock) u w
  step kind word won y part patient is =
      let e : StepEntry = entry_of u kind lock word won in (e ∷ [], ap (λ (z : View P). z.steps) is, All-cons (IsPatientTry v lock) e [] ((same, refl, free), patient) (All-nil (IsPatientTry v lock)))

module _ {P : Type 0} where
  -- looks, and then a step
  looks_step : (v o u w : View P) (lock : ℕ) (kind : StepKind) (word : ℕ) (y : Standing) (part : P) → o.number ≡ v.number → mode_of (standing o lock) ≡ None → StaysAsItWas o lock u → is_retract kind ≡ false → w ≡ after_step u kind lock word true y part → AddsSteps (IsPatientTry v lock) o w
  looks_step v o u w lock kind word y part same free looked patient is =
      adds_then (IsPatientTry v lock) o u w (looks v lock o u same free looked) (step v lock u w (looked.number ∙ same) (ap mode_of (stands_still o u lock looked) ∙ free) kind word true y part patient is)

  -- looks, one look more, and then a step
  tries_step : (v u w : View P) (lock : ℕ) (kind : StepKind) (seen : ℕ) (y : Standing) (part : P) → mode_of (standing v lock) ≡ None → StaysAsItWas v lock u → is_retract kind ≡ false → w ≡ after_step (after_look u kinds.Load lock seen) kind lock seen true y part → AddsSteps (IsPatientTry v lock) v w
  tries_step v u w lock kind seen y part free looked patient is =
      let look : View P = after_look u kinds.Load lock seen in
      looks_step v v look w lock kind seen y part refl free (looked_then v u look lock looked (looked_once u look kinds.Load lock seen refl refl)) patient is

  -- a sweep
  all_patient : (v : View P) (lock number : ℕ) (es : List StepEntry) → number ≡ v.number → AllSweeping number lock None es → All (IsPatientTry v lock) es
  all_patient v lock number [] same h = All-nil (IsPatientTry v lock)
  all_patient v lock number (e ∷ es) same h = All-cons (IsPatientTry v lock) e es ((h.0 ∙ same, h.1, h.3), sweeping_patient e.kind h.2) (all_patient v lock number es same h.4)

module _ {C P : Type 0} (g : Ghosts C P) (v w : View P) (lock : ℕ) (away : standing v lock ≡ Away) (faults : List TryFault) where
  pub patient_reader : (form : Form) → EntersAtLastBy g v lock form faults w → AddsSteps (IsPatientTry v lock) v w
  patient_reader form e =
      let u : View P = e.0 in let still : standing u lock ≡ Away = stands_still v u lock e.2 ∙ away in
      adds_then (IsPatientTry v lock) v u w (looks v lock v u refl (ap mode_of away) e.2)
      (adds_as (IsPatientTry u lock) (IsPatientTry v lock) u w (λ x p. ((p.0.0 ∙ e.2.number, p.0.1, p.0.2), p.1)) (enters_patiently g u w lock still (enters_last g u w lock still (form, e.3))))

  pub patient_upgrader : EntersUpgradeAtLast g v lock faults w → AddsSteps (IsPatientTry v lock) v w
  patient_upgrader e = tries_step v e.0 w lock kinds.UpgradeIn e.3.0 _ e.3.2.0.1 (ap mode_of away) e.2 refl e.3.2.0.3

  -- a writer was announced at last, and swept; then it took the lock at last
  pub patient_writer : (a : View P) (misses : List TryFault) → AnnouncesAtLast g v lock faults a → HoldsAtLast g a lock misses w → AddsSteps (IsPatientTry v lock) v w
  patient_writer a misses began held =
      let u : View P = began.0 in let won = began.3 in let seen : ℕ = won.1.0 in let look : View P = after_look u kinds.Load lock seen in let b : View P = won.0 in
      let looked : StaysAsItWas v lock look = looked_then v u look lock began.2 (looked_once u look kinds.Load lock seen refl refl) in
      let free : mode_of (standing look lock) ≡ None = ap mode_of (stands_still v look lock looked ∙ away) in
      let announced : AddsSteps (IsPatientTry v lock) v b = tries_step v u b lock kinds.Announce seen (Announcing 0 0 false) look.part (ap mode_of away) began.2 refl won.1.2.0 in
      let free_b : mode_of (standing b lock) ≡ None = ap (λ (z : View P). mode_of (standing z lock)) won.1.2.0 ∙ same_mode look.standings lock (Announcing 0 0 false) (sym free) ∙ free in
      let number_b : b.number ≡ v.number = ap (λ (z : View P). z.number) won.1.2.0 ∙ began.2.number in
      let s = sweep_goes g lock v.shape.slots won.2.0 b a won.2.1 in
      let swept : AddsSteps (IsPatientTry v lock) b a = (s.added, s.steps, all_patient v lock b.number s.added number_b (subst (λ m. AllSweeping b.number lock m s.added) free_b s.sweeping)) in
      let last : AddsSteps (IsPatientTry v lock) a w = looks_step v a held.0 w lock kinds.Hold 4 _ held.3.0.1 (s.number ∙ number_b) (s.mode ∙ free_b) held.2 refl held.3.0.3 in
      adds_then (IsPatientTry v lock) v a w (adds_then (IsPatientTry v lock) v b a announced swept) last
