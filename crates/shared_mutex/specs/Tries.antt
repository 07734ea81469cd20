-- Tries that were made one after the other, and what those that were refused leave to their pass.
use Rattle.std.specs.Prelude.{◌≡◌, ◌⊎◌, ℕ, Bool, true, false, List, [], ◌∷◌, ◌++◌, All, None}
use Rattle.hall.specs.declared.cargo.CargoRule.{Ghosts}
use Rattle.hall.specs.declared.guards.TryFault.{TryFault}
use Rattle.hall.specs.declared.guards.TryFault.TheVariants.{Busy, Raced}
use Rattle.hall.specs.declared.view.StepKind.{StepKind}
use Rattle.hall.specs.declared.view.StepKind.TheVariants as kinds
use Rattle.hall.specs.declared.view.StepEntry.{StepEntry}
use Rattle.hall.specs.declared.view.View.{View}
use Rattle.hall.specs.Plays.{HoldMisses, Holding, Retracts}
use Rattle.hall.specs.Reasons.{WasNotAlone}
use Rattle.hall.specs.Treading.{Treads, IsBetween}
use Rattle.hall.specs.Views.{mode_of, standing}
use Rattle.apply_deferred.specs.Sweeping.{Sweeps}
use Rattle.shared_mutex.specs.Acquiring.{TakesShared, RefusesShared, AnnouncesWriter, RefusesAnnouncing}
use Rattle.shared_mutex.specs.Tokens.{is_token_step}

-- tries that were all refused took v to w, each as `refuses` says; the newest fault stands first
abbrev pub AllRefused : {V F : Type 0} → (V → V → F → Type 0) → V → List F → V → Type 0
AllRefused {V} refuses v [] w = w ≡ v
AllRefused {V} refuses v (fault ∷ faults) w = (u : V) × AllRefused refuses v faults u × refuses u w fault

-- a step that takes an announcement back, from outside or from upgrade
abbrev pub is_retract : StepKind → Bool
is_retract kinds.Retract = true
is_retract kinds.UpRetract = true
is_retract kind = false

module _ {P : Type 0} where
  -- a look at a lock: a load, or an exchange that failed, on its word or for it on a slot, under the pass's number and in the mode that it holds there. A reader's token that is taken back again is as good as a look, so each step of it is one too
  abbrev pub IsLook : View P → ℕ → StepEntry → Type 0
  IsLook v lock e = (e.number ≡ v.number) × (e.lock ≡ lock) × (mode_of e.before ≡ mode_of (standing v lock)) × (is_retract e.kind ≡ false) × ((e.won ≡ false) ⊎ (is_token_step e.kind ≡ true))

  -- a step for a lock, on its word or on a slot, under the pass's number, by a pass that holds no mode there
  abbrev pub IsTry : View P → ℕ → StepEntry → Type 0
  IsTry v lock e = (e.number ≡ v.number) × (e.lock ≡ lock) × (mode_of e.before ≡ None)

  -- such a step, and none that takes an announcement back
  abbrev pub IsPatientTry : View P → ℕ → StepEntry → Type 0
  IsPatientTry v lock e = IsTry v lock e × (is_retract e.kind ≡ false)

  -- the steps became more, and each new one is such a step
  abbrev pub AddsSteps : (StepEntry → Type 0) → View P → View P → Type 0
  AddsSteps is v w = (added : List StepEntry) × (w.steps ≡ added ++ v.steps) × All is added

  -- looks at a lock, and tokens that were taken back, add their steps and footprints, and change nothing else of the pass
  pub record StaysAsItWas (v : View P) (lock : ℕ) (w : View P) : Type 0 where
    pub shape : w.shape ≡ v.shape
    pub number : w.number ≡ v.number
    pub span : w.span ≡ v.span
    pub taken : w.taken ≡ v.taken
    pub quota : w.quota ≡ v.quota
    pub standings : w.standings ≡ v.standings
    pub part : w.part ≡ v.part
    pub steps : AddsSteps (IsLook v lock) v w
    pub trail : Treads (IsBetween lock (standing v lock) (standing v lock)) v w

module _ {P : Type 0} (misses : View P → View P → TryFault → Type 0) (wins : View P → View P → Type 0) where
  -- after tries that were refused with these faults, and that left the pass as it was, a try won
  abbrev pub WinsAtLast : View P → ℕ → List TryFault → View P → Type 0
  WinsAtLast v lock faults w = (u : View P) × AllRefused misses v faults u × StaysAsItWas v lock u × wins u w

module _ {C P : Type 0} (g : Ghosts C P) where
  -- tries to enter that were refused with these faults
  abbrev pub ReadersRefused : ℕ → View P → List TryFault → View P → Type 0
  ReadersRefused lock = AllRefused (λ v w fault. RefusesShared g v lock w fault)

  -- tries to announce a writer that were refused
  abbrev pub WritersRefused : ℕ → View P → List TryFault → View P → Type 0
  WritersRefused lock = AllRefused (λ v w fault. RefusesAnnouncing g v lock w fault)

  -- the announced writer found readers inside, whom this word counts
  abbrev pub MeetsReaders : View P → ℕ → View P → TryFault → Type 0
  MeetsReaders v lock w (Busy word) = HoldMisses g v lock word w × WasNotAlone g w lock
  MeetsReaders v lock w (Raced expected found) = ⊥

  -- tries of an announced writer to take the lock that were refused
  abbrev pub ReadersMet : ℕ → View P → List TryFault → View P → Type 0
  ReadersMet lock = AllRefused (λ v w fault. MeetsReaders v lock w fault)

  -- a try announced a writer, which then swept so many slots
  abbrev pub AnnouncesAndSweeps : ℕ → View P → ℕ → View P → Type 0
  AnnouncesAndSweeps slots v lock w = (a : View P) × AnnouncesWriter g v lock a × ((taken : ℕ) × Sweeps g lock slots taken a w)

  -- after refused tries a try entered
  abbrev pub EntersAtLast : View P → ℕ → List TryFault → View P → Type 0
  EntersAtLast v lock faults w = WinsAtLast (λ v w fault. RefusesShared g v lock w fault) (λ u w. TakesShared g u lock w) v lock faults w

  -- and so for a try that announced a writer, which then swept all slots
  abbrev pub AnnouncesAtLast : View P → ℕ → List TryFault → View P → Type 0
  AnnouncesAtLast v lock faults w = WinsAtLast (λ v w fault. RefusesAnnouncing g v lock w fault) (λ u w. AnnouncesAndSweeps v.shape.slots u lock w) v lock faults w

  -- and so for one by which the announced writer took the lock
  abbrev pub HoldsAtLast : View P → ℕ → List TryFault → View P → Type 0
  HoldsAtLast v lock misses w = WinsAtLast (λ v w fault. MeetsReaders v lock w fault) (λ u w. Holding g u lock 4 w) v lock misses w

  -- a writer was announced at last, and then took the lock at last; it stayed announced in between
  abbrev pub WritesAtLast : View P → ℕ → List TryFault → List TryFault → View P → Type 0
  WritesAtLast v lock faults misses w = (a : View P) × AnnouncesAtLast v lock faults a × HoldsAtLast a lock misses w

  -- a writer was announced at last, met readers at each of some tries, and then took its announcement back
  abbrev pub GivesUp : View P → ℕ → List TryFault → List TryFault → View P → Type 0
  GivesUp v lock faults misses w = (a : View P) × AnnouncesAtLast v lock faults a × ((u : View P) × ReadersMet lock a misses u × StaysAsItWas a lock u × ((found : ℕ) × Retracts g u lock found w))
