-- Tries at upgrade mode that were made one after the other: to take upgrade, to be announced from it, and to take the lock then.
use Rattle.std.specs.Prelude.{◌≡◌, ℕ, List}
use Rattle.std.proofs.Common.{refl}
use Rattle.hall.specs.declared.cargo.CargoRule.{Ghosts}
use Rattle.hall.specs.declared.guards.TryFault.{TryFault}
use Rattle.hall.specs.declared.guards.TryFault.TheVariants.{Busy, Raced}
use Rattle.hall.specs.declared.view.StepKind.TheVariants as kinds
use Rattle.hall.specs.declared.view.View.{View}
use Rattle.hall.specs.Upgrading.{HoldingUp}
use Rattle.hall.specs.Views.{after_look}
use Rattle.apply_deferred.specs.Sweeping.{Sweeps}
use Rattle.shared_mutex.specs.Tries.{AllRefused, MeetsReaders, StaysAsItWas, WinsAtLast}
use Rattle.shared_mutex.specs.TryLaws.{all_looked, looked_once, looked_then}
use Rattle.upgrade_mode.specs.Holding.{BeginsUpgrade, EntersUpgrade, RacesToBegin, RefusesUpgrade}

module _ {C P : Type 0} (g : Ghosts C P) where
  -- tries to take upgrade that were refused
  abbrev pub UpgradersRefused : ℕ → View P → List TryFault → View P → Type 0
  UpgradersRefused lock = AllRefused (λ v w fault. RefusesUpgrade g v lock w fault)

  -- after such tries one took upgrade
  abbrev pub EntersUpgradeAtLast : View P → ℕ → List TryFault → View P → Type 0
  EntersUpgradeAtLast v lock faults w = WinsAtLast (λ v w fault. RefusesUpgrade g v lock w fault) (λ u w. EntersUpgrade g u lock w) v lock faults w

  -- the upgrade holder wasn't announced: nothing but a race is in its way
  abbrev pub MissesBeginning : View P → ℕ → View P → TryFault → Type 0
  MissesBeginning v lock w (Busy word) = ⊥
  MissesBeginning v lock w (Raced expected found) = RacesToBegin g v lock expected found w

  -- after such tries one announced it, and then it swept all slots
  abbrev pub BeginsAtLast : View P → ℕ → List TryFault → View P → Type 0
  BeginsAtLast v lock faults w = WinsAtLast (λ v w fault. MissesBeginning v lock w fault) (λ u w. (a : View P) × BeginsUpgrade g u lock a × ((taken : ℕ) × Sweeps g lock v.shape.slots taken a w)) v lock faults w

  -- after tries that met readers one took the lock for the writer that was announced from upgrade
  abbrev pub HoldsUpAtLast : View P → ℕ → List TryFault → View P → Type 0
  HoldsUpAtLast v lock misses w = WinsAtLast (λ v w fault. MeetsReaders g v lock w fault) (λ u w. HoldingUp g u lock 6 w) v lock misses w

  -- the upgrade holder was announced at last, and then took the lock at last; it stayed announced in between
  abbrev pub RisesAtLast : View P → ℕ → List TryFault → List TryFault → View P → Type 0
  RisesAtLast v lock faults misses w = (a : View P) × BeginsAtLast v lock faults a × HoldsUpAtLast a lock misses w

  -- refused tries only looked
  pub upgrader_looked : (v : View P) (lock : ℕ) (w : View P) (f : TryFault) → RefusesUpgrade g v lock w f → StaysAsItWas v lock w
  upgrader_looked v lock w (Busy word) r = looked_once v w kinds.Load lock word refl r.1
  upgrader_looked v lock w (Raced expected found) r = looked_then v (after_look v kinds.Load lock expected) w lock (looked_once v (after_look v kinds.Load lock expected) kinds.Load lock expected refl refl) (looked_once (after_look v kinds.Load lock expected) w kinds.UpgradeIn lock found refl r.1)

  pub beginning_looked : (v : View P) (lock : ℕ) (w : View P) (f : TryFault) → MissesBeginning v lock w f → StaysAsItWas v lock w
  beginning_looked v lock w (Busy word) r = absurd r
  beginning_looked v lock w (Raced expected found) r = looked_then v (after_look v kinds.Load lock expected) w lock (looked_once v (after_look v kinds.Load lock expected) kinds.Load lock expected refl refl) (looked_once (after_look v kinds.Load lock expected) w kinds.Up lock found refl r.1)

  pub upgraders_looked : (v : View P) (lock : ℕ) (w : View P) (fs : List TryFault) → UpgradersRefused lock v fs w → StaysAsItWas v lock w
  upgraders_looked v lock w fs r = all_looked (λ v w f. RefusesUpgrade g v lock w f) lock (λ u w f. upgrader_looked u lock w f) v w fs r

  pub beginnings_looked : (v : View P) (lock : ℕ) (w : View P) (fs : List TryFault) → AllRefused (λ v w fault. MissesBeginning v lock w fault) v fs w → StaysAsItWas v lock w
  beginnings_looked v lock w fs r = all_looked (λ v w f. MissesBeginning v lock w f) lock (λ u w f. beginning_looked u lock w f) v w fs r
