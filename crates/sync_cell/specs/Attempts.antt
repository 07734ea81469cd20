-- What is read of attempts off the steps of their pass, and what attempts leave that were made one after the other.
use Rattle.std.specs.Prelude.{◌≡◌, ℕ, ◌+◌, Bool, true, false, List, [], ◌∷◌, Some, None, cond}
use Rattle.std.specs.declared.option.Option.{Option}
use Rattle.hall.specs.declared.cargo.CargoRule.{Ghosts}
use Rattle.hall.specs.declared.guards.Form.{Form}
use Rattle.hall.specs.declared.guards.TryFault.{TryFault}
use Rattle.hall.specs.declared.guards.TryFault.TheVariants.{Busy, Raced}
use Rattle.hall.specs.declared.view.StepKind.{StepKind}
use Rattle.hall.specs.declared.view.StepKind.TheVariants as kinds
use Rattle.hall.specs.declared.view.Standing.{Standing}
use Rattle.hall.specs.declared.view.Standing.TheVariants.{Upgrade, Exclusive, Announcing}
use Rattle.hall.specs.declared.view.StepEntry.{StepEntry}
use Rattle.hall.specs.declared.view.View.{View}
use Rattle.lock_model.specs.declared.model.Policy.{Policy}
use Rattle.hall.specs.Fitting.{stands_by}
use Rattle.hall.specs.Plays.{conflicts_for_shared}
use Rattle.hall.specs.Views.{standing}
use Rattle.shared_mutex.specs.Acquiring.{ElsewhereSame, EntersBy, Finishes, RefusesAnnouncing, RefusesShared}
use Rattle.shared_mutex.specs.Tries.{AllRefused, AnnouncesAndSweeps, MeetsReaders, WinsAtLast}
use Rattle.upgrade_mode.specs.Holding.{BeginsUpgrade, EntersUpgrade, RefusesUpgrade}
use Rattle.upgrade_mode.specs.Tries.{MissesBeginning}
use Rattle.apply_deferred.specs.Sweeping.{Sweeps}

-- who enters or is announced loads once in each try; an announced writer makes one exchange to take the lock
abbrev pub is_load : StepKind → Bool
is_load kinds.Load = true
is_load kind = false

abbrev pub is_hold : StepKind → Bool
is_hold kinds.Hold = true
is_hold kind = false

-- how many of the steps are of such a kind
abbrev pub how_many : (StepKind → Bool) → List StepEntry → ℕ
how_many is [] = 0
how_many is (e ∷ es) = cond (is e.kind) 1 0 + how_many is es

abbrev pub is_check : StepKind → Bool
is_check kinds.Check = true
is_check kind = false

-- the word that the newest of these steps of such a kind found
abbrev pub word_at : (StepKind → Bool) → List StepEntry → ℕ
word_at is [] = 0
word_at is (e ∷ es) = cond (is e.kind) e.word (word_at is es)

-- a reader that loaded this word, and whose second look found that one, was refused so
abbrev pub turned_back : Policy → ℕ → ℕ → TryFault
turned_back policy expected word = cond (conflicts_for_shared policy word) (Busy word) (Raced expected word)

-- what a reader was refused with whose newest step is of this kind, won or not, and found this word, where these steps came before it. One that took its token back, or gave a unit back for it, was refused for what its second look had found
abbrev pub reader_refusal : Policy → StepKind → Bool → ℕ → List StepEntry → Option TryFault
reader_refusal policy kinds.Load won word es = Some (Busy word)
reader_refusal policy kinds.Enter true word es = None
reader_refusal policy kinds.Enter false word es = Some (Raced (word_at is_load es) word)
reader_refusal policy kinds.WithdrawSlot won word es = Some (turned_back policy (word_at is_load es) (word_at is_check es))
reader_refusal policy kinds.Lower won word es = Some (turned_back policy (word_at is_load es) (word_at is_check es))
reader_refusal policy kind won word es = None

-- what the newest step of a reader was refused with
abbrev pub reader_fault : Policy → List StepEntry → Option TryFault
reader_fault policy [] = None
reader_fault policy (e ∷ es) = reader_refusal policy e.kind e.won e.word es

-- an exchange that failed found this word, and the step before it another
abbrev pub raced_to : ℕ → List StepEntry → Option TryFault
raced_to found [] = None
raced_to found (e ∷ es) = Some (Raced e.word found)

-- what a step of this kind of a writer or an upgrade holder, won or not, that found this word was refused with, where these steps came before it
abbrev pub refusal : StepKind → Bool → ℕ → List StepEntry → Option TryFault
refusal kind true word es = None
refusal kinds.Announce false word es = raced_to word es
refusal kinds.UpgradeIn false word es = raced_to word es
refusal kinds.Up false word es = raced_to word es
refusal kind false word es = Some (Busy word)

-- what the newest step of a writer or an upgrade holder was refused with
abbrev pub last_fault : List StepEntry → Option TryFault
last_fault [] = None
last_fault (e ∷ es) = refusal e.kind e.won e.word es

module _ {P : Type 0} (misses : View P → View P → TryFault → Type 0) where
  -- tries were all refused, the last of them with this fault
  abbrev pub StillRefused : View P → TryFault → View P → Type 0
  StillRefused v fault w = (faults : List TryFault) × AllRefused misses v (fault ∷ faults) w

  -- tries were refused, and then one won; the pass stands so at the lock now, and elsewhere as before
  abbrev pub HasWon : (View P → View P → Type 0) → Standing → View P → ℕ → View P → Type 0
  HasWon wins stands v lock w = (standing w lock ≡ stands) × ElsewhereSame v w lock × ((faults : List TryFault) × WinsAtLast misses wins v lock faults w)

module _ {C P : Type 0} (g : Ghosts C P) where
  -- after tries to enter that were refused with these faults a try entered in this form
  abbrev pub ReadsAtLast : View P → ℕ → Form → List TryFault → View P → Type 0
  ReadsAtLast v lock form faults w = WinsAtLast (λ v w fault. RefusesShared g v lock w fault) (λ u w. EntersBy g u lock form w) v lock faults w

  -- a try announced the upgrade holder, which then swept so many slots
  abbrev pub BeginsAndSweeps : ℕ → View P → ℕ → View P → Type 0
  BeginsAndSweeps slots v lock w = (a : View P) × BeginsUpgrade g v lock a × ((taken : ℕ) × Sweeps g lock slots taken a w)

  -- tries to enter were all refused, the last of them with this fault
  abbrev pub StillOutside : View P → ℕ → TryFault → View P → Type 0
  StillOutside v lock fault w = StillRefused (λ v w fault. RefusesShared g v lock w fault) v fault w

  -- and then one entered in this form
  abbrev pub HasEntered : View P → ℕ → Form → View P → Type 0
  HasEntered v lock form w = HasWon (λ v w fault. RefusesShared g v lock w fault) (λ u w. EntersBy g u lock form w) (stands_by form) v lock w

  -- tries to announce a writer were all refused
  abbrev pub StillUnannounced : View P → ℕ → TryFault → View P → Type 0
  StillUnannounced v lock fault w = StillRefused (λ v w fault. RefusesAnnouncing g v lock w fault) v fault w

  -- and then one announced it, which swept
  abbrev pub HasAnnounced : View P → ℕ → View P → Type 0
  HasAnnounced v lock w = HasWon (λ v w fault. RefusesAnnouncing g v lock w fault) (λ u w. AnnouncesAndSweeps g v.shape.slots u lock w) (Announcing v.shape.slots 0 false) v lock w

  -- tries to take upgrade were all refused
  abbrev pub StillBelow : View P → ℕ → TryFault → View P → Type 0
  StillBelow v lock fault w = StillRefused (λ v w fault. RefusesUpgrade g v lock w fault) v fault w

  -- and then one took it
  abbrev pub HasUpgraded : View P → ℕ → View P → Type 0
  HasUpgraded v lock w = HasWon (λ v w fault. RefusesUpgrade g v lock w fault) (λ u w. EntersUpgrade g u lock w) Upgrade v lock w

  -- tries to announce the upgrade holder all raced
  abbrev pub StillWaiting : View P → ℕ → TryFault → View P → Type 0
  StillWaiting v lock fault w = StillRefused (λ v w fault. MissesBeginning g v lock w fault) v fault w

  -- and then one announced it, which swept
  abbrev pub HasBegun : View P → ℕ → View P → Type 0
  HasBegun v lock w = HasWon (λ v w fault. MissesBeginning g v lock w fault) (λ u w. BeginsAndSweeps v.shape.slots u lock w) (Announcing v.shape.slots 0 true) v lock w

  -- tries of an announced writer to take the lock were all refused
  abbrev pub StillAnnounced : View P → ℕ → TryFault → View P → Type 0
  StillAnnounced v lock fault w = StillRefused (λ v w fault. MeetsReaders g v lock w fault) v fault w

  -- and then one took it, for a writer that was announced from outside or from upgrade
  abbrev pub HasFinished : Bool → View P → ℕ → View P → Type 0
  HasFinished from_upgrade v lock w = HasWon (λ v w fault. MeetsReaders g v lock w fault) (λ u w. Finishes g from_upgrade u lock w) Exclusive v lock w
