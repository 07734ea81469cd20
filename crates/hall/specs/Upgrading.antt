-- What each step of upgrade mode, and each lowering, tells its caller.
use Rattle.std.specs.Prelude.{◌≡◌, ℕ, true, None, Some}
use Rattle.lock_model.specs.declared.model.Act.TheVariants as act
use Rattle.state_word.specs.declared.TheConstants.{HELD, ONE, UPGRADE}
use Rattle.state_word.specs.Words.{upgrade_of, begun_of, held_of, announce_of, retract_of, up_of, down_of, to_shared_of}
use Rattle.hall.specs.declared.cargo.CargoRule.{Ghosts}
use Rattle.hall.specs.declared.view.View.{View}
use Rattle.hall.specs.declared.view.StepKind.TheVariants as kinds
use Rattle.hall.specs.declared.view.Standing.TheVariants.{Away, Inline, Upgrade, Exclusive, Announcing}
use Rattle.hall.specs.Cargo.{shared_mode, upgrade_mode}
use Rattle.hall.specs.Views.{after_step}
use Rattle.hall.specs.Moves.{Moment}
use Rattle.hall.specs.Plays.{Looks, Gains}

-- UPGRADE is set, and neither BEGUN nor HELD: the word of a lock whose upgrade holder isn't announced
abbrev pub ShowsUpgrade : ℕ → Type 0
ShowsUpgrade w = (upgrade_of w ≡ 1) × (begun_of w ≡ 0) × (held_of w ≡ 0)

module _ {C P : Type 0} (g : Ghosts C P) where
  -- upgrade was taken
  abbrev pub TakesUpgrade : View P → ℕ → ℕ → View P → Type 0
  TakesUpgrade v lock seen w = Gains g kinds.UpgradeIn Upgrade v lock seen w × Moment g v w lock seen (up_of seen) (Some act.EnterUpgrade)

  abbrev pub UpgradeMisses : View P → ℕ → ℕ → View P → Type 0
  UpgradeMisses = Looks g kinds.UpgradeIn

  -- an upgrade holder left
  abbrev pub LeavesUpgrade : View P → ℕ → ℕ → View P → Type 0
  LeavesUpgrade v lock found w = (w ≡ after_step v kinds.UpgradeOut lock found true Away (g.lowered lock None v.part)) × Moment g v w lock found (down_of found) (Some act.Leave)

  -- an upgrade holder became an inline reader
  abbrev pub LowersUpgrade : View P → ℕ → ℕ → View P → Type 0
  LowersUpgrade v lock found w = (w ≡ after_step v kinds.UpgradeLower lock found true Inline (g.lowered lock shared_mode v.part)) × Moment g v w lock found (to_shared_of found) (Some act.UpgradeToShared)

  -- an upgrade holder was announced as a writer, and holds upgrade still. It has looked at no slot yet
  abbrev pub AnnouncesUp : View P → ℕ → ℕ → View P → Type 0
  AnnouncesUp v lock seen w = (w ≡ after_step v kinds.Up lock seen true (Announcing 0 0 true) v.part) × Moment g v w lock seen (announce_of seen) (Some act.Announce)

  abbrev pub UpMisses : View P → ℕ → ℕ → View P → Type 0
  UpMisses = Looks g kinds.Up

  -- its announcement was taken back, and it holds upgrade as before
  abbrev pub RetractsUp : View P → ℕ → ℕ → View P → Type 0
  RetractsUp v lock found w = (w ≡ after_step v kinds.UpRetract lock found true Upgrade v.part) × Moment g v w lock found (retract_of found) (Some act.Retract)

  -- the writer that was announced from upgrade holds the lock; its part of the cargo is as it was
  abbrev pub HoldingUp : View P → ℕ → ℕ → View P → Type 0
  HoldingUp v lock found w = (w ≡ after_step v kinds.Hold lock 6 true Exclusive v.part) × Moment g v w lock 6 8 (Some act.TakeExclusive)

  -- an exclusive holder became an inline reader, the only one
  abbrev pub LowersToShared : View P → ℕ → ℕ → View P → Type 0
  LowersToShared v lock found w = (found ≡ HELD) × (w ≡ after_step v kinds.ExclusiveShared lock HELD true Inline (g.lowered lock shared_mode v.part)) × Moment g v w lock HELD ONE (Some act.ExclusiveToShared)

  -- an exclusive holder kept upgrade
  abbrev pub LowersToUpgrade : View P → ℕ → ℕ → View P → Type 0
  LowersToUpgrade v lock found w = (found ≡ HELD) × (w ≡ after_step v kinds.ExclusiveUpgrade lock HELD true Upgrade (g.lowered lock upgrade_mode v.part)) × Moment g v w lock HELD UPGRADE (Some act.ExclusiveToUpgrade)
