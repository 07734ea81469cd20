-- When a guard, or an announcement, fits a pass of a hall of this shape: the pass's standing is the one that it names.
use Rattle.std.specs.Prelude.{◌≡◌, ℕ, ◌<◌, cond}
use Rattle.hall.specs.declared.guards.Form.{Form}
use Rattle.hall.specs.declared.guards.Form.TheVariants as forms
use Rattle.hall.specs.declared.guards.SharedGuard.{SharedGuard}
use Rattle.hall.specs.declared.guards.UpgradeGuard.{UpgradeGuard}
use Rattle.hall.specs.declared.guards.ExclusiveGuard.{ExclusiveGuard}
use Rattle.hall.specs.declared.guards.Announced.{Announced}
use Rattle.hall.specs.declared.view.Shape.{Shape}
use Rattle.hall.specs.declared.view.View.{View}
use Rattle.hall.specs.declared.view.Standing.{Standing}
use Rattle.hall.specs.declared.view.Standing.TheVariants.{Inline, Slotted, Upgrade, Exclusive, Announcing}
use Rattle.hall.specs.Views.{standing}

-- the standing of a reader whose hold has this form, and that its slot is one of so many
abbrev pub stands_by : Form → Standing
stands_by (forms.Deferred slot) = Slotted slot
stands_by (forms.Inline why) = Inline
stands_by forms.Lowered = Inline

abbrev pub IsFormOf : ℕ → Form → Type 0
IsFormOf slots (forms.Deferred slot) = slot < slots
IsFormOf slots (forms.Inline why) = Unit {0}
IsFormOf slots forms.Lowered = Unit {0}

module _ {P : Type 0} where
  abbrev pub SharedFits : Shape → View P → SharedGuard → Type 0
  SharedFits shape v guard = (guard.lock < shape.locks) × (standing v guard.lock ≡ stands_by guard.form) × IsFormOf shape.slots guard.form

  abbrev pub UpgradeFits : Shape → View P → UpgradeGuard → Type 0
  UpgradeFits shape v guard = (guard.lock < shape.locks) × (standing v guard.lock ≡ Upgrade)

  abbrev pub ExclusiveFits : Shape → View P → ExclusiveGuard → Type 0
  ExclusiveFits shape v guard = (guard.lock < shape.locks) × (standing v guard.lock ≡ Exclusive)

  -- it was announced from where it says, has no unit in its hand, and has looked at every slot where it says that it swept, and else at none
  abbrev pub AnnouncedFits : Shape → View P → Announced → Type 0
  AnnouncedFits shape v a = (a.lock < shape.locks) × (standing v a.lock ≡ Announcing (cond a.swept shape.slots 0) 0 a.from_upgrade)
