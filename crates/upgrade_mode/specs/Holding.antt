-- What the calls of upgrade mode leave to their pass.
use Rattle.std.specs.Prelude.{◌≡◌, ◌≢◌, ℕ, true, false}
use Rattle.hall.specs.declared.cargo.CargoRule.{Ghosts}
use Rattle.hall.specs.declared.guards.TryFault.{TryFault}
use Rattle.hall.specs.declared.guards.TryFault.TheVariants.{Busy, Raced}
use Rattle.hall.specs.declared.view.View.{View}
use Rattle.hall.specs.declared.view.StepKind.TheVariants as kinds
use Rattle.hall.specs.Plays.{conflicts_for_announcing}
use Rattle.hall.specs.Reasons.{WasNotAlone, MetAWriter}
use Rattle.hall.specs.Upgrading.{ShowsUpgrade, TakesUpgrade, AnnouncesUp}
use Rattle.hall.specs.Views.{after_look}

module _ {C P : Type 0} (g : Ghosts C P) where
  -- one load found a word that doesn't conflict, and one exchange from it took upgrade
  abbrev pub EntersUpgrade : View P → ℕ → View P → Type 0
  EntersUpgrade v lock w = (seen : ℕ) × (conflicts_for_announcing seen ≡ false) × TakesUpgrade g (after_look v kinds.Load lock seen) lock seen w

  -- Busy: one load, from outside, found this word, which conflicts; so a writer or an upgrade holder was there.
  -- Raced: one load found a word that doesn't conflict, and then one failed exchange another word; so another seat was there
  abbrev pub RefusesUpgrade : View P → ℕ → View P → TryFault → Type 0
  RefusesUpgrade v lock w (Busy word) = (conflicts_for_announcing word ≡ true) × (w ≡ after_look v kinds.Load lock word) × MetAWriter g w lock
  RefusesUpgrade v lock w (Raced expected found) = (expected ≢ found) × (w ≡ after_look (after_look v kinds.Load lock expected) kinds.UpgradeIn lock found) × WasNotAlone g w lock × (conflicts_for_announcing expected ≡ false)

  -- one load found a word that shows the upgrade, and one exchange from it announced the upgrade holder
  abbrev pub BeginsUpgrade : View P → ℕ → View P → Type 0
  BeginsUpgrade v lock w = (seen : ℕ) × ShowsUpgrade seen × AnnouncesUp g (after_look v kinds.Load lock seen) lock seen w

  -- one load found a word that shows the upgrade and no writer, and then one failed exchange another word; so another seat was there
  abbrev pub RacesToBegin : View P → ℕ → ℕ → ℕ → View P → Type 0
  RacesToBegin v lock expected found w = (expected ≢ found) × (w ≡ after_look (after_look v kinds.Load lock expected) kinds.Up lock found) × WasNotAlone g w lock × ShowsUpgrade expected
