-- Laws of attempts: refused ones after refused ones, and one that succeeds after them.
use Rattle.std.specs.Prelude.{◌≡◌, ℕ, Bool, false, true, List, [], ◌∷◌, ◌++◌}
use Rattle.std.proofs.Common.{subst}
use Rattle.hall.specs.declared.cargo.CargoRule.{Ghosts}
use Rattle.hall.specs.declared.guards.Form.{Form}
use Rattle.hall.specs.declared.guards.TryFault.{TryFault}
use Rattle.hall.specs.declared.view.Standing.{Standing}
use Rattle.hall.specs.declared.view.Standing.TheVariants.{Upgrade, Exclusive, Announcing}
use Rattle.hall.specs.declared.view.Shape.{Shape}
use Rattle.hall.specs.declared.view.View.{View}
use Rattle.hall.specs.Fitting.{stands_by}
use Rattle.shared_mutex.specs.Acquiring.{EntersBy, Finishes, RefusesAnnouncing, RefusesShared}
use Rattle.shared_mutex.specs.Tries.{AnnouncesAndSweeps, MeetsReaders, StaysAsItWas}
use Rattle.shared_mutex.specs.TryLaws.{all_looked, meeting_looked, reader_looked, refused_then, still_elsewhere, wins_then, writer_looked}
use Rattle.upgrade_mode.specs.Holding.{EntersUpgrade, RefusesUpgrade}
use Rattle.upgrade_mode.specs.Tries.{MissesBeginning, beginning_looked, upgrader_looked}
use Rattle.sync_cell.specs.Attempts.{BeginsAndSweeps, HasAnnounced, HasBegun, HasEntered, HasFinished, HasUpgraded, HasWon, StillAnnounced, StillBelow, StillOutside, StillRefused, StillUnannounced, StillWaiting}

module _ {P : Type 0} (misses : View P → View P → TryFault → Type 0) where
  refused_again : (v u w : View P) (f h : TryFault) → StillRefused misses v f u → StillRefused misses u h w → StillRefused misses v h w
  refused_again v u w f h a b = (b.0 ++ f ∷ a.0, refused_then misses v u w (f ∷ a.0) (h ∷ b.0) a.1 b.1)

  module _ (lock : ℕ) (each : (u w : View P) (f : TryFault) → misses u w f → StaysAsItWas u lock w) where
    -- where each refused try only looked
    won_then : (wins : View P → View P → Type 0) (stands : Standing) (v u w : View P) (f : TryFault) → StillRefused misses v f u → HasWon misses wins stands u lock w → HasWon misses wins stands v lock w
    won_then wins stands v u w f a b = (
      b.0,
      still_elsewhere v u w lock (all_looked misses lock each v u (f ∷ a.0) a.1) b.1,
      (b.2.0 ++ f ∷ a.0, wins_then misses lock each wins v u w (f ∷ a.0) b.2.0 a.1 b.2.1),
    )

    -- and what wins speaks of the hall's shape
    shaped_then : (wins : Shape → View P → View P → Type 0) (stands : Shape → Standing) (v u w : View P) (f : TryFault) → StillRefused misses v f u → HasWon misses (wins u.shape) (stands u.shape) u lock w → HasWon misses (wins v.shape) (stands v.shape) v lock w
    shaped_then wins stands v u w f a b = won_then (wins v.shape) (stands v.shape) v u w f a (subst (λ (s : Shape). HasWon misses (wins s) (stands s) u lock w) (all_looked misses lock each v u (f ∷ a.0) a.1).shape b)

module _ {C P : Type 0} (g : Ghosts C P) where
  -- readers
  pub outside_again : (v u w : View P) (lock : ℕ) (f h : TryFault) → StillOutside g v lock f u → StillOutside g u lock h w → StillOutside g v lock h w
  outside_again v u w lock f h a b = refused_again (λ v w fault. RefusesShared g v lock w fault) v u w f h a b

  pub entered_then : (v u w : View P) (lock : ℕ) (f : TryFault) (form : Form) → StillOutside g v lock f u → HasEntered g u lock form w → HasEntered g v lock form w
  entered_then v u w lock f form a b = won_then (λ v w fault. RefusesShared g v lock w fault) lock (λ u w f. reader_looked g u lock w f) (λ u w. EntersBy g u lock form w) (stands_by form) v u w f a b

  -- upgrade
  pub below_again : (v u w : View P) (lock : ℕ) (f h : TryFault) → StillBelow g v lock f u → StillBelow g u lock h w → StillBelow g v lock h w
  below_again v u w lock f h a b = refused_again (λ v w fault. RefusesUpgrade g v lock w fault) v u w f h a b

  pub upgraded_then : (v u w : View P) (lock : ℕ) (f : TryFault) → StillBelow g v lock f u → HasUpgraded g u lock w → HasUpgraded g v lock w
  upgraded_then v u w lock f a b = won_then (λ v w fault. RefusesUpgrade g v lock w fault) lock (λ u w f. upgrader_looked g u lock w f) (λ u w. EntersUpgrade g u lock w) Upgrade v u w f a b

  -- writers, from outside and from upgrade
  pub unannounced_again : (v u w : View P) (lock : ℕ) (f h : TryFault) → StillUnannounced g v lock f u → StillUnannounced g u lock h w → StillUnannounced g v lock h w
  unannounced_again v u w lock f h a b = refused_again (λ v w fault. RefusesAnnouncing g v lock w fault) v u w f h a b

  pub announced_then : (v u w : View P) (lock : ℕ) (f : TryFault) → StillUnannounced g v lock f u → HasAnnounced g u lock w → HasAnnounced g v lock w
  announced_then v u w lock f a b = shaped_then (λ v w fault. RefusesAnnouncing g v lock w fault) lock (λ u w f. writer_looked g u lock w f) (λ s u w. AnnouncesAndSweeps g s.slots u lock w) (λ s. Announcing s.slots 0 false) v u w f a b

  pub waiting_again : (v u w : View P) (lock : ℕ) (f h : TryFault) → StillWaiting g v lock f u → StillWaiting g u lock h w → StillWaiting g v lock h w
  waiting_again v u w lock f h a b = refused_again (λ v w fault. MissesBeginning g v lock w fault) v u w f h a b

  pub begun_then : (v u w : View P) (lock : ℕ) (f : TryFault) → StillWaiting g v lock f u → HasBegun g u lock w → HasBegun g v lock w
  begun_then v u w lock f a b = shaped_then (λ v w fault. MissesBeginning g v lock w fault) lock (λ u w f. beginning_looked g u lock w f) (λ s u w. BeginsAndSweeps g s.slots u lock w) (λ s. Announcing s.slots 0 true) v u w f a b

  pub announced_still : (v u w : View P) (lock : ℕ) (f h : TryFault) → StillAnnounced g v lock f u → StillAnnounced g u lock h w → StillAnnounced g v lock h w
  announced_still v u w lock f h a b = refused_again (λ v w fault. MeetsReaders g v lock w fault) v u w f h a b

  pub finished_then : (from_upgrade : Bool) (v u w : View P) (lock : ℕ) (f : TryFault) → StillAnnounced g v lock f u → HasFinished g from_upgrade u lock w → HasFinished g from_upgrade v lock w
  finished_then from_upgrade v u w lock f a b = won_then (λ v w fault. MeetsReaders g v lock w fault) lock (λ u w f. meeting_looked g u lock w f) (λ u w. Finishes g from_upgrade u lock w) Exclusive v u w f a b
