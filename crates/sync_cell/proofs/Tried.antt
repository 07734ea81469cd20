-- One try for upgrade as an attempt, whichever way it ended.
use Rattle.std.specs.Prelude.{◌≡◌, ℕ, ◌+◌, [], Some, None, Ok, Err, IfOk, IfErr, MatchResult}
use Rattle.std.specs.Result.{result_err}
use Rattle.std.specs.declared.result.Result.{Result}
use Rattle.std.proofs.Common.{refl, ap}
use Rattle.hall.specs.declared.cargo.CargoRule.{Ghosts}
use Rattle.hall.specs.declared.guards.TryFault.{TryFault}
use Rattle.hall.specs.declared.guards.TryFault.TheVariants.{Busy, Raced}
use Rattle.hall.specs.declared.view.View.{View}
use Rattle.hall.specs.declared.view.Standing.{Standing}
use Rattle.hall.specs.declared.view.Standing.TheVariants.{Away}
use Rattle.hall.specs.Views.{standing}
use Rattle.shared_mutex.specs.Acquiring.{ElsewhereSame}
use Rattle.shared_mutex.specs.TryLaws.{looked_none}
use Rattle.upgrade_mode.specs.Holding.{EntersUpgrade, RefusesUpgrade}
use Rattle.upgrade_mode.specs.Tries.{MissesBeginning}
use Rattle.sync_cell.specs.Attempts.{HasWon, StillRefused, last_fault}
use Rattle.sync_cell.proofs.Counted.{loads, upgrader_counts, upgrading_counts}

module _ {P G : Type 0} (misses : View P → View P → TryFault → Type 0) (wins : View P → View P → Type 0) (v w : View P) (names : G → Type 0) where
  abbrev pub Tried : Result G TryFault → Type 0
  Tried r = MatchResult r (λ guard. names guard × wins v w) (λ fault. misses v w fault)

  -- each way it made one load
  once : ((f : TryFault) → misses v w f → loads w ≡ loads v + 1) → (wins v w → loads w ≡ loads v + 1) → (r : Result G TryFault) → Tried r → loads w ≡ loads v + 1
  once missed won (Ok guard) t = won t.1
  once missed won (Err f) t = missed f t

  -- the newest step tells the fault
  fault : ((f : TryFault) → misses v w f → last_fault w.steps ≡ Some f) → (wins v w → last_fault w.steps ≡ None) → (r : Result G TryFault) → Tried r → last_fault w.steps ≡ result_err r
  fault missed won (Ok guard) t = won t.1
  fault missed won (Err f) t = missed f t

  pub tried_won : (stands : Standing) (lock : ℕ) (r : Result G TryFault) → Tried r → MatchResult r (λ _. standing w lock ≡ stands) (λ _. standing w lock ≡ Away) → ElsewhereSame v w lock → IfOk r (λ guard. names guard × HasWon misses wins stands v lock w)
  tried_won stands lock (Ok guard) t stood same = (t.0, (stood, same, ([], (v, refl, looked_none v v lock refl, t.1))))
  tried_won stands lock (Err f) t stood same = tt

  pub tried_refused : (r : Result G TryFault) → Tried r → IfErr r (λ fault. StillRefused misses v fault w)
  tried_refused (Ok guard) t = tt
  tried_refused (Err f) t = ([], (v, refl, t))

module _ {C P G : Type 0} (g : Ghosts C P) (v : View P) (lock : ℕ) (w : View P) (names : G → Type 0) where
  upgrader_faults : (f : TryFault) → RefusesUpgrade g v lock w f → last_fault w.steps ≡ Some f
  upgrader_faults (Busy word) r = ap (λ (z : View P). last_fault z.steps) r.1
  upgrader_faults (Raced expected found) r = ap (λ (z : View P). last_fault z.steps) r.1

  -- tries to take upgrade
  abbrev pub TriedToUpgrade : Result G TryFault → Type 0
  TriedToUpgrade r = Tried (λ v w f. RefusesUpgrade g v lock w f) (λ v w. EntersUpgrade g v lock w) v w names r

  pub upgraded_once : (r : Result G TryFault) → TriedToUpgrade r → loads w ≡ loads v + 1
  upgraded_once r t = once (λ v w f. RefusesUpgrade g v lock w f) (λ v w. EntersUpgrade g v lock w) v w names (λ f m. upgrader_counts g lock v w f m) (λ t. upgrading_counts g lock v w t) r t

  pub upgraded_fault : (r : Result G TryFault) → TriedToUpgrade r → last_fault w.steps ≡ result_err r
  upgraded_fault r t = fault (λ v w f. RefusesUpgrade g v lock w f) (λ v w. EntersUpgrade g v lock w) v w names (λ f m. upgrader_faults f m) (λ t. ap (λ (z : View P). last_fault z.steps) t.2.0.3) r t
