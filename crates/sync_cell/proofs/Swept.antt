-- An announcement that swept, as the attempts of this crate read it.
use Rattle.std.specs.Prelude.{◌≡◌, ◌≢◌, ℕ, ◌+◌, Bool, true, cond, []}
use Rattle.std.proofs.Common.{refl, sym, ap, ◌∙◌, subst}
use Rattle.hall.specs.declared.cargo.CargoRule.{Ghosts}
use Rattle.hall.specs.declared.guards.Announced.{Announced}
use Rattle.hall.specs.declared.guards.TryFault.{TryFault}
use Rattle.hall.specs.declared.view.Standing.TheVariants.{Announcing}
use Rattle.hall.specs.declared.view.View.{View}
use Rattle.hall.specs.Views.{standing}
use Rattle.apply_deferred.specs.Sweeping.{Sweeps}
use Rattle.shared_mutex.specs.Acquiring.{ElsewhereSame}
use Rattle.shared_mutex.specs.TryLaws.{looked_none}
use Rattle.sync_cell.specs.Attempts.{HasWon}

module _ {C P : Type 0} (g : Ghosts C P) (v a w : View P) (cell slots taken : ℕ) (from : Bool) (before after : Announced)
    (at : before.lock ≡ cell) (comes : before.from_upgrade ≡ from) (of_hall : slots ≡ v.shape.slots) (swept : after ≡ record before { swept = true })
    (sweep : Sweeps g before.lock slots taken a w) (fits : standing w after.lock ≡ Announcing (cond after.swept slots 0) 0 after.from_upgrade) where
  swept_here : Sweeps g cell v.shape.slots taken a w
  swept_here = subst (λ (n : ℕ). Sweeps g cell n taken a w) of_hall (subst (λ (j : ℕ). Sweeps g j slots taken a w) at sweep)

  stands : standing w cell ≡ Announcing v.shape.slots 0 from
  stands =
      let there = subst (λ (z : Announced). standing w z.lock ≡ Announcing (cond z.swept slots 0) 0 z.from_upgrade) swept fits in
      ap (λ (j : ℕ). standing w j) (sym at) ∙ there ∙ ap (λ (n : ℕ). Announcing n 0 before.from_upgrade) of_hall ∙ ap (λ (b : Bool). Announcing v.shape.slots 0 b) comes

  -- such a try won
  pub swept_won : (misses : View P → View P → TryFault → Type 0) (announces : View P → View P → Type 0) → announces v a → ElsewhereSame v a cell → ElsewhereSame a w before.lock → HasWon misses (λ u w. (a : View P) × announces u a × ((taken : ℕ) × Sweeps g cell v.shape.slots taken a w)) (Announcing v.shape.slots 0 from) v cell w
  swept_won misses announces by first then =
      (stands, (λ k ne. then k (λ e. ne (e ∙ at)) ∙ first k ne), ([], (v, refl, looked_none v v cell refl, (a, by, (taken, swept_here)))))
