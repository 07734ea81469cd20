-- A sweep as a loop over the slots.
use Rattle.std.proofs.Common.{◌≡◌, ℕ, ◌+◌, ◌*◌, ◌<◌, ◌≤◌, Bool, false, if◌then◌else◌, cond, length, arith, ap, ◌∙◌, subst, length-append}
use Rattle.hall.specs.declared.cargo.CargoRule.{Ghosts}
use Rattle.hall.specs.declared.guards.Announced.{Announced}
use Rattle.hall.specs.declared.view.Shape.{Shape}
use Rattle.hall.specs.declared.view.View.{View}
use Rattle.hall.specs.declared.view.Standing.TheVariants.{Announcing}
use Rattle.hall.specs.Calls.{MadeAtMost}
use Rattle.hall.specs.Fitting.{AnnouncedFits}
use Rattle.hall.specs.Slotting.{AddsHand}
use Rattle.hall.specs.Views.{standing}
use Rattle.apply_deferred.specs.Sweeping.{SweepsSlot, SweepsFirst, Sweeps}
use Rattle.apply_deferred.specs.SweepLaws.{GoesOnSweeping, sweep_goes, first_stands, sweep_stands, sweeps_on}

module _ {C P : Type 0} (g : Ghosts C P) (shape : Shape) (v : View P) (a : Announced) (fits : AnnouncedFits shape v a) (unswept : a.swept ≡ false) (wide : length v.standings ≡ shape.locks) where
  starts : standing v a.lock ≡ Announcing 0 0 a.from_upgrade
  starts = fits.1 ∙ ap (λ (b : Bool). Announcing (cond b shape.slots 0) 0 a.from_upgrade) unswept

  near : a.lock < length v.standings
  near = let low = fits.0 in omega (arith, wide)

  -- after the first slots
  pub so_far : (slot hand : ℕ) (u : View P) → SweepsFirst g a.lock slot hand v u → (standing u a.lock ≡ Announcing slot hand a.from_upgrade) × (hand ≤ slot)
  so_far slot hand u r = first_stands g a.lock slot hand v u a.from_upgrade near starts r

  -- and at the end
  pub swept_all : (slot hand found : ℕ) (u w : View P) → slot ≡ shape.slots → SweepsFirst g a.lock slot hand v u → AddsHand g u a.lock found w → Sweeps g a.lock shape.slots hand v w
  swept_all slot hand found u w all r add = (u, found, subst (λ (n : ℕ). SweepsFirst g a.lock n hand v u) all r, add)

  pub ends : (hand : ℕ) (w : View P) → Sweeps g a.lock shape.slots hand v w → GoesOnSweeping v w a.lock (2 * shape.slots + 1) × (standing w a.lock ≡ Announcing shape.slots 0 a.from_upgrade)
  ends hand w r = (sweep_goes g a.lock shape.slots hand v w r, (sweep_stands g a.lock shape.slots hand v w a.from_upgrade near starts r).0)

pub few_steps : {P : Type 0} (v w : View P) (lock n : ℕ) → GoesOnSweeping v w lock n → MadeAtMost v w n
few_steps v w lock n s = let few = s.few in omega (arith, ap length s.steps, length-append s.added v.steps)

-- one slot more, with the token that it had
pub one_more : {C P : Type 0} (g : Ghosts C P) (lock slot hand now : ℕ) (took b : Bool) (v u w : View P) → SweepsFirst g lock slot hand v u → SweepsSlot g lock slot took u w → took ≡ b → now ≡ hand + (if b then 1 else 0) → SweepsFirst g lock (slot + 1) now v w
one_more g lock slot hand now took b v u w r s is sum =
    subst (λ (n : ℕ). SweepsFirst g lock (slot + 1) n v w) (let e : hand + (if took then 1 else 0) ≡ hand + (if b then 1 else 0) = ap (λ (z : Bool). hand + (if z then 1 else 0)) is in omega arith) (sweeps_on g lock slot hand took v u w r s)
