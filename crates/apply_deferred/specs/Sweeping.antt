-- What a sweep does, slot by slot.
use Rattle.std.specs.Prelude.{◌≡◌, ◌≢◌, ◌⊎◌, ℕ, zero, suc, ◌+◌, Bool, true, false, if◌then◌else◌}
use Rattle.hall.specs.declared.cargo.CargoRule.{Ghosts}
use Rattle.hall.specs.declared.view.View.{View}
use Rattle.hall.specs.Slotting.{LooksAtSlot, PicksToken, FindsCleared, AddsHand}

module _ {C P : Type 0} (g : Ghosts C P) (lock : ℕ) where
  -- One slot. A look found another word; or it found the lock's name, and an exchange took the token, or found that it was gone by then.
  abbrev pub SweepsSlot : ℕ → Bool → View P → View P → Type 0
  SweepsSlot slot true v w = (u : View P) × LooksAtSlot g v lock slot (lock + 1) u × PicksToken g u lock slot (lock + 1) w
  SweepsSlot slot false v w = ((found : ℕ) × (found ≢ lock + 1) × LooksAtSlot g v lock slot found w)
      ⊎ ((u : View P) × LooksAtSlot g v lock slot (lock + 1) u × ((found : ℕ) × (found ≢ lock + 1) × FindsCleared g u lock slot found w))

  -- the first slots one after the other, from which so many tokens were taken
  abbrev pub SweepsFirst : ℕ → ℕ → View P → View P → Type 0
  SweepsFirst zero taken v w = (taken ≡ 0) × (w ≡ v)
  SweepsFirst (suc slot) taken v w = (u : View P) × (before : ℕ) × (took : Bool) × SweepsFirst slot before v u × SweepsSlot slot took u w × (taken ≡ before + (if took then 1 else 0))

  -- all slots, and then the addition
  abbrev pub Sweeps : ℕ → ℕ → View P → View P → Type 0
  Sweeps slots taken v w = (u : View P) × (found : ℕ) × SweepsFirst slots taken v u × AddsHand g u lock found w
