-- The two slots of a seat, from what the code reads of its pass and of the hall.
use Rattle.std.proofs.Common.{◌≡◌, ◌≢◌, ℕ, ◌+◌, ◌*◌, ◌%◌, ap, ◌∙◌, subst}
use Rattle.hall.specs.declared.cargo.CargoRule.{Ghosts}
use Rattle.hall.specs.declared.view.View.{View}
use Rattle.hall.specs.Slotting.{FindsTaken}
use Rattle.reader_slots.specs.Deferring.{FindsFirstTaken, first_slot, second_slot}

module _ {P : Type 0} (v : View P) (number slots : ℕ) (numbered : number ≡ v.number) (sized : slots ≡ v.shape.slots) where
  pub first_is : (2 * number) % slots ≡ first_slot v.shape.slots v.number
  first_is = ap (λ (n : ℕ). (2 * n) % slots) numbered ∙ ap (λ (s : ℕ). (2 * v.number) % s) sized

  pub second_is : (2 * number + 1) % slots ≡ second_slot v.shape.slots v.number
  second_is = ap (λ (n : ℕ). (2 * n + 1) % slots) numbered ∙ ap (λ (s : ℕ). (2 * v.number + 1) % s) sized

module _ {C P : Type 0} (g : Ghosts C P) (v : View P) (lock number slots : ℕ) (numbered : number ≡ v.number) (sized : slots ≡ v.shape.slots) where
  pub first_taken : (found : ℕ) (u : View P) → found ≢ 0 → FindsTaken g v lock ((2 * number) % slots) found u → FindsFirstTaken g v lock found u
  first_taken found u some t = (some, subst (λ (k : ℕ). FindsTaken g v lock k found u) (first_is v number slots numbered sized) t)

  pub second_taken : (found : ℕ) (u w : View P) → FindsTaken g u lock ((2 * number + 1) % slots) found w → FindsTaken g u lock (second_slot v.shape.slots v.number) found w
  second_taken found u w t = subst (λ (k : ℕ). FindsTaken g u lock k found w) (second_is v number slots numbered sized) t
