-- What is so of the locks of two wants is so at each position of their list.
use Rattle.std.proofs.Common.{ℕ, zero, suc, ◌<◌, [], ◌∷◌, arith}
use Rattle.acquire_many.specs.Wants.{Want, lock_at}

pub each_of_two : (P : ℕ → Type 0) (x y : Want) → P x.0 → P y.0 → (k : ℕ) → k < 2 → P (lock_at (x ∷ y ∷ []) k)
each_of_two P x y first second zero near = first
each_of_two P x y first second (suc zero) near = second
each_of_two P x y first second (suc (suc k)) near = absurd (omega (arith, near))
