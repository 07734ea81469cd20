-- What calls above the hall say of the steps that they made.
use Rattle.std.specs.Prelude.{◌≡◌, ◌≢◌, ℕ, ◌+◌, ◌≤◌, length}
use Rattle.hall.specs.declared.view.View.{View}
use Rattle.hall.specs.Views.{standing}

module _ {P : Type 0} where
  -- at each other lock the standing is as it was
  abbrev pub ElsewhereSame : View P → View P → ℕ → Type 0
  ElsewhereSame v w lock = (k : ℕ) → k ≢ lock → standing w k ≡ standing v k

  -- at most so many steps were made
  abbrev pub MadeAtMost : View P → View P → ℕ → Type 0
  MadeAtMost v w n = length w.steps ≤ length v.steps + n
