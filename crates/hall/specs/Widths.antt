-- How many numbers passes cover where one is split and where one is taken in.
use Rattle.std.specs.Prelude.{◌≡◌, ℕ, ◌+◌, ◌≤◌}
use Rattle.std.proofs.Common.{arith}
use Rattle.view_sums.specs.Sums.{total-append}
use Rattle.hall.specs.declared.view.View.{View}
use Rattle.hall.specs.Numbers.{width}
use Rattle.hall.specs.Views.{joined_view, split_left, split_right}

module _ {P : Type 0} where
  pub width_split : (seats quota : ℕ) (left right : P) (v : View P) → seats ≤ v.span → width (split_left seats quota left v) + width (split_right seats quota right v) ≡ width v
  width_split seats quota left right v fits = omega (arith, fits)

  pub width_join : (part : P) (v w : View P) → width (joined_view part v w) ≡ width v + width w
  width_join part v w = omega (arith, total-append (λ (r : ℕ × ℕ). r.1) w.taken v.taken)
