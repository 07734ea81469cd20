-- Facts of each number below a bound.
use Rattle.std.proofs.Common.{ℕ, ◌+◌, ◌<◌, sym, subst, arith}
use mathlib.Core.Logic.{dite}
use native.Mathlib.Decide.{ℕ_discrete}

-- one number more
pub below_next : (P : ℕ → Type 0) (n : ℕ) → ((i : ℕ) → i < n → P i) → P n → (i : ℕ) → i < n + 1 → P i
below_next P n below last i lt = dite (ℕ_discrete i n) (λ e. subst P (sym e) last) (λ ne. below i (omega (arith, lt, ne)))
