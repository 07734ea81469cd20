-- Sums over rows.
use Rattle.std.proofs.Common.{◌≡◌, ◌≢◌, ◌<◌, ◌≤◌, ◌+◌, ℕ, zero, suc, sym, refl, ap, arith}
use mathlib.Core.Logic.{dite}
use native.Mathlib.Decide.{ℕ_discrete}
use Rattle.map_cargo.specs.Rows.{sum_of_rows}

pub sum_same : (f g : ℕ → ℕ) (n : ℕ) → ((r : ℕ) → r < n → f r ≡ g r) → sum_of_rows f n ≡ sum_of_rows g n
sum_same f g zero same = refl
sum_same f g (suc n) same = let x = sum_same f g n (λ r low. same r (omega arith)) in let y = same n (omega arith) in omega arith

pub sum_full : (f : ℕ → ℕ) (n : ℕ) → ((r : ℕ) → r < n → f r ≡ 1) → sum_of_rows f n ≡ n
sum_full f zero all = refl
sum_full f (suc n) all = let x = sum_full f n (λ r low. all r (omega arith)) in let y = all n (omega arith) in omega arith

-- one summand changed
pub sum_changed : (f g : ℕ → ℕ) (n j : ℕ) → j < n → ((r : ℕ) → r < n → r ≢ j → g r ≡ f r) → sum_of_rows g n + f j ≡ sum_of_rows f n + g j
sum_changed f g zero j low same = absurd (omega arith)
sum_changed f g (suc n) j low same = dite (ℕ_discrete j n)
    (λ is. let x = sum_same g f n (λ r below. same r (omega arith) (λ e. omega arith)) in let y = ap f is in let z = ap g is in omega arith)
    (λ ne. let x = sum_changed f g n j (omega arith) (λ r below. same r (omega arith)) in let y = same n (omega arith) (λ e. ne (sym e)) in omega arith)

pub sum_most : (f : ℕ → ℕ) (n : ℕ) → ((r : ℕ) → r < n → f r ≤ 1) → sum_of_rows f n ≤ n
sum_most f zero few = omega arith
sum_most f (suc n) few = let x = sum_most f n (λ r low. few r (omega arith)) in let y = few n (omega arith) in omega arith

-- a summand is at most the sum
pub sum_least : (f : ℕ → ℕ) (n j : ℕ) → j < n → f j ≤ sum_of_rows f n
sum_least f zero j low = absurd (omega arith)
sum_least f (suc n) j low = dite (ℕ_discrete j n) (λ is. let y = ap f is in omega arith) (λ ne. let x = sum_least f n j (omega arith) in omega arith)

-- one row that doesn't count
pub sum_gap : (f : ℕ → ℕ) (n j : ℕ) → j < n → ((r : ℕ) → r < n → f r ≤ 1) → f j ≡ 0 → sum_of_rows f n < n
sum_gap f zero j low few none = absurd (omega arith)
sum_gap f (suc n) j low few none = dite (ℕ_discrete j n)
    (λ is. let y = ap f is in let x = sum_most f n (λ r below. few r (omega arith)) in omega arith)
    (λ ne. let x = sum_gap f n j (omega arith) (λ r below. few r (omega arith)) none in let y = few n (omega arith) in omega arith)
