-- Sums over the nodes below n, of what a function has of each, where it changes at one node.
use Rattle.std.proofs.Common.{◌≡◌, ◌≢◌, ◌⊎◌, inl, inr, ℕ, zero, suc, ◌+◌, ◌<◌, sym, ap, ◌∙◌, refl, arith, cond, eq-eqb, ne_eqb}
use mathlib.Core.Option.{some, none, Option as Maybe}
use mathlib.Core.Logic.{dite}
use native.Mathlib.Decide.{ℕ_discrete}
use Rattle.waiter_chain.specs.Goods.{put, below, nothing}

module _ {P : Type 0} where
  pub put-other : (f : ℕ → Maybe P) (k n : ℕ) (y : Maybe P) → n ≢ k → put f k y n ≡ f n
  put-other f k n y ne = ap {B = Maybe P} (λ b. cond b y (f n)) (ne_eqb n k ne)

  pub put-here : (f : ℕ → Maybe P) (k : ℕ) (y : Maybe P) → put f k y k ≡ y
  put-here f k y = ap {B = Maybe P} (λ b. cond b y (f k)) (eq-eqb k k refl)

  -- what is there after a change at k is what was put there, or was there before
  pub put_some : (f : ℕ → Maybe P) (k n : ℕ) (y : Maybe P) (x : P) → put f k y n ≡ some x → ((n ≡ k) × (y ≡ some x)) ⊎ (f n ≡ some x)
  put_some f k n y x e = dite (ℕ_discrete n k) (λ s. inl (s, sym (ap {B = Maybe P} (λ b. cond b y (f n)) (eq-eqb n k s)) ∙ e)) (λ ne. inr (sym (put-other f k n y ne) ∙ e))

module _ {P : Type 0} (w : Maybe P → ℕ) where
  same_below : (f : ℕ → Maybe P) (k n : ℕ) (y : Maybe P) → (k < n → ⊥) → below w (put f k y) n ≡ below w f n
  same_below f k zero y h = refl
  same_below f k (suc n) y h = omega (arith, same_below f k n y (λ l. h (omega arith)), ap w (put-other f k n y (λ e. h (omega arith))))

  pub below-put : (f : ℕ → Maybe P) (k n : ℕ) (y : Maybe P) → k < n → below w (put f k y) n + w (f k) ≡ below w f n + w y
  below-put f k zero y h = absurd (omega arith)
  below-put f k (suc n) y h = dite (ℕ_discrete n k)
      (λ e. omega (arith, same_below f k n y (λ l. omega arith), ap (λ i. w (put f k y i)) e, ap w (put-here f k y), ap (λ i. w (f i)) e))
      (λ ne. omega (arith, below-put f k n y (omega arith), ap w (put-other f k n y ne)))

  pub below-nothing : (n : ℕ) → w none ≡ 0 → below w nothing n ≡ 0
  below-nothing zero z = refl
  below-nothing (suc n) z = omega (arith, below-nothing n z)
