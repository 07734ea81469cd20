-- The part of the rule on numbers.
use Rattle.std.proofs.Common.{◌≡◌, ℕ, ◌+◌, ◌<◌, ◌≤◌, ◌≢◌, cond, nat_lt, List, set, ap, subst, ◌∙◌, arith, lt-ltb, le-ltb}
use mathlib.Core.Logic.{dite}
use native.Mathlib.Decide.{ℕ_discrete}
use mathlib.Core.Option.{some}
use Rattle.std.proofs.Math.Decide.{dec_lt}
use lib.ListN.{get_elem?}
use Rattle.hall.specs.declared.view.View.{View}
use Rattle.hall.specs.Numbers.{within, covers, owns, width, Numbered}
use Rattle.view_sums.specs.Sums.{same, same-eq, same-ne, total-same, terms_le}

pub within-yes : (x a n : ℕ) → a ≤ x → x < a + n → within x a n ≡ 1
within-yes x a n lo hi = ap (λ b. cond b 0 (cond (nat_lt x (a + n)) 1 0)) (le-ltb x a lo) ∙ ap (λ b. cond b 1 0) (lt-ltb x (a + n) hi)

pub within-below : (x a n : ℕ) → x < a → within x a n ≡ 0
within-below x a n h = ap (λ b. cond b 0 (cond (nat_lt x (a + n)) 1 0)) (lt-ltb x a h)

pub within-above : (x a n : ℕ) → a + n ≤ x → within x a n ≡ 0
within-above x a n h = dite (dec_lt x a) (within-below x a n) (λ not. ap (λ b. cond b 0 (cond (nat_lt x (a + n)) 1 0)) (le-ltb x a (omega arith)) ∙ ap (λ b. cond b 1 0) (le-ltb x (a + n) h))

pub within-add : (x a m n : ℕ) → within x a (m + n) ≡ within x a m + within x (a + m) n
within-add x a m n =
    dite (dec_lt x a)
    (λ low. omega (arith, within-below x a (m + n) low, within-below x a m low, within-below x (a + m) n (omega arith)))
    (λ not. dite (dec_lt x (a + m))
    (λ mid. omega (arith, within-yes x a (m + n) (omega arith) (omega arith), within-yes x a m (omega arith) mid, within-below x (a + m) n mid))
    (λ up. dite (dec_lt x (a + m + n))
    (λ high. omega (arith, within-yes x a (m + n) (omega arith) (omega arith), within-above x a m (omega arith), within-yes x (a + m) n (omega arith) (omega arith)))
    (λ out. omega (arith, within-above x a (m + n) (omega arith), within-above x a m (omega arith), within-above x (a + m) n (omega arith)))))

pub within-none : (x : ℕ) → within x 0 0 ≡ 0
within-none x = within-above x 0 0 (omega arith)

pub within-one : (x a n : ℕ) → within x a n ≤ 1
within-one x a n = dite (dec_lt x a) (λ h. omega (arith, within-below x a n h)) (λ not. dite (dec_lt x (a + n)) (λ h. omega (arith, within-yes x a n (omega arith) h)) (λ h. omega (arith, within-above x a n (omega arith))))

module _ {P : Type 0} where
  -- a step that leaves the numbers of its pass
  pub numbered_same : (seats : ℕ) (views : List (View P)) (id : ℕ) (v w : View P) → Numbered seats views → get_elem? views id ≡ some v → w.number ≡ v.number → w.span ≡ v.span → w.taken ≡ v.taken → Numbered seats (set views id w)
  numbered_same seats views id v w h at e f t = record {
    once = λ x. total-same (covers x) views id v w at (cc) ∙ h.once x;
    all = total-same width views id v w at (cc) ∙ h.all;
  }

  -- two passes that aren't spent have two numbers
  pub numbers_differ : (seats : ℕ) (views : List (View P)) (j k : ℕ) (v u : View P) → Numbered seats views → get_elem? views j ≡ some v → get_elem? views k ≡ some u → k ≢ j → 0 < v.span → 0 < u.span → u.number ≢ v.number
  numbers_differ seats views j k v u h at there ne lives lives' same =
      omega (arith, terms_le (covers v.number) views j k v u ne at there, h.once v.number, within-one v.number 0 seats, within-yes v.number v.number v.span (omega arith) (omega arith), within-yes v.number u.number u.span (omega arith) (omega arith))

  -- a pass that isn't spent covers what it owns
  pub owns_le : (x : ℕ) (v : View P) → 0 < v.span → owns x v ≤ covers x v
  owns_le x v lives = dite (ℕ_discrete x v.number)
      (λ e. omega (arith, same-eq x v.number e, within-yes x v.number v.span (omega (arith, e)) (omega (arith, e))))
      (λ ne. omega (arith, same-ne x v.number ne))

  -- no step of another pass was made under this pass's number
  pub steps_apart : (seats : ℕ) (views : List (View P)) (j k : ℕ) (v u : View P) → Numbered seats views → get_elem? views j ≡ some v → get_elem? views k ≡ some u → k ≢ j → 0 < v.span → 0 < u.span → (n : ℕ) → 1 ≤ owns n u → n ≢ v.number
  steps_apart seats views j k v u h at there ne lives lives' n owned same_number =
      let mine : 1 ≤ owns v.number u = subst (λ (z : ℕ). 1 ≤ owns z u) same_number owned in
      omega (arith, terms_le (covers v.number) views j k v u ne at there, h.once v.number, within-one v.number 0 seats, within-yes v.number v.number v.span (omega arith) (omega arith), owns_le v.number u lives')
