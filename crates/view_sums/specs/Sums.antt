-- Sums of a weight over a list, above all over the views of all passes: how they change where one item does, and what a sum says of its items.
-- Two lists with the same total under each weight have the same items, as many times each.
use Rattle.std.proofs.Common.{◌≡◌, ℕ, zero, suc, ◌+◌, ◌<◌, ◌≤◌, ◌≢◌, List, [], ◌∷◌, ◌++◌, map, set, get_or, length, sym, refl, ap, ◌∙◌, arith, cond, ◌==◌, eq-eqb, ne_eqb}
use mathlib.Core.Logic.{dite}
use native.Mathlib.Decide.{ℕ_discrete}
use Rattle.std.proofs.Math.Decide.{dec_lt}
use mathlib.Core.Option.{some, some-injective, some-ne-none}
use lib.ListN.{get_elem?}

abbrev pub total : {A : Type 0} → (A → ℕ) → List A → ℕ
total f [] = 0
total f (x ∷ xs) = f x + total f xs

-- 1 where the two are equal, and else 0
abbrev pub same : ℕ → ℕ → ℕ
same m n = cond (m == n) 1 0

module _ {A : Type 0} (g : A → ℕ) where
  pub total-append : (l m : List A) → total g (l ++ m) ≡ total g l + total g m
  total-append [] m = omega arith
  total-append (x ∷ xs) m = omega (arith, total-append xs m)

  pub total-set : (l : List A) (j : ℕ) (v w : A) → get_elem? l j ≡ some v → total g (set l j w) + g v ≡ total g l + g w
  total-set [] j v w e = absurd (some-ne-none v (sym e))
  total-set (x ∷ xs) zero v w e = omega (arith, ap g (some-injective x v e))
  total-set (x ∷ xs) (suc j) v w e = omega (arith, total-set xs j v w e)

  pub total-same : (l : List A) (j : ℕ) (v w : A) → get_elem? l j ≡ some v → g w ≡ g v → total g (set l j w) ≡ total g l
  total-same l j v w e s = omega (arith, total-set l j v w e)

  -- each item counts at most as much as the whole
  pub term_le : (l : List A) (j : ℕ) (v : A) → get_elem? l j ≡ some v → g v ≤ total g l
  term_le [] j v e = absurd (some-ne-none v (sym e))
  term_le (x ∷ xs) zero v e = omega (arith, ap g (some-injective x v e))
  term_le (x ∷ xs) (suc j) v e = omega (arith, term_le xs j v e)

  -- so do two items at different places together
  pub terms_le : (l : List A) (j k : ℕ) (v u : A) → k ≢ j → get_elem? l j ≡ some v → get_elem? l k ≡ some u → g v + g u ≤ total g l
  terms_le [] j k v u n e d = absurd (some-ne-none v (sym e))
  terms_le (x ∷ xs) zero zero v u n e d = absurd (n refl)
  terms_le (x ∷ xs) zero (suc k) v u n e d = omega (arith, ap g (some-injective x v e), term_le xs k u d)
  terms_le (x ∷ xs) (suc j) zero v u n e d = omega (arith, ap g (some-injective x u d), term_le xs j v e)
  terms_le (x ∷ xs) (suc j) (suc k) v u n e d = omega (arith, terms_le xs j k v u (λ h. n (ap suc h)) e d)

module _ {A : Type 0} where
  -- one sum is at most another
  pub total-le : (f g : A → ℕ) (l : List A) → ((i : ℕ) (x : A) → get_elem? l i ≡ some x → f x ≤ g x) → total f l ≤ total g l
  total-le f g [] h = omega arith
  total-le f g (x ∷ xs) h = omega (arith, h zero x refl, total-le f g xs (λ i. h (suc i)))

  pub total-plus : (f g h : A → ℕ) (l : List A) → total (λ a. f a + g a + h a) l ≡ total f l + total g l + total h l
  total-plus f g h [] = refl
  total-plus f g h (x ∷ xs) = omega (arith, total-plus f g h xs)

  pub total-plus4 : (f g h k : A → ℕ) (l : List A) → total (λ a. f a + g a + (h a + k a)) l ≡ total f l + total g l + (total h l + total k l)
  total-plus4 f g h k [] = refl
  total-plus4 f g h k (x ∷ xs) = omega (arith, total-plus4 f g h k xs)

  -- which item makes a sum positive
  pub find : (f : A → ℕ) (l : List A) → 0 < total f l → (j : ℕ) × (a : A) × (get_elem? l j ≡ some a) × (0 < f a)
  find f [] h = absurd (omega arith)
  find f (x ∷ xs) h = dite (dec_lt 0 (f x)) (λ d. (0, x, refl, d)) (λ no. let t = find f xs (omega arith) in (suc t.0, t.1, t.2, t.3))

  -- a place with an item lies within the list
  pub there : (l : List A) (i : ℕ) (a : A) → get_elem? l i ≡ some a → i < length l
  there [] i a e = absurd (some-ne-none a (sym e))
  there (x ∷ xs) zero a e = omega arith
  there (x ∷ xs) (suc i) a e = let h = there xs i a e in omega arith

  -- a place has one item
  pub one_there : (l : List A) (i : ℕ) (a b : A) → get_elem? l i ≡ some a → get_elem? l i ≡ some b → a ≡ b
  one_there l i a b e f = some-injective a b (sym e ∙ f)

  -- what a list that was mapped has at a place
  pub map_at : {B : Type 0} (f : A → B) (l : List A) (j : ℕ) (b : B) → get_elem? (map f l) j ≡ some b → (a : A) × (get_elem? l j ≡ some a) × (f a ≡ b)
  map_at f [] j b e = absurd (some-ne-none b (sym e))
  map_at f (x ∷ xs) zero b e = (x, refl, some-injective (f x) b e)
  map_at f (x ∷ xs) (suc j) b e = map_at f xs j b e

  pub map-set : {B : Type 0} (f : A → B) (l : List A) (j : ℕ) (w : A) → map f (set l j w) ≡ set (map f l) j (f w)
  map-set f [] j w = refl
  map-set f (x ∷ xs) zero w = refl
  map-set f (x ∷ xs) (suc j) w = λ i. f x ∷ map-set f xs j w i

  pub map-set_same : {B : Type 0} (f : A → B) (l : List A) (j : ℕ) (v w : A) → get_elem? l j ≡ some v → f w ≡ f v → map f (set l j w) ≡ map f l
  map-set_same f [] j v w e d = refl
  map-set_same f (x ∷ xs) zero v w e d = λ i. (d ∙ ap f (sym (some-injective x v e))) i ∷ map f xs
  map-set_same f (x ∷ xs) (suc j) v w e d = λ i. f x ∷ map-set_same f xs j v w e d i

-- what a list of numbers has at a place, put there again
pub set_self : (l : List ℕ) (i : ℕ) → set l i (get_or l i 0) ≡ l
set_self [] i = refl
set_self (x ∷ xs) zero = refl
set_self (x ∷ xs) (suc i) = ap (λ (ys : List ℕ). x ∷ ys) (set_self xs i)

pub same-refl : (n : ℕ) → same n n ≡ 1
same-refl n = ap (λ b. cond b 1 0) (eq-eqb n n refl)

pub same-ne : (m n : ℕ) → m ≢ n → same m n ≡ 0
same-ne m n ne = ap (λ b. cond b 1 0) (ne_eqb m n ne)

pub same-eq : (m n : ℕ) → m ≡ n → same m n ≡ 1
same-eq m n e = ap (λ b. cond b 1 0) (eq-eqb m n e)

pub same-pos : (m n : ℕ) → 0 < same m n → m ≡ n
same-pos m n h = dite (ℕ_discrete m n) (λ e. e) (λ ne. absurd (omega (arith, same-ne m n ne)))
