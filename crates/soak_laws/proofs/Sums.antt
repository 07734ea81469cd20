-- Sums over the numbers below a bound, and over lists.
use Rattle.std.proofs.Common.{◌≡◌, ◌≢◌, inl, inr, ℕ, zero, suc, ◌+◌, ◌<◌, ◌≤◌, List, [], ◌∷◌, ◌++◌, length, refl, sym, ap, ◌∙◌, subst, arith, sum_by}
use Rattle.std.specs.List.{AllByRecursion}
use Rattle.std.proofs.lemmas.Bool.{cases_eq}
use Rattle.std.proofs.lemmas.List.Sums.{sum_by-cons}
use Rattle.query_rules.specs.Soak.{sum_below}

pub below_same : (n : ℕ) (f g : ℕ → ℕ) → ((i : ℕ) → i < n → g i ≡ f i) → sum_below n g ≡ sum_below n f
unfolding sum_below
below_same zero f g same = refl
below_same (suc n) f g same =
    let rest = below_same n f g (λ i h. same i (omega (arith, h))) in
    let last = same n (omega arith) in omega (arith, rest, last)

-- one term grows
pub below_at : (n : ℕ) (f g : ℕ → ℕ) (k d : ℕ) → k < n → g k ≡ f k + d → ((i : ℕ) → i ≢ k → g i ≡ f i) → sum_below n g ≡ sum_below n f + d
unfolding sum_below
below_at zero f g k d near here others = absurd (omega (arith, near))
below_at (suc n) f g k d near here others =
    elim (cases_eq k n) [
      | inl e ↦
          let rest = below_same n f g (λ i h. others i (λ at. omega (arith, at, e, h))) in
          let last : g n ≡ f n + d = subst (λ j. g j ≡ f j + d) e here in omega (arith, rest, last)
      | inr ne ↦
          let rest = below_at n f g k d (omega (arith, near, ne)) here others in
          let last = others n (λ at. ne (sym at)) in omega (arith, rest, last)
    ]

pub below_most : (n : ℕ) (f : ℕ → ℕ) → ((i : ℕ) → f i ≤ 1) → sum_below n f ≤ n
unfolding sum_below
below_most zero f ones = omega arith
below_most (suc n) f ones = let rest = below_most n f ones in let last = ones n in omega (arith, rest, last)

-- where one of the terms is 0
pub below_fewer : (n : ℕ) (f : ℕ → ℕ) (k : ℕ) → k < n → ((i : ℕ) → f i ≤ 1) → f k ≡ 0 → sum_below n f < n
unfolding sum_below
below_fewer zero f k near ones none = absurd (omega (arith, near))
below_fewer (suc n) f k near ones none =
    elim (cases_eq k n) [
      | inl e ↦ let rest = below_most n f ones in let last : f n ≡ 0 = subst (λ j. f j ≡ 0) e none in omega (arith, rest, last)
      | inr ne ↦ let rest = below_fewer n f k (omega (arith, near, ne)) ones none in let last = ones n in omega (arith, rest, last)
    ]

pub below_none : (n : ℕ) (f : ℕ → ℕ) → ((i : ℕ) → f i ≡ 0) → sum_below n f ≡ 0
unfolding sum_below
below_none zero f none = refl
below_none (suc n) f none = let rest = below_none n f none in let last = none n in omega (arith, rest, last)

pub below_plus : (n : ℕ) (f g : ℕ → ℕ) → sum_below n (λ i. f i + g i) ≡ sum_below n f + sum_below n g
unfolding sum_below
below_plus zero f g = refl
below_plus (suc n) f g = let rest = below_plus n f g in omega (arith, rest)

pub below_one : (n : ℕ) → sum_below n (λ i. 1) ≡ n
unfolding sum_below
below_one zero = refl
below_one (suc n) = let rest = below_one n in omega (arith, rest)

-- the sum of f over a list
abbrev pub total : {X : Type 0} → (X → ℕ) → List X → ℕ
total f [] = 0
total f (x ∷ xs) = f x + total f xs

module _ {X : Type 0} where
  pub total-append : (f : X → ℕ) (xs ys : List X) → total f (xs ++ ys) ≡ total f xs + total f ys
  total-append f [] ys = omega arith
  total-append f (x ∷ xs) ys = let rest = total-append f xs ys in omega (arith, rest)

  pub total_sum : (f : X → ℕ) (xs : List X) → sum_by f xs ≡ total f xs
  total_sum f [] = refl
  total_sum f (x ∷ xs) = sum_by-cons f x xs ∙ ap (λ n. f x + n) (total_sum f xs)

  pub total_same : (f g : X → ℕ) (xs : List X) → AllByRecursion (λ x. f x ≡ g x) xs → total f xs ≡ total g xs
  total_same f g [] all = refl
  total_same f g (x ∷ xs) all = let rest = total_same f g xs all.1 in omega (arith, rest, all.0)

  pub total_le : (f g : X → ℕ) (xs : List X) → ((x : X) → f x ≤ g x) → total f xs ≤ total g xs
  total_le f g [] le = omega arith
  total_le f g (x ∷ xs) le = let rest = total_le f g xs le in let one = le x in omega (arith, rest, one)

  pub total_none : (f : X → ℕ) (xs : List X) → AllByRecursion (λ x. f x ≡ 0) xs → total f xs ≡ 0
  total_none f [] all = refl
  total_none f (x ∷ xs) all = let rest = total_none f xs all.1 in omega (arith, rest, all.0)

  pub none_in_total : (f : X → ℕ) (xs : List X) → total f xs ≡ 0 → AllByRecursion (λ x. f x ≡ 0) xs
  none_in_total f [] none = tt
  none_in_total f (x ∷ xs) none = (omega (arith, none), none_in_total f xs (omega (arith, none)))

  pub total_length : (xs : List X) → total (λ x. 1) xs ≡ length xs
  total_length [] = refl
  total_length (x ∷ xs) = let rest = total_length xs in omega (arith, rest)

  pub all_with : (P Q R : X → Type 0) (xs : List X) → ((x : X) → P x → Q x → R x) → AllByRecursion P xs → AllByRecursion Q xs → AllByRecursion R xs
  all_with P Q R [] both p q = tt
  all_with P Q R (x ∷ xs) both p q = (both x p.0 q.0, all_with P Q R xs both p.1 q.1)

  pub all_as : (P Q : X → Type 0) (xs : List X) → ((x : X) → P x → Q x) → AllByRecursion P xs → AllByRecursion Q xs
  all_as P Q [] as_q p = tt
  all_as P Q (x ∷ xs) as_q p = (as_q x p.0, all_as P Q xs as_q p.1)

  pub all_both : (P : X → Type 0) (xs ys : List X) → AllByRecursion P xs → AllByRecursion P ys → AllByRecursion P (xs ++ ys)
  all_both P [] ys p q = q
  all_both P (x ∷ xs) ys p q = (p.0, all_both P xs ys p.1 q)
