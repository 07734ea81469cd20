-- Entries that name places of a list, where each place is named once: a sum over the list is a sum over the entries.
use Rattle.std.proofs.Common.{◌≡◌, ◌≢◌, ℕ, zero, suc, ◌+◌, ◌*◌, ◌<◌, ◌≤◌, List, [], ◌∷◌, length, slice_get, Some, refl, sym, ap, ◌∙◌, subst, arith, Bool, true, false, cond, count_by}
use Rattle.std.specs.List.{AllByRecursion}
use Rattle.soak_laws.proofs.Sums.{total, total_sum}

-- an entry's own part of the sum over the places from this one on
abbrev pub own : {E Q : Type 0} → (ℕ → E → Bool) → (Q → ℕ) → E → ℕ → List Q → ℕ
own names f e k [] = 0
own names f e k (q ∷ ws) = cond (names k e) (f q) 0 + own names f e (k + 1) ws

-- each place counts as often as it is named
abbrev weighted : {E Q : Type 0} → (ℕ → E → Bool) → (Q → ℕ) → List E → ℕ → List Q → ℕ
weighted names f all k [] = 0
weighted names f all k (q ∷ ws) = total (λ e. cond (names k e) 1 0) all * f q + weighted names f all (k + 1) ws

one_more : (b : Bool) (t x : ℕ) → (cond b 1 0 + t) * x ≡ cond b x 0 + t * x
one_more true t x = omega arith
one_more false t x = omega arith

module _ {E Q : Type 0} (names : ℕ → E → Bool) (f : Q → ℕ) where
  weighted_none : (k : ℕ) (ws : List Q) → weighted names f [] k ws ≡ 0
  weighted_none k [] = refl
  weighted_none k (q ∷ ws) = let rest = weighted_none (k + 1) ws in omega (arith, rest)

  weighted_more : (e : E) (all : List E) (k : ℕ) (ws : List Q) → weighted names f (e ∷ all) k ws ≡ own names f e k ws + weighted names f all k ws
  weighted_more e all k [] = refl
  weighted_more e all k (q ∷ ws) =
      let rest = weighted_more e all (k + 1) ws in
      let here = one_more (names k e) (total (λ e. cond (names k e) 1 0) all) (f q) in omega (arith, rest, here)

  weighted_once : (all : List E) (k : ℕ) (ws : List Q) → ((w : ℕ) → w < length ws → total (λ e. cond (names (k + w) e) 1 0) all ≡ 1) → weighted names f all k ws ≡ total f ws
  weighted_once all k [] once = refl
  weighted_once all k (q ∷ ws) once =
      let at : (n : ℕ) → Type 0 = λ n. total (λ e. cond (names n e) 1 0) all ≡ 1 in
      let here : total (λ e. cond (names k e) 1 0) all ≡ 1 = subst at (omega arith) (once 0 (omega arith)) in
      let rest = weighted_once all (k + 1) ws (λ w h. subst at (omega arith) (once (w + 1) (omega (arith, h)))) in
      let one : total (λ e. cond (names k e) 1 0) all * f q ≡ f q = ap (λ n. n * f q) here ∙ omega arith in omega (arith, rest, one)

  weighted_owns : (weight : E → ℕ) (all : List E) (ws : List Q) → AllByRecursion (λ e. own names f e 0 ws ≡ weight e) all → weighted names f all 0 ws ≡ total weight all
  weighted_owns weight [] ws each = weighted_none 0 ws
  weighted_owns weight (e ∷ all) ws each = let more = weighted_more e all 0 ws in let rest = weighted_owns weight all ws each.1 in omega (arith, more, rest, each.0)

  pub exchange : (weight : E → ℕ) (all : List E) (ws : List Q) → AllByRecursion (λ e. own names f e 0 ws ≡ weight e) all
      → ((w : ℕ) → w < length ws → count_by (names w) all ≡ 1) → total f ws ≡ total weight all
  exchange weight all ws each once =
      sym (weighted_once all 0 ws (λ w h. subst (λ n. total (λ e. cond (names n e) 1 0) all ≡ 1) (omega arith) (sym (total_sum (λ e. cond (names w e) 1 0) all) ∙ once w h)))
      ∙ weighted_owns weight all ws each

  -- an entry that names no place from this one on
  pub own_none : (e : E) (k : ℕ) (ws : List Q) → ((w : ℕ) → k ≤ w → names w e ≡ false) → own names f e k ws ≡ 0
  own_none e k [] miss = refl
  own_none e k (q ∷ ws) miss =
      let here = ap (λ b. cond b (f q) 0) (miss k (omega arith)) in
      let rest = own_none e (k + 1) ws (λ w h. miss w (omega (arith, h))) in omega (arith, here, rest)

  -- an entry that names one place
  pub own_one : (e : E) (n : ℕ) → names n e ≡ true → ((w : ℕ) → w ≢ n → names w e ≡ false) → (k i : ℕ) (ws : List Q) (q : Q) → n ≡ k + i → slice_get ws i ≡ Some q → own names f e k ws ≡ f q
  own_one e n hit miss k i [] q at there = absurd (cc)
  own_one e n hit miss k zero (x ∷ ws) q at there =
      let same : x ≡ q = cc in
      let named : names k e ≡ true = subst (λ j. names j e ≡ true) (omega (arith, at)) hit in
      let here = ap (λ b. cond b (f x) 0) named in
      let rest = own_none e (k + 1) ws (λ w h. miss w (λ is. omega (arith, is, at, h))) in
      let value = ap f same in omega (arith, here, rest, value)
  own_one e n hit miss k (suc i) (x ∷ ws) q at there =
      let here = ap (λ b. cond b (f x) 0) (miss k (λ is. omega (arith, is, at))) in
      let rest = own_one e n hit miss (k + 1) i ws q (omega (arith, at)) there in omega (arith, here, rest)
