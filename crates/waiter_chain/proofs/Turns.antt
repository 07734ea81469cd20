-- How turns bring a slot of a hand to the front, and back.
use Rattle.std.proofs.Common.{◌≡◌, ℕ, zero, suc, ◌-◌, ◌≤◌, List, [], ◌∷◌, ◌++◌, length, refl, sym, ap, ◌∙◌, subst, ⊎_elim, arith}
use Rattle.atomic_table.specs.Table.{rest, turned}
use Rattle.waiter_chain.specs.Hands.{turned_by, StandsAt, TurnsTo}

module _ {A : Type 0} where
  -- the slot x, between these, comes to the front by t turns; and then what stands in its place goes back by the others of twelve
  abbrev pub Comes : ℕ → List (ℕ × A) → ℕ × A → ℕ × A → List (ℕ × A) → Type 0
  Comes t before x z after = (turned_by t (before ++ x ∷ after) ≡ x ∷ (after ++ before)) × (turned_by (12 - t) (z ∷ (after ++ before)) ≡ before ++ z ∷ after)

  first : (x z : ℕ × A) (after : List (ℕ × A)) → length after ≤ 3 → Comes 0 [] x z after
  first x z [] h = (refl, refl)
  first x z (a ∷ []) h = (refl, refl)
  first x z (a ∷ b ∷ []) h = (refl, refl)
  first x z (a ∷ b ∷ c ∷ []) h = (refl, refl)
  first x z (a ∷ b ∷ c ∷ d ∷ es) h = absurd (omega (arith, h))

  second : (x z : ℕ × A) (before after : List (ℕ × A)) → length before ≡ 1 → length after ≤ 2 → Comes 1 before x z after
  second x z [] after e h = absurd (omega (arith, e))
  second x z (a ∷ []) [] e h = (refl, refl)
  second x z (a ∷ []) (b ∷ []) e h = (refl, refl)
  second x z (a ∷ []) (b ∷ c ∷ []) e h = (refl, refl)
  second x z (a ∷ []) (b ∷ c ∷ d ∷ es) e h = absurd (omega (arith, h))
  second x z (a ∷ b ∷ cs) after e h = absurd (omega (arith, e))

  last : (x z : ℕ × A) (before : List (ℕ × A)) → length before ≤ 3 → Comes 11 before x z []
  last x z [] h = (refl, refl)
  last x z (a ∷ []) h = (refl, refl)
  last x z (a ∷ b ∷ []) h = (refl, refl)
  last x z (a ∷ b ∷ c ∷ []) h = (refl, refl)
  last x z (a ∷ b ∷ c ∷ d ∷ es) h = absurd (omega (arith, h))

  last_but_one : (x z : ℕ × A) (before after : List (ℕ × A)) → length before ≤ 2 → length after ≡ 1 → Comes 10 before x z after
  last_but_one x z before [] h e = absurd (omega (arith, e))
  last_but_one x z [] (a ∷ []) h e = (refl, refl)
  last_but_one x z (b ∷ []) (a ∷ []) h e = (refl, refl)
  last_but_one x z (b ∷ c ∷ []) (a ∷ []) h e = (refl, refl)
  last_but_one x z (b ∷ c ∷ d ∷ es) (a ∷ []) h e = absurd (omega (arith, h))
  last_but_one x z before (a ∷ b ∷ cs) h e = absurd (omega (arith, e))

  alone : (k : ℕ) (x : ℕ × A) → turned_by k (x ∷ []) ≡ x ∷ []
  alone zero x = refl
  alone (suc k) x = ap turned (alone k x)

  pub comes : (n slot t : ℕ) (before after : List (ℕ × A)) (x z : ℕ × A) → TurnsTo n slot t → StandsAt n slot before after → Comes t before x z after
  comes n slot t before after x z k s =
      ⊎_elim (λ a. subst (λ (b : List (ℕ × A)). Comes t b x z after) (sym a.1) (subst (λ (i : ℕ). Comes i [] x z after) (sym (k.1 a.0)) (first x z after (omega (arith, s.0)))))
      (⊎_elim (λ a. subst (λ (i : ℕ). Comes i before x z after) (sym (k.2 a.0)) (second x z before after a.1 (omega (arith, s.0, a.1))))
      (⊎_elim (λ a. subst (λ (b : List (ℕ × A)). Comes t before x z b) (sym a.3) (subst (λ (i : ℕ). Comes i before x z []) (sym (k.3 a.0 a.1 a.2)) (last x z before (omega (arith, s.0)))))
      (⊎_elim (λ a. subst (λ (i : ℕ). Comes i before x z after) (sym (k.4 a.0 a.1)) (last_but_one x z before after (omega (arith, s.0, a.2)) a.2))
      (λ a. subst (λ (b : List (ℕ × A) × List (ℕ × A)). Comes t b.0 x z b.1) (λ i. (sym a.0 i, sym a.1 i)) (alone t x, alone (12 - t) z)))))
      s.1

  -- what stands in the slot at the front
  at_first : List (ℕ × A) → A → A
  at_first [] d = d
  at_first (x ∷ xs) d = x.1

  pub same_first : (k l : ℕ) (x y : A) (xs ys : List (ℕ × A)) → (k, x) ∷ xs ≡ (l, y) ∷ ys → x ≡ y
  unfolding at_first
  same_first k l x y xs ys e = ap (λ c. at_first c x) e

module _ {V A : Type 0} where
  pub moved_told : (n slot t : ℕ) (y old value : A) (before after : List (ℕ × A)) (m a b l : V × List (ℕ × A)) → TurnsTo n slot t → StandsAt n slot before after → m.1 ≡ before ++ (slot, y) ∷ after
      → a ≡ (m.0, turned_by t m.1) → a.1 ≡ (slot, old) ∷ rest a.1 → b ≡ (a.0, (slot, value) ∷ rest a.1) → l ≡ (b.0, turned_by (12 - t) b.1)
      → (old ≡ y) × (l ≡ (m.0, before ++ (slot, value) ∷ after))
  moved_told n slot t y old value before after m a b l k s hand e1 e2 e3 e4 =
      let c = comes n slot t before after (slot, y) (slot, value) k s in
      let front : a.1 ≡ (slot, y) ∷ (after ++ before) = ap (λ (z : V × List (ℕ × A)). z.1) e1 ∙ ap (turned_by t) hand ∙ c.0 in
      let view : a.0 ≡ m.0 = ap (λ (z : V × List (ℕ × A)). z.0) e1 in
      let put : b ≡ (m.0, (slot, value) ∷ (after ++ before)) = e3 ∙ (λ i. (view i, (slot, value) ∷ rest (front i))) in
      (same_first slot slot old y _ _ (sym e2 ∙ front), e4 ∙ (λ i. ((put i).0, turned_by (12 - t) (put i).1)) ∙ (λ i. (m.0, c.1 i)))

  -- the slot at the front of a turned hand, as the exchange wants it
  pub stands_first : (n slot t : ℕ) (y : A) (before after : List (ℕ × A)) (m a : V × List (ℕ × A)) → TurnsTo n slot t → StandsAt n slot before after → m.1 ≡ before ++ (slot, y) ∷ after
      → a ≡ (m.0, turned_by t m.1) → a.1 ≡ (slot, y) ∷ rest a.1
  stands_first n slot t y before after m a k s hand e =
      let front : a.1 ≡ (slot, y) ∷ (after ++ before) = ap (λ (z : V × List (ℕ × A)). z.1) e ∙ ap (turned_by t) hand ∙ (comes n slot t before after (slot, y) (slot, y) k s).0 in
      front ∙ (λ i. (slot, y) ∷ rest (sym front i))
