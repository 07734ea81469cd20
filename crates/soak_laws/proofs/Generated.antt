-- The soak's queries, one caller after the other, and by their numbers.
use Rattle.std.proofs.Common.{◌≡◌, ◌≢◌, inl, inr, ℕ, zero, suc, ◌+◌, ◌*◌, ◌/◌, ◌%◌, ◌<◌, ◌≤◌, ◌==◌, nat_lt, nat_le, refl, sym, ap, ◌∙◌, subst, arith, Bool, true, false, cond, eq-eqb, ne_eqb, eqb-true}
use Rattle.std.proofs.lemmas.Bool.{eqb-false}
use Rattle.std.specs.List.{AllByRecursion}
use Rattle.query_rules.specs.declared.query.Query.{Query}
use Rattle.query_rules.specs.declared.query.Query.TheVariants.{Get, Len, Add, Give}
use Rattle.query_rules.specs.Soak.{soak_kind, soak_query, soak_from, share, soak_callers, sum_below, adds_to_maps, is_of_kind}
use Rattle.soak_laws.specs.Totals.{delta_of, gift_of}
use Rattle.soak_laws.proofs.Sums.{total}
use Rattle.soak_laws.proofs.SoakKinds.{is_fine_add, is_fine_give, is_look, IsSoak}

same_query : (f : Query → ℕ) (j k : ℕ) → j ≡ k → f (soak_query j) ≡ f (soak_query k)
same_query f j k e = ap (λ i. f (soak_query i)) e

-- ---- one caller's list grows at its end
module _ (f : Query → ℕ) (caller : ℕ) where
  from_more : (a n : ℕ) → total f (soak_from caller a (suc n)) ≡ total f (soak_from caller a n) + f (soak_query (4 * (a + n) + caller))
  unfolding soak_from
  from_more a zero = let here : f (soak_query (4 * a + caller)) ≡ f (soak_query (4 * (a + 0) + caller)) = same_query f (4 * a + caller) (4 * (a + 0) + caller) (omega arith) in omega (arith, here)
  from_more a (suc n) =
      let rest = from_more (a + 1) n in
      let last : f (soak_query (4 * (a + 1 + n) + caller)) ≡ f (soak_query (4 * (a + suc n) + caller)) = same_query f (4 * (a + 1 + n) + caller) (4 * (a + suc n) + caller) (omega arith) in
      omega (arith, rest, last)

  from_none : (a : ℕ) → total f (soak_from caller a 0) ≡ 0
  unfolding soak_from
  from_none a = refl

-- ---- all callers' queries by number
module _ (f : Query → ℕ) where
  abbrev of_caller : ℕ → ℕ → ℕ
  of_caller caller n = total f (soak_from caller 0 n)

  abbrev of_all : ℕ → ℕ
  of_all count = of_caller 0 (share count 0) + of_caller 1 (share count 1) + of_caller 2 (share count 2) + of_caller 3 (share count 3)

  one_caller_more : (caller m n k : ℕ) → n ≡ m + 1 → k ≡ 4 * m + caller → of_caller caller n ≡ of_caller caller m + f (soak_query k)
  one_caller_more caller m n k up at =
      let more = from_more f caller 0 m in
      let next : n ≡ suc m = omega (arith, up) in
      let size : of_caller caller n ≡ of_caller caller (suc m) = ap (of_caller caller) next in
      let last : f (soak_query (4 * (0 + m) + caller)) ≡ f (soak_query k) = same_query f (4 * (0 + m) + caller) k (omega (arith, at)) in
      omega (arith, more, size, last)

  same_caller : (caller m n : ℕ) → n ≡ m → of_caller caller n ≡ of_caller caller m
  same_caller caller m n e = ap (of_caller caller) e

  one_more : (count r : ℕ) → count % 4 ≡ r → of_all (suc count) ≡ of_all count + f (soak_query count)
  one_more count zero is =
      let a = one_caller_more 0 (share count 0) (share (suc count) 0) count (omega (arith, is)) (omega (arith, is)) in
      let b = same_caller 1 (share count 1) (share (suc count) 1) (omega (arith, is)) in
      let c = same_caller 2 (share count 2) (share (suc count) 2) (omega (arith, is)) in
      let d = same_caller 3 (share count 3) (share (suc count) 3) (omega (arith, is)) in omega (arith, a, b, c, d)
  one_more count (suc zero) is =
      let a = same_caller 0 (share count 0) (share (suc count) 0) (omega (arith, is)) in
      let b = one_caller_more 1 (share count 1) (share (suc count) 1) count (omega (arith, is)) (omega (arith, is)) in
      let c = same_caller 2 (share count 2) (share (suc count) 2) (omega (arith, is)) in
      let d = same_caller 3 (share count 3) (share (suc count) 3) (omega (arith, is)) in omega (arith, a, b, c, d)
  one_more count (suc (suc zero)) is =
      let a = same_caller 0 (share count 0) (share (suc count) 0) (omega (arith, is)) in
      let b = same_caller 1 (share count 1) (share (suc count) 1) (omega (arith, is)) in
      let c = one_caller_more 2 (share count 2) (share (suc count) 2) count (omega (arith, is)) (omega (arith, is)) in
      let d = same_caller 3 (share count 3) (share (suc count) 3) (omega (arith, is)) in omega (arith, a, b, c, d)
  one_more count (suc (suc (suc zero))) is =
      let a = same_caller 0 (share count 0) (share (suc count) 0) (omega (arith, is)) in
      let b = same_caller 1 (share count 1) (share (suc count) 1) (omega (arith, is)) in
      let c = same_caller 2 (share count 2) (share (suc count) 2) (omega (arith, is)) in
      let d = one_caller_more 3 (share count 3) (share (suc count) 3) count (omega (arith, is)) (omega (arith, is)) in omega (arith, a, b, c, d)
  one_more count (suc (suc (suc (suc r)))) is = absurd (omega (arith, is))

  all_by_number : (count : ℕ) → of_all count ≡ sum_below count (λ j. f (soak_query j))
  unfolding sum_below
  all_by_number zero = let a = from_none f 0 0 in let b = from_none f 1 0 in let c = from_none f 2 0 in let d = from_none f 3 0 in omega (arith, a, b, c, d)
  all_by_number (suc count) = let more = one_more count (count % 4) refl in let rest = all_by_number count in omega (arith, more, rest)

  pub soak_total : (count : ℕ) → total (total f) (soak_callers count) ≡ sum_below count (λ j. f (soak_query j))
  soak_total count = let all = all_by_number count in omega (arith, all)

-- ---- each query is of its kind
module _ (kind cell key delta : ℕ) where
  abbrev q : Query
  q = soak_kind kind cell key delta

  by_kind : (P : ℕ → Query → Type 0) → P 0 (Get cell key) → P 1 (Add cell key delta) → P 2 (Len cell) → ((k : ℕ) → k ≢ 0 → k ≢ 1 → k ≢ 2 → P k (Give key 1)) → P kind q
  by_kind P get add len give = first (kind == 0) refl
    where
      third : (b : Bool) → (kind == 2) ≡ b → kind ≢ 0 → kind ≢ 1 → P kind (cond b (Len cell) (Give key 1))
      third true is n0 n1 = subst (λ k. P k (Len cell)) (sym (eqb-true kind 2 is)) len
      third false is n0 n1 = give kind n0 n1 (eqb-false kind 2 is)

      second : (b : Bool) → (kind == 1) ≡ b → kind ≢ 0 → P kind (cond b (Add cell key delta) (cond (kind == 2) (Len cell) (Give key 1)))
      second true is n0 = subst (λ k. P k (Add cell key delta)) (sym (eqb-true kind 1 is)) add
      second false is n0 = third (kind == 2) refl n0 (eqb-false kind 1 is)

      first : (b : Bool) → (kind == 0) ≡ b → P kind (cond b (Get cell key) (cond (kind == 1) (Add cell key delta) (cond (kind == 2) (Len cell) (Give key 1))))
      first true is = subst (λ k. P k (Get cell key)) (sym (eqb-true kind 0 is)) get
      first false is = second (kind == 1) refl (eqb-false kind 0 is)

  soak_kinds : cell < 8 → key < 16 → delta ≤ 7 → IsSoak q
  soak_kinds near_cell near_key few =
      let a : nat_lt cell 8 ≡ true = grind (arith, near_cell) in
      let b : nat_lt key 16 ≡ true = grind (arith, near_key) in
      let d : nat_le delta 7 ≡ true = grind (arith, few) in
      by_kind (λ k p. IsSoak p) (inl refl) (inr (inl (rw (a, b, d) refl))) (inl refl) (λ k n0 n1 n2. inr (inr (rw b refl)))

  add_kind : cell < 8 → key < 16 → delta ≤ 7 → is_fine_add q ≡ (kind == 1)
  add_kind near_cell near_key few =
      let a : nat_lt cell 8 ≡ true = grind (arith, near_cell) in
      let b : nat_lt key 16 ≡ true = grind (arith, near_key) in
      let d : nat_le delta 7 ≡ true = grind (arith, few) in
      by_kind (λ k p. is_fine_add p ≡ (k == 1)) refl (rw (a, b, d) refl) refl (λ k n0 n1 n2. sym (ne_eqb k 1 n1))

  look_kind : is_look q ≡ cond (kind == 0) true (kind == 2)
  look_kind = by_kind (λ k p. is_look p ≡ cond (k == 0) true (k == 2)) refl refl refl (λ k n0 n1 n2. sym (ap (λ b. cond b true (k == 2)) (ne_eqb k 0 n0) ∙ ne_eqb k 2 n2))

  give_kind : kind < 4 → key < 16 → is_fine_give q ≡ (kind == 3)
  give_kind four near_key =
      let b : nat_lt key 16 ≡ true = grind (arith, near_key) in
      by_kind (λ k p. k < 4 → is_fine_give p ≡ (k == 3)) (λ h. refl) (λ h. refl) (λ h. refl) (λ k n0 n1 n2 h. rw b (sym (eq-eqb k 3 (omega (arith, n0, n1, n2, h))))) four

  delta_kind : cell < 8 → key < 16 → delta ≤ 7 → cond (is_fine_add q) (delta_of q) 0 ≡ cond (kind == 1) delta 0
  delta_kind near_cell near_key few =
      let a : nat_lt cell 8 ≡ true = grind (arith, near_cell) in
      let b : nat_lt key 16 ≡ true = grind (arith, near_key) in
      let d : nat_le delta 7 ≡ true = grind (arith, few) in
      by_kind (λ k p. cond (is_fine_add p) (delta_of p) 0 ≡ cond (k == 1) delta 0) refl (rw (a, b, d) refl) refl (λ k n0 n1 n2. sym (ap (λ b. cond b delta 0) (ne_eqb k 1 n1)))

  gift_kind : kind < 4 → key < 16 → cond (is_fine_give q) (gift_of q) 0 ≡ cond (kind == 3) 1 0
  gift_kind four near_key =
      let b : nat_lt key 16 ≡ true = grind (arith, near_key) in
      by_kind (λ k p. k < 4 → cond {A = ℕ} (is_fine_give p) (gift_of p) 0 ≡ cond (k == 3) 1 0) (λ h. refl) (λ h. refl) (λ h. refl) (λ k n0 n1 n2 h. rw b (sym (ap (λ b. cond {A = ℕ} b 1 0) (eq-eqb k 3 (omega (arith, n0, n1, n2, h)))))) four

-- ---- so each query of the soak is, and its parts by its number
module _ (j : ℕ) where
  in_cell : (j / 4 / 4 + j % 4) % 8 < 8
  in_cell = omega arith

  in_key : (j / 4 * 5 + j % 4) % 16 < 16
  in_key = omega arith

  few_more : 1 + j % 7 ≤ 7
  few_more = omega arith

  pub query_is_soak : IsSoak (soak_query j)
  query_is_soak = soak_kinds (j / 4 % 4) _ _ _ in_cell in_key few_more

  pub query_add : is_fine_add (soak_query j) ≡ (j / 4 % 4 == 1)
  query_add = add_kind (j / 4 % 4) _ _ _ in_cell in_key few_more

  pub query_look : is_look (soak_query j) ≡ cond (j / 4 % 4 == 0) true (j / 4 % 4 == 2)
  query_look = look_kind (j / 4 % 4) _ _ _

  pub query_give : is_fine_give (soak_query j) ≡ (j / 4 % 4 == 3)
  query_give = give_kind (j / 4 % 4) _ _ (1 + j % 7) (omega arith) in_key

  pub query_delta : cond (is_fine_add (soak_query j)) (delta_of (soak_query j)) 0 ≡ adds_to_maps j
  query_delta = delta_kind (j / 4 % 4) _ _ _ in_cell in_key few_more

  pub query_gift : cond (is_fine_give (soak_query j)) (gift_of (soak_query j)) 0 ≡ is_of_kind 3 j
  query_gift = gift_kind (j / 4 % 4) _ _ (1 + j % 7) (omega arith) in_key

pub look_split : (k : ℕ) → cond {A = ℕ} (cond (k == 0) true (k == 2)) 1 0 ≡ cond (k == 0) 1 0 + cond (k == 2) 1 0
look_split k = by_zero (k == 0) refl
  where
    by_zero : (b : Bool) → (k == 0) ≡ b → cond {A = ℕ} (cond b true (k == 2)) 1 0 ≡ cond b 1 0 + cond (k == 2) 1 0
    by_zero true is =
        let none : k ≡ 0 = eqb-true k 0 is in
        let two : (k == 2) ≡ false = ne_eqb k 2 (λ e. omega (arith, none, e)) in
        let z : cond {A = ℕ} (k == 2) 1 0 ≡ 0 = ap (λ (b : Bool). cond {A = ℕ} b 1 0) two in omega (arith, z)
    by_zero false is = omega arith

from_soak : (caller a n : ℕ) → AllByRecursion IsSoak (soak_from caller a n)
unfolding soak_from
from_soak caller a zero = tt
from_soak caller a (suc n) = (query_is_soak (4 * a + caller), from_soak caller (a + 1) n)

pub callers_soak : (count : ℕ) → AllByRecursion (AllByRecursion IsSoak) (soak_callers count)
callers_soak count = (from_soak 0 0 (share count 0), (from_soak 1 0 (share count 1), (from_soak 2 0 (share count 2), (from_soak 3 0 (share count 3), tt))))
