-- The maps after additions to sixteen keys of eight cells: how great their values are, how many keys they have, and what their values sum to.
use Rattle.std.proofs.Common.{◌≡◌, ◌≢◌, ◌⊎◌, inl, inr, ℕ, ◌+◌, ◌*◌, ◌<◌, ◌≤◌, ◌==◌, ◌&&◌, nat_lt, nat_le, List, [], ◌∷◌, length, Some, None, Option, is_some, unwrap_or, refl, sym, ap, ◌∙◌, subst, arith, Bool, true, false, cond, eq-eqb, ne_eqb}
use Rattle.std.specs.List.{AllByRecursion}
use Rattle.std.proofs.lemmas.Bool.{cases_eq, and_parts}
use Rattle.query_rules.specs.declared.query.Query.{Query}
use Rattle.query_rules.specs.declared.query.Query.TheVariants.{Get, Len, Put, Del, Add, Cas, PutLen, Move, Both, TryGet, TryPut, GetBy, PutBy, Give, Take, Audit}
use Rattle.query_rules.specs.Maps.{PlainMap, Maps, no_entries, with_value, with_map, amount_at, written}
use Rattle.query_rules.specs.History.{replay}
use Rattle.query_rules.specs.Soak.{sum_below}
use Rattle.soak_laws.specs.Totals.{delta_of, sum_of_maps, HasOnly}
use Rattle.soak_laws.proofs.Sums.{total, below_at, below_none}
use Rattle.soak_laws.proofs.SoakKinds.{is_fine_add}

-- 1 where the map has the key
abbrev pub has_key : PlainMap → ℕ → ℕ
has_key m key = cond (is_some (m.value_at key)) 1 0

pub key_le : (m : PlainMap) (key : ℕ) → has_key m key ≤ 1
key_le m key = le (is_some (m.value_at key))
  where
    le : (b : Bool) → cond b 1 0 ≤ 1
    le true = omega arith
    le false = omega arith

-- no value is above this, each map counts its keys, and there are no other keys
pub record Fit (most : ℕ) (m : Maps) : Type 0 where
  pub low : (cell key : ℕ) → amount_at (m cell) key ≤ most
  pub count : (cell : ℕ) → (m cell).count ≡ sum_below 16 (has_key (m cell))
  pub only : HasOnly 8 16 m

pub fit_none : Fit 0 no_entries
fit_none = record {
  low = λ cell key. omega arith;
  count = λ cell. sym (below_none 16 (has_key (no_entries cell)) (λ i. refl));
  only = λ cell key out. refl;
}

-- one key of one map
amount_with : (m : PlainMap) (key value k : ℕ) → amount_at (with_value m key value) k ≡ cond (k == key) value (amount_at m k)
amount_with m key value k = by_test (k == key)
  where
    by_test : (b : Bool) → unwrap_or (cond b (Some value) (m.value_at k)) 0 ≡ cond b value (amount_at m k)
    by_test true = refl
    by_test false = refl

same_key : (k key : ℕ) → k ≡ key → (k == key) ≡ true
same_key k key e = eq-eqb k key e

other_key : (k key : ℕ) → k ≢ key → (k == key) ≡ false
other_key k key ne = ne_eqb k key ne

amount_here : (m : PlainMap) (key value : ℕ) → amount_at (with_value m key value) key ≡ value
amount_here m key value = amount_with m key value key ∙ ap (λ b. cond b value (amount_at m key)) (same_key key key refl)

amount_else : (m : PlainMap) (key value k : ℕ) → k ≢ key → amount_at (with_value m key value) k ≡ amount_at m k
amount_else m key value k ne = amount_with m key value k ∙ ap (λ b. cond b value (amount_at m k)) (other_key k key ne)

key_else : (m : PlainMap) (key value k : ℕ) → k ≢ key → has_key (with_value m key value) k ≡ has_key m k
key_else m key value k ne = ap (λ b. cond (is_some (cond b (Some value) (m.value_at k))) 1 0) (other_key k key ne)

key_here : (m : PlainMap) (key value : ℕ) → has_key (with_value m key value) key ≡ 1
key_here m key value = ap (λ b. cond (is_some (cond b (Some value) (m.value_at key))) 1 0) (same_key key key refl)

counts_with : (m : PlainMap) (key value : ℕ) → key < 16 → m.count ≡ sum_below 16 (has_key m) → (with_value m key value).count ≡ sum_below 16 (has_key (with_value m key value))
counts_with m key value near counts = by_key (m.value_at key) refl
  where
    by_key : (o : Option ℕ) → m.value_at key ≡ o → (with_value m key value).count ≡ sum_below 16 (has_key (with_value m key value))
    by_key (Some v) is =
        let had : has_key m key ≡ 1 = ap (λ (o : Option ℕ). cond (is_some o) 1 0) is in
        let same = below_at 16 (has_key m) (has_key (with_value m key value)) key 0 near (omega (arith, key_here m key value, had)) (λ k ne. key_else m key value k ne) in
        let count : (with_value m key value).count ≡ m.count = ap (λ (o : Option ℕ). cond (is_some o) m.count (m.count + 1)) is in
        omega (arith, same, count, counts)
    by_key None is =
        let had : has_key m key ≡ 0 = ap (λ (o : Option ℕ). cond (is_some o) 1 0) is in
        let more = below_at 16 (has_key m) (has_key (with_value m key value)) key 1 near (omega (arith, key_here m key value, had)) (λ k ne. key_else m key value k ne) in
        let count : (with_value m key value).count ≡ m.count + 1 = ap (λ (o : Option ℕ). cond (is_some o) m.count (m.count + 1)) is in
        omega (arith, more, count, counts)

-- one addition
module _ (m : Maps) (cell key delta : ℕ) where
  abbrev pub more : Maps
  more = with_map m cell (with_value (m cell) key (amount_at (m cell) key + delta))

  more_here : more cell ≡ with_value (m cell) key (amount_at (m cell) key + delta)
  more_here = ap (λ b. cond b (with_value (m cell) key (amount_at (m cell) key + delta)) (m cell)) (same_key cell cell refl)

  more_else : (i : ℕ) → i ≢ cell → more i ≡ m i
  more_else i ne = ap (λ b. cond b (with_value (m cell) key (amount_at (m cell) key + delta)) (m i)) (other_key i cell ne)

  -- what holds of this one map and of all old ones holds of all
  more_all : (P : ℕ → PlainMap → Type 0) → P cell (with_value (m cell) key (amount_at (m cell) key + delta)) → ((i : ℕ) → i ≢ cell → P i (m i)) → (i : ℕ) → P i (more i)
  more_all P here else_ i =
      elim (cases_eq i cell) [
        | inl e ↦ subst (λ j. P j (more j)) (sym e) (subst (P cell) (sym more_here) here)
        | inr ne ↦ subst (P i) (sym (more_else i ne)) (else_ i ne)
      ]

  pub fit_more : (most : ℕ) → cell < 8 → key < 16 → delta ≤ 7 → Fit most m → Fit (most + 7) more
  fit_more most near_cell near_key few fit = record {
    low = more_all (λ i p. (k : ℕ) → amount_at p k ≤ most + 7)
        (λ k. elim (cases_eq k key) [
          | inl e ↦ subst (λ j. amount_at (with_value (m cell) key (amount_at (m cell) key + delta)) j ≤ most + 7) (sym e) (let a = amount_here (m cell) key (amount_at (m cell) key + delta) in let l = fit.low cell key in omega (arith, a, l, few))
          | inr ne ↦ let a = amount_else (m cell) key (amount_at (m cell) key + delta) k ne in let l = fit.low cell k in omega (arith, a, l)
        ])
        (λ i ne k. let l = fit.low i k in omega (arith, l));
    count = more_all (λ i p. p.count ≡ sum_below 16 (has_key p)) (counts_with (m cell) key (amount_at (m cell) key + delta) near_key (fit.count cell)) (λ i ne. fit.count i);
    only = more_all (λ i p. (k : ℕ) → (8 ≤ i) ⊎ (16 ≤ k) → p.value_at k ≡ None)
        (λ k out. elim out [
          | inl far ↦ absurd (omega (arith, far, near_cell))
          | inr far ↦ ap (λ b. cond b (Some (amount_at (m cell) key + delta)) ((m cell).value_at k)) (other_key k key (λ e. omega (arith, e, far, near_key))) ∙ fit.only cell k (inr far)
        ])
        (λ i ne. fit.only i);
  }

  pub sum_more : cell < 8 → key < 16 → sum_of_maps 8 16 more ≡ sum_of_maps 8 16 m + delta
  sum_more near_cell near_key =
      below_at 8 (λ i. sum_below 16 (λ k. amount_at (m i) k)) (λ i. sum_below 16 (λ k. amount_at (more i) k)) cell delta near_cell
      (ap (λ (p : PlainMap). sum_below 16 (λ k. amount_at p k)) more_here
      ∙ below_at 16 (λ k. amount_at (m cell) k) (λ k. amount_at (with_value (m cell) key (amount_at (m cell) key + delta)) k) key delta near_key
      (amount_here (m cell) key (amount_at (m cell) key + delta)) (λ k ne. amount_else (m cell) key (amount_at (m cell) key + delta) k ne))
      (λ i ne. ap (λ (p : PlainMap). sum_below 16 (λ k. amount_at p k)) (more_else i ne))

-- a fine addition, in its parts
pub record FineAdd (q : Query) : Type 0 where
  pub cell : ℕ
  pub key : ℕ
  pub delta : ℕ
  pub is : q ≡ Add cell key delta
  pub near_cell : cell < 8
  pub near_key : key < 16
  pub few : delta ≤ 7

pub fine_add : (q : Query) → is_fine_add q ≡ true → FineAdd q
fine_add (Add cell key delta) fine =
    let a = and_parts (nat_lt cell 8) (nat_lt key 16 && nat_le delta 7) fine in
    let b = and_parts (nat_lt key 16) (nat_le delta 7) a.1 in
    record { cell = cell; key = key; delta = delta; is = refl; near_cell = grind (arith, a.0); near_key = grind (arith, b.0); few = grind (arith, b.1) }
fine_add (Get cell key) fine = absurd (cc)
fine_add (Len cell) fine = absurd (cc)
fine_add (Put cell key value) fine = absurd (cc)
fine_add (Del cell key) fine = absurd (cc)
fine_add (Cas cell key old new) fine = absurd (cc)
fine_add (PutLen cell key value) fine = absurd (cc)
fine_add (Move a b key n) fine = absurd (cc)
fine_add (Both a b key) fine = absurd (cc)
fine_add (TryGet cell key) fine = absurd (cc)
fine_add (TryPut cell key value) fine = absurd (cc)
fine_add (GetBy cell key deadline) fine = absurd (cc)
fine_add (PutBy cell key value deadline) fine = absurd (cc)
fine_add (Give key n) fine = absurd (cc)
fine_add (Take key n) fine = absurd (cc)
fine_add Audit fine = absurd (cc)

fit_step : (most : ℕ) (m : Maps) (q : Query) → is_fine_add q ≡ true → Fit most m → Fit (most + 7) (written m q)
fit_step most m q fine fit = let f = fine_add q fine in subst (λ p. Fit (most + 7) (written m p)) (sym f.is) (fit_more m f.cell f.key f.delta most f.near_cell f.near_key f.few fit)

sum_step : (m : Maps) (q : Query) → is_fine_add q ≡ true → sum_of_maps 8 16 (written m q) ≡ sum_of_maps 8 16 m + delta_of q
sum_step m q fine = let f = fine_add q fine in subst (λ p. sum_of_maps 8 16 (written m p) ≡ sum_of_maps 8 16 m + delta_of p) (sym f.is) (sum_more m f.cell f.key f.delta f.near_cell f.near_key)

-- any number of additions
pub fit_all : (most : ℕ) (m : Maps) (ws : List Query) → AllByRecursion (λ q. is_fine_add q ≡ true) ws → Fit most m → Fit (most + 7 * length ws) (replay m ws)
fit_all most m [] fine fit = subst (λ n. Fit n m) (omega arith) fit
fit_all most m (q ∷ ws) fine fit =
    subst (λ n. Fit n (replay (written m q) ws)) (omega arith) (fit_all (most + 7) (written m q) ws fine.1 (fit_step most m q fine.0 fit))

pub sum_all : (m : Maps) (ws : List Query) → AllByRecursion (λ q. is_fine_add q ≡ true) ws → sum_of_maps 8 16 (replay m ws) ≡ sum_of_maps 8 16 m + total delta_of ws
sum_all m [] fine = omega arith
sum_all m (q ∷ ws) fine = let rest = sum_all (written m q) ws fine.1 in let here = sum_step m q fine.0 in omega (arith, rest, here)

pub sum_none : sum_of_maps 8 16 no_entries ≡ 0
sum_none = below_none 8 (λ i. sum_below 16 (λ k. amount_at (no_entries i) k)) (λ i. below_none 16 (λ k. amount_at (no_entries i) k) (λ k. refl))
