-- Lists of entries, and the cells of a query.
use Rattle.std.proofs.Common.{◌≡◌, ◌<◌, ◌≤◌, ◌+◌, ◌⊎◌, ℕ, List, [], ◌∷◌, ◌++◌, length, cond, eqb, Bool, true, false, suc, zero, sym, refl, ap, ◌∙◌, subst, ⊎_elim, inl, inr, ne_eqb, arith, Some}
use Rattle.std.proofs.lemmas.List.{length-append}
use mathlib.Core.Logic.{dite}
use mathlib.Core.Option.{some, some-injective, some-ne-none}
use native.Mathlib.Decide.{ℕ_discrete}
use Rattle.std.proofs.Math.Decide.{dec_lt}
use lib.ListN.{get_elem?}
use Rattle.view_sums.specs.Sums.{total, find}
use Rattle.lock_model.specs.Locks.{Has}
use Rattle.query_rules.specs.declared.query.Query.{Query}
use Rattle.query_rules.specs.declared.query.Query.TheVariants.{Get, Len, Put, Del, Add, Cas, PutLen, Move, Both, TryGet, TryPut, GetBy, PutBy, Give, Take, Audit}
use Rattle.query_rules.specs.declared.query.Said.TheVariants.{Count, Same, Pair}
use Rattle.query_rules.specs.Maps.{PlainMap, Maps, reply_of, written, get_says, put_says, del_says, add_says, cas_says, put_len_says, move_says, with_value, without, less, amount_at, is_full}
use Rattle.map_cargo.specs.declared.entry.Entry.{Entry}
use Rattle.map_cargo.specs.declared.entry.Told.{Told}
use Rattle.map_cargo.specs.declared.entry.Told.TheVariants.{Wrote, Read, Refused}
use Rattle.map_cargo.specs.Cells.{lookup}
use Rattle.map_cargo.specs.Entries.{named_cells, spoken_cells}
use Rattle.map_cargo.specs.History.{Seat, Stands, WrittenAs, is_wrote, Each}
use Rattle.map_cargo.specs.Laws.{lookup_here, lookup_else}

module _ (opening : Maps) where
  pub grows : (rows : ℕ) (entries : List Entry) (x : Entry) (t : Told) → Stands opening rows entries t → Stands opening rows (x ∷ entries) t
  grows rows entries x (Wrote w e) s = record { newer = x ∷ s.newer; older = s.older; stands = ap (λ l. x ∷ l) s.stands; number = s.number; said = s.said; writes = s.writes }
  grows rows entries x (Read w e) s = record { newer = x ∷ s.newer; older = s.older; stands = ap (λ l. x ∷ l) s.stands; number = s.number; said = s.said; reads = s.reads }
  grows rows entries x (Refused caller index query reply) s = s

module _ {opening : Maps} {rows : ℕ} {entries : List Entry} {w : ℕ} {e : Entry} (s : WrittenAs opening rows entries w e) where
  place : length entries ≡ length s.newer + (w + 1)
  place = let p : length entries ≡ length (s.newer ++ e ∷ s.older) = ap (λ l. length l) s.stands in omega (arith, length-append s.newer (e ∷ s.older), s.number)

  below : w < length entries
  below = omega (arith, place)

nth : {A : Type 0} (xs ys : List A) (a : A) → get_elem? (xs ++ a ∷ ys) (length xs) ≡ some a
nth [] ys a = refl
nth (x ∷ xs) ys a = nth xs ys a

-- there is one entry at a number
pub one_entry : {opening : Maps} {rows : ℕ} {entries : List Entry} {w : ℕ} {e f : Entry} → WrittenAs opening rows entries w e → WrittenAs opening rows entries w f → e ≡ f
one_entry {opening} {rows} {entries} {w} {e} {f} s t =
    let same : length s.newer ≡ length t.newer = omega (arith, place s, place t) in
    some-injective e f (sym (nth s.newer s.older e) ∙ ap (λ l. get_elem? l (length s.newer)) (sym s.stands ∙ t.stands) ∙ ap (get_elem? (t.newer ++ f ∷ t.older)) same ∙ nth t.newer t.older f)

pub has_at : {A : Type 0} (l : List A) (i : ℕ) (a : A) → get_elem? l i ≡ some a → Has l a
has_at [] i a e = absurd (some-ne-none a (sym e))
has_at (x ∷ xs) zero a e = inl (sym (some-injective x a e))
has_at (x ∷ xs) (suc i) a e = inr (has_at xs i a e)

module _ (opening : Maps) (rows : ℕ) (entries : List Entry) (w : ℕ) where
  wrote_below : (t : Told) → Stands opening rows entries t → 0 < is_wrote w t → w < length entries
  wrote_below (Wrote n e) s pos = dite (ℕ_discrete n w) (λ same. subst (λ (z : ℕ). z < length entries) same (below s))
      (λ ne. let none : is_wrote w (Wrote n e) ≡ 0 = ap (λ b. cond b 1 0) (ne_eqb n w ne) in absurd (omega arith))
  wrote_below (Read n e) s pos = absurd (omega arith)
  wrote_below (Refused caller index query reply) s pos = absurd (omega arith)

  -- nobody has a write that isn't drawn yet
  pub none_yet : (qs : List Seat) → Each (λ q. (t : Told) → Has q.part.told t → Stands opening rows entries t) qs → length entries ≤ w → total (λ (q : Seat). total (is_wrote w) q.part.told) qs ≡ 0
  none_yet qs told late = dite (dec_lt 0 (total (λ (q : Seat). total (is_wrote w) q.part.told) qs))
      (λ some'. let t = find (λ (q : Seat). total (is_wrote w) q.part.told) qs some' in let u = find (is_wrote w) t.1.part.told t.3 in
      let low = wrote_below u.1 (told t.0 t.1 t.2 u.1 (has_at t.1.part.told u.0 u.1 u.2)) u.3 in absurd (omega arith))
      (λ no. omega arith)

pub has_or : (cs : List ℕ) (i : ℕ) → Has cs i ⊎ (Has cs i → ⊥)
has_or [] i = inr (λ h. h)
has_or (c ∷ cs) i = dite (ℕ_discrete i c) (λ e. inl (inl e)) (λ ne. ⊎_elim (λ h. inl (inr h)) (λ no. inr (λ h. ⊎_elim ne no h)) (has_or cs i))

-- two maps agree on these cells
abbrev pub Agree : List ℕ → Maps → Maps → Type 0
Agree cells f g = (cell : ℕ) → Has cells cell → f cell ≡ g cell

both_same : {X : Type 0} (t : Bool) (a b : ℕ) (f g : Maps) (same : X) (say : PlainMap → PlainMap → X) → Agree (cond t [] (a ∷ b ∷ [])) f g → cond t same (say (f a) (f b)) ≡ cond t same (say (g a) (g b))
both_same true a b f g same say h = refl
both_same false a b f g same say h = λ i. say (h a (inl refl) i) (h b (inr (inl refl)) i)

-- a reply reads no cell but those that it speaks of
pub reply_same : (rows : ℕ) (f g : Maps) (q : Query) → Agree (spoken_cells q) f g → reply_of rows f q ≡ reply_of rows g q
reply_same rows f g (Get c key) h = ap (λ m. Some (get_says (m.value_at key))) (h c (inl refl))
reply_same rows f g (Len c) h = ap (λ m. Some (Count m.count)) (h c (inl refl))
reply_same rows f g (Put c key value) h = ap (λ m. Some (put_says (m.value_at key) (is_full rows m))) (h c (inl refl))
reply_same rows f g (Del c key) h = ap (λ m. Some (del_says (m.value_at key))) (h c (inl refl))
reply_same rows f g (Add c key delta) h = ap (λ m. Some (add_says (m.value_at key) (is_full rows m) delta)) (h c (inl refl))
reply_same rows f g (Cas c key old new) h = ap (λ m. Some (cas_says (m.value_at key) old)) (h c (inl refl))
reply_same rows f g (PutLen c key value) h = ap (λ m. Some (put_len_says (m.value_at key) (is_full rows m) m.count)) (h c (inl refl))
reply_same rows f g (Move a b key n) h = ap Some (both_same (eqb a b) a b f g Same (λ x y. move_says rows x y key n) h)
reply_same rows f g (Both a b key) h = ap Some (both_same (eqb a b) a b f g Same (λ x y. Pair (x.value_at key) (y.value_at key)) h)
reply_same rows f g (TryGet c key) h = ap (λ m. Some (get_says (m.value_at key))) (h c (inl refl))
reply_same rows f g (TryPut c key value) h = ap (λ m. Some (put_says (m.value_at key) (is_full rows m))) (h c (inl refl))
reply_same rows f g (GetBy c key deadline) h = ap (λ m. Some (get_says (m.value_at key))) (h c (inl refl))
reply_same rows f g (PutBy c key value deadline) h = ap (λ m. Some (put_says (m.value_at key) (is_full rows m))) (h c (inl refl))
reply_same rows f g (Give key n) h = refl
reply_same rows f g (Take key n) h = refl
reply_same rows f g Audit h = refl

both_named : (t : Bool) (a b i : ℕ) → Has (cond t [] (a ∷ b ∷ [])) i → Has (a ∷ b ∷ []) i
both_named true a b i h = absurd h
both_named false a b i h = h

pub spoken_named : (q : Query) (i : ℕ) → Has (spoken_cells q) i → Has (named_cells q) i
spoken_named (Get c key) i h = h
spoken_named (Len c) i h = h
spoken_named (Put c key value) i h = h
spoken_named (Del c key) i h = h
spoken_named (Add c key delta) i h = h
spoken_named (Cas c key old new) i h = h
spoken_named (PutLen c key value) i h = h
spoken_named (Move a b key n) i h = both_named (eqb a b) a b i h
spoken_named (Both a b key) i h = both_named (eqb a b) a b i h
spoken_named (TryGet c key) i h = h
spoken_named (TryPut c key value) i h = h
spoken_named (GetBy c key deadline) i h = h
spoken_named (PutBy c key value deadline) i h = h
spoken_named (Give key n) i h = h
spoken_named (Take key n) i h = h
spoken_named Audit i h = h

-- a change of one cell's map
changed_same : (f g : Maps) (c i : ℕ) (change : PlainMap → PlainMap) → f c ≡ g c → f i ≡ g i → cond (eqb i c) (change (f c)) (f i) ≡ cond (eqb i c) (change (g c)) (g i)
changed_same f g c i change here there = λ j. cond (eqb i c) (change (here j)) (there j)

-- where the maps agree on a query's cells, the query leaves the same there
pub written_named : (f g : Maps) (q : Query) (i : ℕ) → Agree (named_cells q) f g → Has (named_cells q) i → written f q i ≡ written g q i
written_named f g (Get c key) i h has = h i has
written_named f g (Len c) i h has = h i has
written_named f g (Put c key value) i h has = changed_same f g c i (λ m. with_value m key value) (h c (inl refl)) (h i has)
written_named f g (Del c key) i h has = changed_same f g c i (λ m. without m key) (h c (inl refl)) (h i has)
written_named f g (Add c key delta) i h has = changed_same f g c i (λ m. with_value m key (amount_at m key + delta)) (h c (inl refl)) (h i has)
written_named f g (Cas c key old new) i h has = changed_same f g c i (λ m. with_value m key new) (h c (inl refl)) (h i has)
written_named f g (PutLen c key value) i h has = changed_same f g c i (λ m. with_value m key value) (h c (inl refl)) (h i has)
written_named f g (Move a b key n) i h has = let p : f a ≡ g a = h a (inl refl) in let r : f b ≡ g b = h b (inr (inl refl)) in
    λ j. cond (eqb i b) (with_value (r j) key (amount_at (r j) key + n)) (cond (eqb i a) (less (p j) key n) (h i has j))
written_named f g (Both a b key) i h has = h i has
written_named f g (TryGet c key) i h has = h i has
written_named f g (TryPut c key value) i h has = changed_same f g c i (λ m. with_value m key value) (h c (inl refl)) (h i has)
written_named f g (GetBy c key deadline) i h has = h i has
written_named f g (PutBy c key value deadline) i h has = changed_same f g c i (λ m. with_value m key value) (h c (inl refl)) (h i has)
written_named f g (Give key n) i h has = absurd has
written_named f g (Take key n) i h has = absurd has
written_named f g Audit i h has = absurd has

unchanged : (f : Maps) (c i : ℕ) (m : PlainMap) → (Has (c ∷ []) i → ⊥) → cond (eqb i c) m (f i) ≡ f i
unchanged f c i m missing = ap (λ b. cond b m (f i)) (ne_eqb i c (λ e. missing (inl e)))

-- a query leaves each other cell as it was
pub written_else : (f : Maps) (q : Query) (i : ℕ) → (Has (named_cells q) i → ⊥) → written f q i ≡ f i
written_else f (Get c key) i missing = refl
written_else f (Len c) i missing = refl
written_else f (Put c key value) i missing = unchanged f c i (with_value (f c) key value) missing
written_else f (Del c key) i missing = unchanged f c i (without (f c) key) missing
written_else f (Add c key delta) i missing = unchanged f c i (with_value (f c) key (amount_at (f c) key + delta)) missing
written_else f (Cas c key old new) i missing = unchanged f c i (with_value (f c) key new) missing
written_else f (PutLen c key value) i missing = unchanged f c i (with_value (f c) key value) missing
written_else f (Move a b key n) i missing =
    ap (λ t. cond t (with_value (f b) key (amount_at (f b) key + n)) (cond (eqb i a) (less (f a) key n) (f i))) (ne_eqb i b (λ e. missing (inr (inl e))))
    ∙ ap (λ t. cond t (less (f a) key n) (f i)) (ne_eqb i a (λ e. missing (inl e)))
written_else f (Both a b key) i missing = refl
written_else f (TryGet c key) i missing = refl
written_else f (TryPut c key value) i missing = unchanged f c i (with_value (f c) key value) missing
written_else f (GetBy c key deadline) i missing = refl
written_else f (PutBy c key value deadline) i missing = unchanged f c i (with_value (f c) key value) missing
written_else f (Give key n) i missing = refl
written_else f (Take key n) i missing = refl
written_else f Audit i missing = refl

-- these cells have these writes
abbrev pub noted : {A : Type 0} → A → List ℕ → List (ℕ × A) → List (ℕ × A)
noted a [] xs = xs
noted a (c ∷ cs) xs = (c, a) ∷ noted a cs xs

module _ {A : Type 0} (d a : A) (xs : List (ℕ × A)) (i : ℕ) where
  pub noted_here : (cs : List ℕ) → Has cs i → lookup d (noted a cs xs) i ≡ a
  noted_here [] h = absurd h
  noted_here (c ∷ cs) h = dite (ℕ_discrete i c)
      (λ same. subst (λ (z : ℕ). lookup d (noted a (c ∷ cs) xs) z ≡ a) (sym same) (lookup_here d (noted a cs xs) c a))
      (λ ne. lookup_else d (noted a cs xs) c i a ne ∙ noted_here cs (⊎_elim (λ e. absurd (ne e)) (λ t. t) h))

  pub noted_else : (cs : List ℕ) → (Has cs i → ⊥) → lookup d (noted a cs xs) i ≡ lookup d xs i
  noted_else [] missing = refl
  noted_else (c ∷ cs) missing = lookup_else d (noted a cs xs) c i a (λ e. missing (inl e)) ∙ noted_else cs (λ t. missing (inr t))
