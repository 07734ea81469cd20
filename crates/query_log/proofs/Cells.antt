-- Maps of cells, kept as a list.
use Rattle.std.proofs.Common.{◌≡◌, ℕ, zero, suc, ◌+◌, ◌-◌, ◌<◌, ◌≢◌, ◌==◌, Bool, true, false, cond, List, [], ◌∷◌, ◌++◌, length, get_or, set, Option, Some, None, is_some, refl, sym, ap, ◌∙◌, arith, Result, Ok, Err, OnOk, OnErr, IfOk, IsSome, is_err, subst}
use Rattle.std.specs.Ordering.{nat_cmp}
use Rattle.std.specs.Map.{lookup}
use Rattle.std.specs.BTreeMap.{BTreeMap, get, btree_map_len, Updates, is_at}
use Rattle.query_rules.specs.Maps.{PlainMap, Maps, no_keys, with_map, with_value, without, amount_at, less}
use Rattle.query_log.specs.Plain.{shown, maps_of}

-- a cell that is there
pub map_there : (ms : List (BTreeMap ℕ ℕ)) (cell : ℕ) (d : BTreeMap ℕ ℕ) → cell < length ms → maps_of ms cell ≡ shown (get_or ms cell d)
map_there [] cell d lt = absurd (omega (arith, lt))
map_there (m ∷ ms) zero d lt = refl
map_there (m ∷ ms) (suc cell) d lt = map_there ms cell d (omega (arith, lt))

next_eq : (i j : ℕ) → (suc i == suc j) ≡ (i == j)
next_eq i j = grind arith

set_at : (ms : List (BTreeMap ℕ ℕ)) (cell : ℕ) (new : BTreeMap ℕ ℕ) → cell < length ms → (j : ℕ) → maps_of (set ms cell new) j ≡ cond (j == cell) (shown new) (maps_of ms j)
set_at [] cell new lt j = absurd (omega (arith, lt))
set_at (m ∷ ms) zero new lt zero = refl
set_at (m ∷ ms) zero new lt (suc j) = (let e : (suc j == 0) ≡ false = grind arith in ap (λ b. cond b (shown new) (maps_of ms j)) (sym e))
set_at (m ∷ ms) (suc cell) new lt zero = (let e : (0 == suc cell) ≡ false = grind arith in ap (λ b. cond b (shown new) (shown m)) (sym e))
set_at (m ∷ ms) (suc cell) new lt (suc j) = set_at ms cell new (omega (arith, lt)) j ∙ ap (λ b. cond b (shown new) (maps_of ms j)) (sym (next_eq j cell))

-- one map of several is set
pub maps_set : (ms : List (BTreeMap ℕ ℕ)) (cell : ℕ) (new : BTreeMap ℕ ℕ) (m : PlainMap) → cell < length ms → shown new ≡ m → maps_of (set ms cell new) ≡ with_map (maps_of ms) cell m
maps_set ms cell new m lt e = λ i j. (set_at ms cell new lt j ∙ ap (λ n. cond (j == cell) n (maps_of ms j)) e) i

-- a map is what it says of each key, and how many it has
same_map : (m n : PlainMap) → ((k : ℕ) → m.value_at k ≡ n.value_at k) → m.count ≡ n.count → m ≡ n
same_map m n values counts = λ i. record { value_at = λ k. values k i; count = counts i }

at_key : (key k : ℕ) → is_at (nat_cmp key) k ≡ (k == key)
at_key key k = grind arith

pub inserted : (m n : BTreeMap ℕ ℕ) (key value : ℕ) (old : Option ℕ) → Updates nat_cmp m n key (Some value) → old ≡ get nat_cmp m key → btree_map_len n ≡ btree_map_len m + cond (is_some old) 0 1 → shown n ≡ with_value (shown m) key value
inserted m n key value old updates was len = same_map (shown n) (with_value (shown m) key value)
    (λ k. updates.0 k ∙ ap (λ b. cond b (Some value) (get nat_cmp m k)) (at_key key k))
    (len ∙ ap (λ o. btree_map_len m + cond (is_some o) 0 1) was ∙ count (is_some (get nat_cmp m key)) (btree_map_len m))
  where
    count : (b : Bool) (n : ℕ) → n + cond b 0 1 ≡ cond b n (n + 1)
    count true n = omega arith
    count false n = refl

pub removed : (m n : BTreeMap ℕ ℕ) (key : ℕ) (old : Option ℕ) → Updates nat_cmp m n key None → old ≡ get nat_cmp m key → btree_map_len n + cond (is_some old) 1 0 ≡ btree_map_len m → shown n ≡ without (shown m) key
removed m n key old updates was len = same_map (shown n) (without (shown m) key)
    (λ k. updates.0 k ∙ ap (λ b. cond b None (get nat_cmp m k)) (at_key key k))
    (count (is_some (get nat_cmp m key)) (btree_map_len n) (btree_map_len m) (ap (λ o. btree_map_len n + cond (is_some o) 1 0) (sym was) ∙ len))
  where
    count : (b : Bool) (n m : ℕ) → n + cond b 1 0 ≡ m → n ≡ cond b (m - 1) m
    count true n m e = omega (arith, e)
    count false n m e = omega (arith, e)

-- a map with these entries
abbrev shown_entries : List (ℕ × ℕ) → PlainMap
shown_entries es = record { value_at = λ key. lookup (is_at (nat_cmp key)) es; count = length es }

with_same : (maps : Maps) (cell : ℕ) → with_map maps cell (maps cell) ≡ maps
with_same maps cell = λ i j. at j (j == cell) refl i
  where
    at : (j : ℕ) (b : Bool) → (j == cell) ≡ b → cond (j == cell) (maps cell) (maps j) ≡ maps j
    at j true e = (let same : j ≡ cell = grind (arith, e) in ap (λ b. cond b (maps cell) (maps j)) e ∙ ap maps (sym same))
    at j false e = ap (λ b. cond b (maps cell) (maps j)) e

-- a map that is set to its own entries
pub maps_same : (ms : List (BTreeMap ℕ ℕ)) (cell : ℕ) (d new : BTreeMap ℕ ℕ) → cell < length ms → new.entries ≡ (get_or ms cell d).entries → maps_of (set ms cell new) ≡ maps_of ms
maps_same ms cell d new lt e = maps_set ms cell new (maps_of ms cell) lt (ap shown_entries e ∙ sym (map_there ms cell d lt)) ∙ with_same (maps_of ms) cell

push_at : (ms : List (BTreeMap ℕ ℕ)) (m : BTreeMap ℕ ℕ) → ((j : ℕ) → maps_of ms j ≡ no_keys) → shown m ≡ no_keys → (j : ℕ) → maps_of (ms ++ m ∷ []) j ≡ no_keys
push_at [] m all e zero = e
push_at [] m all e (suc j) = refl
push_at (x ∷ ms) m all e zero = all 0
push_at (x ∷ ms) m all e (suc j) = push_at ms m (λ k. all (suc k)) e j

-- one more empty map
pub empty_push : (ms new : List (BTreeMap ℕ ℕ)) (m : BTreeMap ℕ ℕ) → maps_of ms ≡ (λ cell. no_keys) → m.entries ≡ [] → new ≡ ms ++ m ∷ [] → maps_of new ≡ (λ cell. no_keys)
empty_push ms new m all e is = ap maps_of is ∙ (λ i j. push_at ms m (λ k. ap (λ (f : Maps). f k) all) (ap shown_entries e) j i)

-- one map of several after an insertion, and after a removal
pub set_inserted : (ms : List (BTreeMap ℕ ℕ)) (cell : ℕ) (m n : BTreeMap ℕ ℕ) (key value : ℕ) (old : Option ℕ) → cell < length ms → m ≡ get_or ms cell m → Updates nat_cmp m n key (Some value) → old ≡ get nat_cmp m key → btree_map_len n ≡ btree_map_len m + cond (is_some old) 0 1
    → maps_of (set ms cell n) ≡ with_map (maps_of ms) cell (with_value (maps_of ms cell) key value)
set_inserted ms cell m n key value old lt is updates was len =
    maps_set ms cell n _ lt (inserted m n key value old updates was len ∙ ap (λ p. with_value p key value) (ap shown is ∙ sym (map_there ms cell m lt)))

pub set_removed : (ms : List (BTreeMap ℕ ℕ)) (cell : ℕ) (m n : BTreeMap ℕ ℕ) (key : ℕ) (old : Option ℕ) → cell < length ms → m ≡ get_or ms cell m → Updates nat_cmp m n key None → old ≡ get nat_cmp m key → btree_map_len n + cond (is_some old) 1 0 ≡ btree_map_len m
    → maps_of (set ms cell n) ≡ with_map (maps_of ms) cell (without (maps_of ms cell) key)
set_removed ms cell m n key old lt is updates was len =
    maps_set ms cell n _ lt (removed m n key old updates was len ∙ ap (λ p. without p key) (ap shown is ∙ sym (map_there ms cell m lt)))

pub on_err_any : {T E P : Type 0} (r : Result T E) → P → OnErr r P
on_err_any (Ok x) p = tt
on_err_any (Err e) p = p

-- a cell beside the one that is set
pub other_cell : (maps : Maps) (cell other : ℕ) (m : PlainMap) → other ≢ cell → with_map maps cell m other ≡ maps other
other_cell maps cell other m ne = (let e : (other == cell) ≡ false = grind (arith, ne) in ap (λ b. cond b m (maps other)) e)

-- two cells are set in either order
swap_cells : (maps : Maps) (a b : ℕ) (m n : PlainMap) → a ≢ b → with_map (with_map maps b n) a m ≡ with_map (with_map maps a m) b n
swap_cells maps a b m n ne = λ i j. at j (j == a) (j == b) refl refl i
  where
    at : (j : ℕ) (x y : Bool) → (j == a) ≡ x → (j == b) ≡ y → cond (j == a) m (cond (j == b) n (maps j)) ≡ cond (j == b) n (cond (j == a) m (maps j))
    at j true true e f = absurd (grind (arith, e, f, ne))
    at j true false e f = ap (λ c. cond c m (cond (j == b) n (maps j))) e ∙ sym (ap (λ c. cond c n (cond (j == a) m (maps j))) f ∙ ap (λ c. cond c m (maps j)) e)
    at j false true e f = ap (λ c. cond c m (cond (j == b) n (maps j))) e ∙ ap (λ c. cond c n (maps j)) f ∙ sym (ap (λ c. cond c n (cond (j == a) m (maps j))) f)
    at j false false e f = ap (λ c. cond c m (cond (j == b) n (maps j))) e ∙ ap (λ c. cond c n (maps j)) f ∙ sym (ap (λ c. cond c n (cond (j == a) m (maps j))) f ∙ ap (λ c. cond c m (maps j)) e)

-- the first cell of a move, behind the second
pub moved_some : (maps mid end : Maps) (a b key n left : ℕ) (to : PlainMap) → a ≢ b → is_some ((maps a).value_at key) ≡ true → left ≡ amount_at (maps a) key - n → mid ≡ with_map maps b to → end ≡ with_map mid a (with_value (mid a) key left)
    → end ≡ with_map (with_map maps a (less (maps a) key n)) b to
moved_some maps mid end a b key n left to ne some is set last =
    let from : mid a ≡ maps a = ap (λ (f : Maps). f a) set ∙ other_cell maps b a to ne in
    let made : with_value (mid a) key left ≡ less (maps a) key n =
    ap (λ m. with_value m key left) from ∙ ap (λ k. with_value (maps a) key k) is
    ∙ sym (ap (λ c. cond c (with_value (maps a) key (amount_at (maps a) key - n)) (maps a)) some) in
    last ∙ ap (λ (f : Maps). with_map f a (with_value (mid a) key left)) set ∙ ap (λ m. with_map (with_map maps b to) a m) made ∙ swap_cells maps a b (less (maps a) key n) to ne

pub moved_none : (maps end : Maps) (a b key n : ℕ) (to : PlainMap) → is_some ((maps a).value_at key) ≡ false → end ≡ with_map maps b to → end ≡ with_map (with_map maps a (less (maps a) key n)) b to
moved_none maps end a b key n to none set =
    let same : less (maps a) key n ≡ maps a = ap (λ c. cond c (with_value (maps a) key (amount_at (maps a) key - n)) (maps a)) none in
    set ∙ ap (λ (f : Maps). with_map f b to) (sym (with_same maps a)) ∙ ap (λ m. with_map (with_map maps a m) b to) (sym same)

pub on_err_from : {T E P : Type 0} (r : Result T E) → is_err r ≡ true → OnErr r P → P
on_err_from (Ok x) e h = absurd (cc)
on_err_from (Err y) e h = h

pub on_ok_from : {T E P : Type 0} (r : Result T E) → is_err r ≡ false → OnOk r P → P
on_ok_from (Ok x) e h = h
on_ok_from (Err y) e h = absurd (cc)

pub if_ok_both : {T E : Type 0} {F G : T → Type 0} (r : Result T E) → is_err r ≡ false → IfOk r F → IfOk r G → (x : T) × F x × G x
if_ok_both (Ok x) e f g = (x, f, g)
if_ok_both (Err y) e f g = absurd (cc)

pub not_absent : (o : Option ℕ) → IsSome o → o ≡ None → ⊥
not_absent o there none = let e : false ≡ true = sym (ap is_some none) ∙ there in cc

pub there_after : (maps mid : Maps) (a b key : ℕ) (to : PlainMap) → a ≢ b → is_some ((maps a).value_at key) ≡ true → mid ≡ with_map maps b to → IsSome ((mid a).value_at key)
there_after maps mid a b key to ne some set =
    let from : mid a ≡ maps a = ap (λ (f : Maps). f a) set ∙ other_cell maps b a to ne in
    let P : PlainMap → Type 0 = λ m. IsSome (m.value_at key) in
    subst P (sym from) some
