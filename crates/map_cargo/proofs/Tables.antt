-- What a store of a row makes of the map that the rows mean.
use Rattle.std.proofs.Common.{◌≡◌, ◌≢◌, ◌<◌, ◌≤◌, ◌+◌, ◌-◌, ℕ, List, cond, eqb, is_some, sym, refl, ap, ◌∙◌, subst, eq-eqb, ne_eqb, arith, Some, None}
use mathlib.Core.Logic.{dite}
use native.Mathlib.Decide.{ℕ_discrete}
use Rattle.std.proofs.Math.Decide.{dec_lt}
use Rattle.query_rules.specs.Maps.{PlainMap, with_value, without}
use Rattle.map_cargo.specs.Rows.{home, way, way_to, used_at, key_at, value_in, IsUsed, IsFree, Holds, Passed, Table, Closing, LookedAt, WithRow, Moved, MayStand, span_at, spread}
use Rattle.map_cargo.proofs.Ways.{home_below, way_below, way_same}
use Rattle.map_cargo.proofs.Sums.{sum_same, sum_changed, sum_full, sum_gap, sum_least}

module _ (m : PlainMap) (key value : ℕ) where
  pub with_here : (with_value m key value).value_at key ≡ Some value
  with_here = ap (λ b. cond b (Some value) (m.value_at key)) (eq-eqb key key refl)

  pub with_else : (k : ℕ) → k ≢ key → (with_value m key value).value_at k ≡ m.value_at k
  with_else k ne = ap (λ b. cond b (Some value) (m.value_at k)) (ne_eqb k key ne)

  pub with_old : (x : ℕ) → m.value_at key ≡ Some x → (with_value m key value).count ≡ m.count
  with_old x is = ap (λ o. cond (is_some o) m.count (m.count + 1)) is

  pub with_new : m.value_at key ≡ None → (with_value m key value).count ≡ m.count + 1
  with_new is = ap (λ o. cond (is_some o) m.count (m.count + 1)) is

module _ (m : PlainMap) (key : ℕ) where
  pub without_here : (without m key).value_at key ≡ None
  without_here = ap (λ b. cond b None (m.value_at key)) (eq-eqb key key refl)

  pub without_else : (k : ℕ) → k ≢ key → (without m key).value_at k ≡ m.value_at k
  without_else k ne = ap (λ b. cond b None (m.value_at k)) (ne_eqb k key ne)

  pub without_one : (x : ℕ) → m.value_at key ≡ Some x → (without m key).count ≡ m.count - 1
  without_one x is = ap (λ o. cond (is_some o) (m.count - 1) m.count) is

-- a key that was taken out and put in again with its value leaves the map as it was
pub put_back : (m : PlainMap) (key value : ℕ) → 0 < m.count → m.value_at key ≡ Some value → with_value (without m key) key value ≡ m
put_back m key value some is =
    let at : (k : ℕ) → (with_value (without m key) key value).value_at k ≡ m.value_at k = λ k. dite (ℕ_discrete k key)
    (λ same. subst (λ (z : ℕ). (with_value (without m key) key value).value_at z ≡ m.value_at z) (sym same) (with_here (without m key) key value ∙ sym is))
    (λ ne. with_else (without m key) key value k ne ∙ without_else m key k ne) in
    let size : (with_value (without m key) key value).count ≡ m.count = with_new (without m key) key value (without_here m key) ∙ (let less = without_one m key value is in omega arith) in
    λ i. record { value_at = λ k. at k i; count = size i }

module _ (rows : ℕ) (words : List ℕ) (m : PlainMap) where
  pub found : (key row : ℕ) → Holds rows words m → IsUsed rows words row → key_at words row ≡ key → m.value_at key ≡ Some (value_in words row)
  found key row h used is = subst (λ (k : ℕ). m.value_at k ≡ Some (value_in words row)) is (h.there row used)

  absent_if : (key : ℕ) → ((value : ℕ) → m.value_at key ≡ Some value → m.value_at key ≡ None) → m.value_at key ≡ None
  absent_if key never = elim (m.value_at key) as (λ o. m.value_at key ≡ o → m.value_at key ≡ None) [
    | Some v ↦ λ e. never v e
    | None ↦ λ e. e
  ] refl

  -- a key whose search ended at a row that isn't used has no value
  pub absent : (key u : ℕ) → Table rows words m → LookedAt rows words key (way rows (home rows key) u) → IsFree rows words u → m.value_at key ≡ None
  absent key u h looked free = absent_if key (λ v has.
      let t = h.holds.only key v has in
      let passed : way rows (home rows key) t.0 < way rows (home rows key) u = subst (λ (k : ℕ). way rows (home rows k) t.0 < way rows (home rows k) u) t.2 (h.reached u free t.0 t.1) in
      absurd ((looked t.0 t.1.below passed).1 t.2))

  all_looked : (key : ℕ) → LookedAt rows words key rows → (r : ℕ) → r < rows → IsUsed rows words r × (key_at words r ≢ key)
  all_looked key looked r low = looked r low (way_below rows (home rows key) r (home_below rows key (omega arith)) low)

  -- one whose search came once round has none, and each row is used
  pub nowhere : (key : ℕ) → Holds rows words m → LookedAt rows words key rows → (m.value_at key ≡ None) × (m.count ≡ rows)
  nowhere key h looked = (
    absent_if key (λ v has. let t = h.only key v has in absurd ((all_looked key looked t.0 t.1.below).1 t.2)),
    sym h.many ∙ sum_full (used_at words) rows (λ r low. (all_looked key looked r low).0.marked),
  )

  pub has_room : (u : ℕ) → Holds rows words m → IsFree rows words u → m.count < rows
  has_room u h free = subst (λ (n : ℕ). n < rows) h.many (sum_gap (used_at words) rows u free.below h.marks free.unmarked)

  pub some_count : (row : ℕ) → Holds rows words m → IsUsed rows words row → 0 < m.count
  some_count row h used = let x = sum_least (used_at words) rows row used.below in let y = used.marked in let z = h.many in omega arith

-- words whose rows are the same
pub same_rows : (rows : ℕ) (words words' : List ℕ) (m : PlainMap) → ((r : ℕ) → used_at words' r ≡ used_at words r) → ((r : ℕ) → key_at words' r ≡ key_at words r) → ((r : ℕ) → value_in words' r ≡ value_in words r)
    → Table rows words m → Table rows words' m
same_rows rows words words' m marks keys values h =
    let used : (r : ℕ) → IsUsed rows words' r → IsUsed rows words r = λ r u. record { below = u.below; marked = sym (marks r) ∙ u.marked } in
    let used' : (r : ℕ) → IsUsed rows words r → IsUsed rows words' r = λ r u. record { below = u.below; marked = marks r ∙ u.marked } in record {
      holds = record {
        marks = λ r low. subst (λ (n : ℕ). n ≤ 1) (sym (marks r)) (h.holds.marks r low);
        many = sum_same (used_at words') (used_at words) rows (λ r low. marks r) ∙ h.holds.many;
        there = λ r u. ap m.value_at (keys r) ∙ h.holds.there r (used r u) ∙ ap Some (sym (values r));
        only = λ key value has. let t = h.holds.only key value has in (t.0, used' t.0 t.1, keys t.0 ∙ t.2);
        distinct = λ r s u v e. h.holds.distinct r s (used r u) (used s v) (sym (keys r) ∙ e ∙ keys s);
      };
      reached = λ u free r is. subst (λ (k : ℕ). way rows (home rows k) r < way rows (home rows k) u) (sym (keys r)) (h.reached u record { below = free.below; unmarked = sym (marks u) ∙ free.unmarked } r (used r is));
    }

module _ (rows : ℕ) (words words' : List ℕ) (m : PlainMap) where
  used_before : (row mark key value r : ℕ) → WithRow words words' row mark key value → r ≢ row → IsUsed rows words' r → IsUsed rows words r
  used_before row mark key value r w ne u = record { below = u.below; marked = sym (w.marks r ne) ∙ u.marked }

  used_after : (row mark key value r : ℕ) → WithRow words words' row mark key value → r ≢ row → IsUsed rows words r → IsUsed rows words' r
  used_after row mark key value r w ne u = record { below = u.below; marked = w.marks r ne ∙ u.marked }

  -- a row was stored whose key no row had
  pub filled_holds : (u key value : ℕ) → Holds rows words m → IsFree rows words u → m.value_at key ≡ None → WithRow words words' u 1 key value → Holds rows words' (with_value m key value)
  filled_holds u key value h free none w =
      let other : (r : ℕ) → IsUsed rows words r → key_at words r ≢ key = λ r used e. let bad : Some (value_in words r) ≡ None = sym (found rows words m key r h used e) ∙ none in cc in
      let here : IsUsed rows words' u = record { below = free.below; marked = w.mark_is } in record {
        marks = λ r low. dite (ℕ_discrete r u) (λ same. let x = ap (used_at words') same in let y = w.mark_is in omega arith) (λ ne. subst (λ (n : ℕ). n ≤ 1) (sym (w.marks r ne)) (h.marks r low));
        many = (let x = sum_changed (used_at words) (used_at words') rows u free.below (λ r low ne. w.marks r ne) in let y = w.mark_is in let z = free.unmarked in let a = h.many in let b = with_new m key value none in omega arith);
        there = λ r used. dite (ℕ_discrete r u)
            (λ same. ap (λ (z : ℕ). (with_value m key value).value_at (key_at words' z)) same ∙ ap (with_value m key value).value_at w.key_is ∙ with_here m key value ∙ ap Some (sym (ap (value_in words') same ∙ w.value_is)))
            (λ ne. let old : IsUsed rows words r = used_before u 1 key value r w ne used in ap (with_value m key value).value_at (w.keys r ne) ∙ with_else m key value (key_at words r) (other r old) ∙ h.there r old ∙ ap Some (sym (w.values r ne)));
        only = λ k v has. dite (ℕ_discrete k key)
            (λ same. (u, here, w.key_is ∙ sym same))
            (λ ne. let t = h.only k v (sym (with_else m key value k ne) ∙ has) in
            let far : t.0 ≢ u = λ e. (let x = ap (used_at words) e in let y = t.1.marked in let z = free.unmarked in omega arith) in
            (t.0, used_after u 1 key value t.0 w far t.1, w.keys t.0 far ∙ t.2));
        distinct = λ r s one two e. dite (ℕ_discrete r u)
            (λ same. dite (ℕ_discrete s u)
            (λ same'. same ∙ sym same')
            (λ ne'. absurd (other s (used_before u 1 key value s w ne' two) (sym (w.keys s ne') ∙ sym e ∙ ap (key_at words') same ∙ w.key_is))))
            (λ ne. dite (ℕ_discrete s u)
            (λ same'. absurd (other r (used_before u 1 key value r w ne one) (sym (w.keys r ne) ∙ e ∙ ap (key_at words') same' ∙ w.key_is)))
            (λ ne'. h.distinct r s (used_before u 1 key value r w ne one) (used_before u 1 key value s w ne' two) (sym (w.keys r ne) ∙ e ∙ w.keys s ne')));
      }

  -- a row's mark was cleared
  pub cleared_holds : (row key k v : ℕ) → Holds rows words m → IsUsed rows words row → key_at words row ≡ key → WithRow words words' row 0 k v → Holds rows words' (without m key)
  cleared_holds row key k v h used is w =
      let far : (r : ℕ) → IsUsed rows words' r → r ≢ row = λ r u e. (let x = ap (used_at words') e in let y = u.marked in let z = w.mark_is in omega arith) in
      let old : (r : ℕ) → IsUsed rows words' r → IsUsed rows words r = λ r u. used_before row 0 k v r w (far r u) u in
      let other : (r : ℕ) → IsUsed rows words' r → key_at words r ≢ key = λ r u e. far r u (h.distinct r row (old r u) used (e ∙ sym is)) in record {
        marks = λ r low. dite (ℕ_discrete r row) (λ same. let x = ap (used_at words') same in let y = w.mark_is in omega arith) (λ ne. subst (λ (n : ℕ). n ≤ 1) (sym (w.marks r ne)) (h.marks r low));
        many = (let x = sum_changed (used_at words) (used_at words') rows row used.below (λ r low ne. w.marks r ne) in let y = w.mark_is in let z = used.marked in let a = h.many in let b = without_one m key (value_in words row) (found rows words m key row h used is) in let c = some_count rows words m row h used in omega arith);
        there = λ r u. ap (without m key).value_at (w.keys r (far r u)) ∙ without_else m key (key_at words r) (other r u) ∙ h.there r (old r u) ∙ ap Some (sym (w.values r (far r u)));
        only = λ j x has. dite (ℕ_discrete j key)
            (λ same. let bad : Some x ≡ None = sym has ∙ ap (without m key).value_at same ∙ without_here m key in absurd (cc))
            (λ ne. let t = h.only j x (sym (without_else m key j ne) ∙ has) in
            let off : t.0 ≢ row = λ e. ne (sym t.2 ∙ ap (key_at words) e ∙ is) in
            (t.0, used_after row 0 k v t.0 w off t.1, w.keys t.0 off ∙ t.2));
        distinct = λ r s one two e. h.distinct r s (old r one) (old s two) (sym (w.keys r (far r one)) ∙ e ∙ w.keys s (far s two));
      }

  -- a row's value was stored
  pub rewritten : (row key value : ℕ) → Table rows words m → IsUsed rows words row → key_at words row ≡ key → WithRow words words' row 1 key value → Table rows words' (with_value m key value)
  rewritten row key value h used is w =
      let marks : (r : ℕ) → used_at words' r ≡ used_at words r = λ r. dite (ℕ_discrete r row) (λ same. ap (used_at words') same ∙ w.mark_is ∙ sym (ap (used_at words) same ∙ used.marked)) (λ ne. w.marks r ne) in
      let keys : (r : ℕ) → key_at words' r ≡ key_at words r = λ r. dite (ℕ_discrete r row) (λ same. ap (key_at words') same ∙ w.key_is ∙ sym (ap (key_at words) same ∙ is)) (λ ne. w.keys r ne) in
      let back : (r : ℕ) → IsUsed rows words' r → IsUsed rows words r = λ r u. record { below = u.below; marked = sym (marks r) ∙ u.marked } in
      let size : (with_value m key value).count ≡ m.count = with_old m key value (value_in words row) (found rows words m key row h.holds used is) in record {
        holds = record {
          marks = λ r low. subst (λ (n : ℕ). n ≤ 1) (sym (marks r)) (h.holds.marks r low);
          many = sum_same (used_at words') (used_at words) rows (λ r low. marks r) ∙ h.holds.many ∙ sym size;
          there = λ r u. ap (with_value m key value).value_at (keys r) ∙ dite (ℕ_discrete r row)
              (λ same. ap (λ (z : ℕ). (with_value m key value).value_at (key_at words z)) same ∙ ap (with_value m key value).value_at is ∙ with_here m key value ∙ ap Some (sym (ap (value_in words') same ∙ w.value_is)))
              (λ ne. let other : key_at words r ≢ key = λ e. ne (h.holds.distinct r row (back r u) used (e ∙ sym is)) in
              with_else m key value (key_at words r) other ∙ h.holds.there r (back r u) ∙ ap Some (sym (w.values r ne)));
          only = λ k v has. dite (ℕ_discrete k key)
              (λ same. (row, record { below = used.below; marked = w.mark_is }, w.key_is ∙ sym same))
              (λ ne. let t = h.holds.only k v (sym (with_else m key value k ne) ∙ has) in (t.0, record { below = t.1.below; marked = marks t.0 ∙ t.1.marked }, keys t.0 ∙ t.2));
          distinct = λ r s one two e. h.holds.distinct r s (back r one) (back s two) (sym (keys r) ∙ e ∙ keys s);
        };
        reached = λ u free r is'. subst (λ (k : ℕ). way rows (home rows k) r < way rows (home rows k) u) (sym (keys r)) (h.reached u record { below = free.below; unmarked = sym (marks u) ∙ free.unmarked } r (back r is'));
      }

  passed_after : (row mark key value u r : ℕ) → WithRow words words' row mark key value → r ≢ row → Passed rows words u → IsUsed rows words' r → way_to rows words' r < way rows (home rows (key_at words' r)) u
  passed_after row mark key value u r w ne passed used = subst (λ (k : ℕ). way rows (home rows k) r < way rows (home rows k) u) (sym (w.keys r ne)) (passed r (used_before row mark key value r w ne used))

  free_before : (row mark key value u : ℕ) → WithRow words words' row mark key value → u ≢ row → IsFree rows words' u → IsFree rows words u
  free_before row mark key value u w ne free = record { below = free.below; unmarked = sym (w.marks u ne) ∙ free.unmarked }

  -- the row where the search for a key ended was filled with it
  pub filled : (u key value : ℕ) → Table rows words m → IsFree rows words u → LookedAt rows words key (way rows (home rows key) u) → WithRow words words' u 1 key value → Table rows words' (with_value m key value)
  filled u key value h free looked w = record {
    holds = filled_holds u key value h.holds free (absent rows words m key u h looked free) w;
    reached = λ v empty r used.
        let far : v ≢ u = λ e. (let x = ap (used_at words') e in let y = empty.unmarked in let z = w.mark_is in omega arith) in
        let before : IsFree rows words v = free_before u 1 key value v w far empty in
        dite (ℕ_discrete r u)
        (λ same.
        let start : home rows key < rows = home_below rows key (let x = free.below in omega arith) in
        let ahead : way rows (home rows key) u < way rows (home rows key) v = dite (dec_lt (way rows (home rows key) u) (way rows (home rows key) v)) (λ less. less)
        (λ no. dite (ℕ_discrete (way rows (home rows key) v) (way rows (home rows key) u))
        (λ e. absurd (far (way_same rows (home rows key) v u start before.below free.below e)))
        (λ ne. let t = (looked v before.below (omega arith)).0 in let x = t.marked in let y = before.unmarked in absurd (omega arith))) in
        subst (λ (z : ℕ). way rows (home rows (key_at words' z)) z < way rows (home rows (key_at words' z)) v) (sym same) (subst (λ (k : ℕ). way rows (home rows k) u < way rows (home rows k) v) (sym w.key_is) ahead))
        (λ ne. passed_after u 1 key value v r w ne (h.reached v before) used);
  }

  -- a row was cleared: it is the gap
  pub cleared : (row key k v : ℕ) → Table rows words m → IsUsed rows words row → key_at words row ≡ key → WithRow words words' row 0 k v → Closing rows words' (without m key) row
  cleared row key k v h used is w = record {
    holds = cleared_holds row key k v h.holds used is w;
    free = record { below = used.below; unmarked = w.mark_is };
    reached = λ u empty ne r one. passed_after row 0 k v u r w (λ e. (let x = ap (used_at words') e in let y = one.marked in let z = w.mark_is in omega arith)) (h.reached u (free_before row 0 k v u w ne empty)) one;
  }

pub closed : (rows : ℕ) (words : List ℕ) (m : PlainMap) (gap : ℕ) → Closing rows words m gap → Passed rows words gap → Table rows words m
closed rows words m gap h passed = record {
  holds = h.holds;
  reached = λ u free. dite (ℕ_discrete u gap) (λ same. subst (λ (z : ℕ). Passed rows words z) (sym same) passed) (λ ne. h.reached u free ne);
}

module _ (rows : ℕ) (words middle words' : List ℕ) (gap from : ℕ) where
  -- a row moved into the gap
  moved_by : (m : PlainMap) → Closing rows words m gap → IsUsed rows words from → way rows (home rows (key_at words from)) gap < way_to rows words from
      → WithRow words middle from 0 (key_at words from) (value_in words from) → WithRow middle words' gap 1 (key_at words from) (value_in words from) → Closing rows words' m from
  moved_by m h used less w w' =
      let k : ℕ = key_at words from in let v : ℕ = value_in words from in
      let apart : gap ≢ from = λ e. (let x = ap (used_at words) e in let y = used.marked in let z = h.free.unmarked in omega arith) in
      let apart' : from ≢ gap = λ e. apart (sym e) in
      let free : IsFree rows middle gap = record { below = h.free.below; unmarked = w.marks gap apart ∙ h.free.unmarked } in
      let there : m.value_at k ≡ Some v = h.holds.there from used in
      let held : Holds rows words' (with_value (without m k) k v) = filled_holds rows middle words' (without m k) gap k v (cleared_holds rows words middle m from k k v h.holds used refl w) free (without_here m k) w' in record {
        holds = subst (Holds rows words') (put_back m k v (some_count rows words m from h.holds used) there) held;
        free = record { below = used.below; unmarked = w'.marks from apart' ∙ w.mark_is };
        reached = λ u empty ne r one.
            let off : u ≢ gap = λ e. (let x = ap (used_at words') e in let y = empty.unmarked in let z = w'.mark_is in omega arith) in
            let empty' : IsFree rows words u = free_before rows words middle m from 0 k v u w ne (free_before rows middle words' m gap 1 k v u w' off empty) in
            let passed : Passed rows words u = h.reached u empty' off in
            dite (ℕ_discrete r gap)
            (λ same. subst (λ (z : ℕ). way rows (home rows (key_at words' z)) z < way rows (home rows (key_at words' z)) u) (sym same)
            (subst (λ (j : ℕ). way rows (home rows j) gap < way rows (home rows j) u) (sym w'.key_is) (let x = passed from used in omega arith)))
            (λ far. let one' : IsUsed rows middle r = used_before rows middle words' m gap 1 k v r w' far one in
            let far' : r ≢ from = λ e. (let x = ap (used_at middle) e in let y = one'.marked in let z = w.mark_is in omega arith) in
            subst (λ (j : ℕ). way rows (home rows j) r < way rows (home rows j) u) (sym (w'.keys r far ∙ w.keys r far')) (passed r (used_before rows words middle m from 0 k v r w far' one')));
      }

  -- and all ways together are shorter by as much
  falls_by : IsFree rows words gap → IsUsed rows words from → way rows (home rows (key_at words from)) gap < way_to rows words from
      → WithRow words middle from 0 (key_at words from) (value_in words from) → WithRow middle words' gap 1 (key_at words from) (value_in words from) → spread rows words' < spread rows words
  unfolding spread
  falls_by free used less w w' =
      let k : ℕ = key_at words from in
      let apart : gap ≢ from = λ e. (let x = ap (used_at words) e in let y = used.marked in let z = free.unmarked in omega arith) in
      let one = sum_changed (span_at rows words) (span_at rows middle) rows from used.below (λ r low ne. λ i. cond (eqb (w.marks r ne i) 1) (way rows (home rows (w.keys r ne i)) r) 0) in
      let two = sum_changed (span_at rows middle) (span_at rows words') rows gap free.below (λ r low ne. λ i. cond (eqb (w'.marks r ne i) 1) (way rows (home rows (w'.keys r ne i)) r) 0) in
      let before : span_at rows words from ≡ way_to rows words from = ap (λ (n : ℕ). cond (eqb n 1) (way_to rows words from) 0) used.marked in
      let cleared' : span_at rows middle from ≡ 0 = ap (λ (n : ℕ). cond (eqb n 1) (way_to rows middle from) 0) w.mark_is in
      let empty : span_at rows middle gap ≡ 0 = ap (λ (n : ℕ). cond (eqb n 1) (way_to rows middle gap) 0) (w.marks gap apart ∙ free.unmarked) in
      let after : span_at rows words' gap ≡ way rows (home rows k) gap = (λ i. cond (eqb (w'.mark_is i) 1) (way rows (home rows (w'.key_is i)) gap) 0) in
      omega arith

module _ (rows : ℕ) (words words' : List ℕ) (gap from : ℕ) where
  pub moved : (m : PlainMap) → Closing rows words m gap → MayStand rows words gap from → Moved words words' from gap → Closing rows words' m from
  moved m h may w = moved_by rows words w.middle words' gap from m h may.used may.on_way w.cleared w.filled

  pub spread_falls : (m : PlainMap) → Closing rows words m gap → MayStand rows words gap from → Moved words words' from gap → spread rows words' < spread rows words
  spread_falls m h may w = falls_by rows words w.middle words' gap from h.free may.used may.on_way w.cleared w.filled
