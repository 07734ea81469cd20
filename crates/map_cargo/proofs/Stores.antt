-- The stores of a row and of the length.
use Rattle.std.proofs.Common.{◌≡◌, ◌≢◌, ◌<◌, ◌+◌, ◌*◌, ℕ, List, length, set, get_or, sym, ◌∙◌, subst, arith, length-set, get_or-set_same, get_or-set_other}
use mathlib.Core.Logic.{dite}
use Rattle.std.proofs.Math.Decide.{dec_lt}
use Rattle.query_rules.specs.Maps.{PlainMap}
use Rattle.map_cargo.specs.Cells.{AreRowsOf, Means}
use Rattle.map_cargo.specs.Rows.{home, way, way_to, rows_in, used_at, key_at, value_in, IsUsed, Holds, Table, WithRow}
use Rattle.map_cargo.proofs.Tables.{same_rows}

module _ (words : List ℕ) (row : ℕ) where
  -- a row was cleared
  pub cleared_row : 3 * row + 1 < length words → WithRow words (set words (3 * row + 1) 0) row 0 (key_at words row) (value_in words row)
  cleared_row low = record {
    wide = length-set words (3 * row + 1) 0;
    first = get_or-set_other words (3 * row + 1) 0 0 0 (λ e. omega arith);
    mark_is = get_or-set_same words (3 * row + 1) 0 0 low;
    key_is = get_or-set_other words (3 * row + 1) (3 * row + 2) 0 0 (λ e. omega arith);
    value_is = get_or-set_other words (3 * row + 1) (3 * row + 3) 0 0 (λ e. omega arith);
    marks = λ r ne. get_or-set_other words (3 * row + 1) (3 * r + 1) 0 0 (λ e. ne (omega arith));
    keys = λ r ne. get_or-set_other words (3 * row + 1) (3 * r + 2) 0 0 (λ e. omega arith);
    values = λ r ne. get_or-set_other words (3 * row + 1) (3 * r + 3) 0 0 (λ e. omega arith);
  }

  -- a used row's value was stored
  pub value_stored : (rows key value : ℕ) → 3 * row + 3 < length words → IsUsed rows words row → key_at words row ≡ key → WithRow words (set words (3 * row + 3) value) row 1 key value
  value_stored rows key value low used is = record {
    wide = length-set words (3 * row + 3) value;
    first = get_or-set_other words (3 * row + 3) 0 value 0 (λ e. omega arith);
    mark_is = get_or-set_other words (3 * row + 3) (3 * row + 1) value 0 (λ e. omega arith) ∙ used.marked;
    key_is = get_or-set_other words (3 * row + 3) (3 * row + 2) value 0 (λ e. omega arith) ∙ is;
    value_is = get_or-set_same words (3 * row + 3) value 0 low;
    marks = λ r ne. get_or-set_other words (3 * row + 3) (3 * r + 1) value 0 (λ e. omega arith);
    keys = λ r ne. get_or-set_other words (3 * row + 3) (3 * r + 2) value 0 (λ e. omega arith);
    values = λ r ne. get_or-set_other words (3 * row + 3) (3 * r + 3) value 0 (λ e. ne (omega arith));
  }

  -- a row was stored whole
  pub row_stored : (mark key value : ℕ) → 3 * row + 3 < length words → WithRow words (set (set (set words (3 * row + 1) mark) (3 * row + 2) key) (3 * row + 3) value) row mark key value
  row_stored mark key value low =
      let w1 : List ℕ = set words (3 * row + 1) mark in let w2 : List ℕ = set w1 (3 * row + 2) key in
      let l1 = length-set words (3 * row + 1) mark in let l2 = length-set w1 (3 * row + 2) key in
      let far : (i : ℕ) → i ≢ 3 * row + 1 → i ≢ 3 * row + 2 → i ≢ 3 * row + 3 → get_or (set w2 (3 * row + 3) value) i 0 ≡ get_or words i 0 = λ i a b d. get_or-set_other w2 (3 * row + 3) i value 0 d ∙ get_or-set_other w1 (3 * row + 2) i key 0 b ∙ get_or-set_other words (3 * row + 1) i mark 0 a in record {
        wide = length-set w2 (3 * row + 3) value ∙ l2 ∙ l1;
        first = far 0 (λ e. omega arith) (λ e. omega arith) (λ e. omega arith);
        mark_is = get_or-set_other w2 (3 * row + 3) (3 * row + 1) value 0 (λ e. omega arith) ∙ get_or-set_other w1 (3 * row + 2) (3 * row + 1) key 0 (λ e. omega arith) ∙ get_or-set_same words (3 * row + 1) mark 0 (omega arith);
        key_is = get_or-set_other w2 (3 * row + 3) (3 * row + 2) value 0 (λ e. omega arith) ∙ get_or-set_same w1 (3 * row + 2) key 0 (omega arith);
        value_is = get_or-set_same w2 (3 * row + 3) value 0 (omega arith);
        marks = λ r ne. far (3 * r + 1) (λ e. ne (omega arith)) (λ e. omega arith) (λ e. omega arith);
        keys = λ r ne. far (3 * r + 2) (λ e. omega arith) (λ e. ne (omega arith)) (λ e. omega arith);
        values = λ r ne. far (3 * r + 3) (λ e. omega arith) (λ e. omega arith) (λ e. ne (omega arith));
      }

-- a row whose used word isn't 0 is used
pub used_if : (rows : ℕ) (words : List ℕ) (m : PlainMap) (row x : ℕ) → Holds rows words m → row < rows → x ≡ used_at words row → x ≢ 0 → IsUsed rows words row
used_if rows words m row x h low is ne = let mark = h.marks row low in let some : x ≢ 0 = ne in record { below = low; marked = omega arith }

module _ (rows : ℕ) (words : List ℕ) (m : PlainMap) where
  pub rows_are : length words ≡ 1 + 3 * rows → rows_in words ≡ rows
  rows_are wide = omega arith

  means_if : get_or words 0 0 ≡ m.count → Table (rows_in words) words m → Means words m
  unfolding AreRowsOf
  means_if count h = record {
    count = count;
    rows = record {
      holds = h.holds;
      reached = λ r i used low near. dite (dec_lt (used_at words i) 1)
          (λ none. let passed = h.reached i record { below = low; unmarked = omega arith } r used in absurd (omega arith))
          (λ some. let mark = h.holds.marks i low in omega arith);
    };
  }

  table_if : Means words m → Table (rows_in words) words m
  unfolding AreRowsOf
  table_if h = record {
    holds = h.rows.holds;
    reached = λ u free r used. dite (dec_lt (way_to (rows_in words) words r) (way (rows_in words) (home (rows_in words) (key_at words r)) u)) (λ less. less)
        (λ no. let mark = h.rows.reached r u used free.below (omega arith) in let none = free.unmarked in absurd (omega arith));
  }

  pub means_of : length words ≡ 1 + 3 * rows → get_or words 0 0 ≡ m.count → Table rows words m → Means words m
  means_of wide count h = means_if count (subst (λ (n : ℕ). Table n words m) (sym (rows_are wide)) h)

  pub table_of : length words ≡ 1 + 3 * rows → Means words m → Table rows words m
  table_of wide h = subst (λ (n : ℕ). Table n words m) (rows_are wide) (table_if h)

-- the length was stored last
pub counted : (rows : ℕ) (words : List ℕ) (m : PlainMap) (n : ℕ) → length words ≡ 1 + 3 * rows → n ≡ m.count → Table rows words m → Means (set words 0 n) m
counted rows words m n wide count h = means_of rows (set words 0 n) m (length-set words 0 n ∙ wide) (get_or-set_same words 0 n 0 (omega arith) ∙ count)
    (same_rows rows words (set words 0 n) m (λ r. get_or-set_other words 0 (3 * r + 1) n 0 (λ e. omega arith)) (λ r. get_or-set_other words 0 (3 * r + 2) n 0 (λ e. omega arith)) (λ r. get_or-set_other words 0 (3 * r + 3) n 0 (λ e. omega arith)) h)
