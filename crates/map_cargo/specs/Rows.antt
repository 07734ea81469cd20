-- How the rows of a table are found: where the search for a key begins, and what map the rows mean.
use Rattle.std.specs.Prelude.{◌≡◌, ◌≢◌, ℕ, ◌+◌, ◌-◌, ◌*◌, ◌/◌, ◌%◌, ◌<◌, ◌≤◌, zero, suc, cond, eqb, nat_le, List, [], ◌∷◌, length, slice_index, slice_set, Some}
use Rattle.query_rules.specs.Maps.{PlainMap}

-- where the search for a key begins
unfoldable pub home : ℕ → ℕ → ℕ
home rows key = ((key * 11400714819323198485) % 18446744073709551616) / 4294967296 % rows

-- the next row up; the last row is followed by the first
abbrev pub row_above : ℕ → ℕ → ℕ
row_above rows r = cond (eqb (r + 1) rows) 0 (r + 1)

-- how many rows it is up from one to another, where the last is followed by the first
unfoldable pub way : ℕ → ℕ → ℕ → ℕ
way rows a b = cond (nat_le a b) (b - a) (b + rows - a)

abbrev pub used_at : List ℕ → ℕ → ℕ
used_at words r = slice_index words (3 * r + 1)

abbrev pub key_at : List ℕ → ℕ → ℕ
key_at words r = slice_index words (3 * r + 2)

abbrev pub value_in : List ℕ → ℕ → ℕ
value_in words r = slice_index words (3 * r + 3)

-- how many rows these words of a cell have: the first word is the number of keys, and each row has three
abbrev pub rows_in : List ℕ → ℕ
rows_in words = length words / 3

-- one of so many rows, and it is used
pub record IsUsed (rows : ℕ) (words : List ℕ) (r : ℕ) : Type 0 where
  pub below : r < rows
  pub marked : used_at words r ≡ 1

-- one of so many rows, and it isn't used
pub record IsFree (rows : ℕ) (words : List ℕ) (r : ℕ) : Type 0 where
  pub below : r < rows
  pub unmarked : used_at words r ≡ 0

-- how far a row lies from where the search for its key begins
abbrev pub way_to : ℕ → List ℕ → ℕ → ℕ
way_to rows words r = way rows (home rows (key_at words r)) r

-- a sum over the rows below this one
abbrev pub sum_of_rows : (ℕ → ℕ) → ℕ → ℕ
sum_of_rows f zero = 0
sum_of_rows f (suc n) = sum_of_rows f n + f n

-- the used rows are those of this map, one for each key
pub record Holds (rows : ℕ) (words : List ℕ) (m : PlainMap) : Type 0 where
  pub marks : (r : ℕ) → r < rows → used_at words r ≤ 1
  pub many : sum_of_rows (used_at words) rows ≡ m.count
  pub there : (r : ℕ) → IsUsed rows words r → m.value_at (key_at words r) ≡ Some (value_in words r)
  pub only : (key value : ℕ) → m.value_at key ≡ Some value → (r : ℕ) × IsUsed rows words r × (key_at words r ≡ key)
  pub distinct : (r s : ℕ) → IsUsed rows words r → IsUsed rows words s → key_at words r ≡ key_at words s → r ≡ s

-- no used row's way from where the search for its key begins comes to this row
abbrev pub Passed : ℕ → List ℕ → ℕ → Type 0
Passed rows words u = (r : ℕ) → IsUsed rows words r → way_to rows words r < way rows (home rows (key_at words r)) u

-- the same for all rows that aren't used
pub record Table (rows : ℕ) (words : List ℕ) (m : PlainMap) : Type 0 where
  pub holds : Holds rows words m
  pub reached : (u : ℕ) → IsFree rows words u → Passed rows words u

-- and for all but one, the gap
pub record Closing (rows : ℕ) (words : List ℕ) (m : PlainMap) (gap : ℕ) : Type 0 where
  pub holds : Holds rows words m
  pub free : IsFree rows words gap
  pub reached : (u : ℕ) → IsFree rows words u → u ≢ gap → Passed rows words u

-- the rows up from where the search for a key begins, so many, are used by other keys
abbrev pub LookedAt : ℕ → List ℕ → ℕ → ℕ → Type 0
LookedAt rows words key d = (r : ℕ) → r < rows → way rows (home rows key) r < d → IsUsed rows words r × (key_at words r ≢ key)

-- the rows up from a gap, at less than this distance, are used, and their ways don't come to the gap
abbrev pub Kept : ℕ → List ℕ → ℕ → ℕ → Type 0
Kept rows words gap d = (r : ℕ) → r < rows → r ≢ gap → way rows gap r < d → IsUsed rows words r × (way_to rows words r < way rows (home rows (key_at words r)) gap)

-- words in which one row was stored
pub record WithRow (words words' : List ℕ) (row mark key value : ℕ) : Type 0 where
  pub wide : length words' ≡ length words
  pub first : slice_index words' 0 ≡ slice_index words 0
  pub mark_is : used_at words' row ≡ mark
  pub key_is : key_at words' row ≡ key
  pub value_is : value_in words' row ≡ value
  pub marks : (r : ℕ) → r ≢ row → used_at words' r ≡ used_at words r
  pub keys : (r : ℕ) → r ≢ row → key_at words' r ≡ key_at words r
  pub values : (r : ℕ) → r ≢ row → value_in words' r ≡ value_in words r

-- words in which a row moved into a gap, and its own place became the gap
pub record Moved (words words' : List ℕ) (from gap : ℕ) : Type 0 where
  pub middle : List ℕ
  pub cleared : WithRow words middle from 0 (key_at words from) (value_in words from)
  pub filled : WithRow middle words' gap 1 (key_at words from) (value_in words from)

-- a used row that may stand in the gap: the gap lies on the way from its key's home to it
pub record MayStand (rows : ℕ) (words : List ℕ) (gap from : ℕ) : Type 0 where
  pub used : IsUsed rows words from
  pub on_way : way rows (home rows (key_at words from)) gap < way_to rows words from

-- the first row up from the gap that may stand in it: each row between is used, and its way doesn't come to the gap
pub record IsNext (rows : ℕ) (words : List ℕ) (gap from : ℕ) : Type 0 where
  pub may : MayStand rows words gap from
  pub first : Kept rows words gap (way rows gap from)

-- What is left where rows move into the gap one after the other, each the first up from the gap that may stand in it: its own place becomes the gap; at the end none may
abbrev pub Closes : ℕ → List ℕ → ℕ → List ℕ → List ℕ → Type 0
Closes rows words gap [] left = (left ≡ words) × Passed rows words gap
Closes rows words gap (from ∷ more) left = IsNext rows words gap from × (next : List ℕ) × Moved words next from gap × Closes rows next from more left

-- A key's row was cleared, the gap was closed by these moves, and the length is one less
pub record Removed (rows : ℕ) (words words' : List ℕ) (key : ℕ) : Type 0 where
  pub row : ℕ
  pub used : IsUsed rows words row
  pub its : key_at words row ≡ key
  pub clear : List ℕ
  pub clears : WithRow words clear row 0 (key_at words row) (value_in words row)
  pub moves : List ℕ
  pub left : List ℕ
  pub closes : Closes rows clear row moves left
  pub counted : words' ≡ slice_set left 0 (slice_index words 0 - 1)

abbrev pub span_at : ℕ → List ℕ → ℕ → ℕ
span_at rows words r = cond (eqb (used_at words r) 1) (way_to rows words r) 0

-- the ways of all used rows together
unfoldable pub spread : ℕ → List ℕ → ℕ
spread rows words = sum_of_rows (span_at rows words) rows
