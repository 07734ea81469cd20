-- Where the words of the cargo stand, and what map the words of a cell mean.
use Rattle.std.specs.Prelude.{◌≡◌, ℕ, ◌+◌, ◌*◌, ◌<◌, ◌≤◌, cond, eqb, List, [], ◌∷◌, take, drop, slice_index}
use Rattle.map_cargo.specs.declared.size.MapCargo.{MapCargo}
use Rattle.query_rules.specs.Maps.{PlainMap}
use Rattle.map_cargo.specs.Rows.{rows_in, used_at, key_at, home, way, way_to, IsUsed, Holds}

-- how many words a cell has: its length, and three for each row
abbrev pub width : MapCargo → ℕ
width c = 1 + 3 * c.rows

abbrev pub number_place : MapCargo → ℕ
number_place c = c.cells * width c

-- where word j of log row w stands
abbrev pub log_place : MapCargo → ℕ → ℕ → ℕ
log_place c w j = number_place c + 1 + 8 * w + j

abbrev pub word_count : MapCargo → ℕ
word_count c = number_place c + 1 + 8 * c.writes

abbrev pub cell_words : MapCargo → List ℕ → ℕ → List ℕ
cell_words c ws cell = take (width c) (drop (cell * width c) ws)

-- The used rows are a map's, and each row from where the search for a used row's key begins up to that row is used
pub record IsTable (rows : ℕ) (words : List ℕ) (m : PlainMap) : Type 0 where
  pub holds : Holds rows words m
  pub reached : (r i : ℕ) → IsUsed rows words r → i < rows → way rows (home rows (key_at words r)) i ≤ way_to rows words r → used_at words i ≡ 1

-- the same of as many rows as these words have; tactics don't look into it
unfoldable pub AreRowsOf : List ℕ → PlainMap → Type 0
AreRowsOf words m = IsTable (rows_in words) words m

-- The words of a cell mean this map: the first is the number of its keys, and then come its rows
pub record Means (words : List ℕ) (m : PlainMap) : Type 0 where
  pub count : slice_index words 0 ≡ m.count
  pub rows : AreRowsOf words m

-- by number, the newest first
abbrev pub lookup : {A : Type 0} → A → List (ℕ × A) → ℕ → A
lookup d [] k = d
lookup d (x ∷ xs) k = cond (eqb x.0 k) x.1 (lookup d xs k)
