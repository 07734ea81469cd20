-- Plain maps as contracts see them.
use Rattle.std.specs.Prelude.{◌≡◌, ℕ, zero, suc, List, [], ◌∷◌, length}
use Rattle.std.specs.Ordering.{nat_cmp}
use Rattle.std.specs.BTreeMap.{BTreeMap, get, btree_map_len}
use Rattle.query_rules.specs.Maps.{PlainMap, Maps, no_keys}
use Rattle.query_log.specs.declared.plain.PlainMaps.{PlainMaps}

abbrev pub shown : BTreeMap ℕ ℕ → PlainMap
shown m = record { value_at = λ key. get nat_cmp m key; count = btree_map_len m }

-- the map of each cell; a cell that isn't there has no keys
abbrev pub maps_of : List (BTreeMap ℕ ℕ) → Maps
maps_of [] cell = no_keys
maps_of (m ∷ ms) zero = shown m
maps_of (m ∷ ms) (suc cell) = maps_of ms cell

-- what the maps hold, and how many cells and rows they have
abbrev pub maps_in : PlainMaps → Maps
maps_in p = maps_of p.maps.items

abbrev pub cell_count : PlainMaps → ℕ
cell_count p = length p.maps.items

abbrev pub row_count : PlainMaps → ℕ
row_count p = p.rows

-- the maps have become these, with as many cells and rows as before
pub record Becomes (old new : PlainMaps) (after : Maps) : Type 0 where
  pub maps : maps_in new ≡ after
  pub cells : cell_count new ≡ cell_count old
  pub rows : row_count new ≡ row_count old
