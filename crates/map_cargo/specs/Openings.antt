-- The maps with which the cells began, and what a pass learns of what made a map.
use Rattle.std.specs.Prelude.{ℕ, zero, suc, List, [], ◌∷◌}
use Rattle.query_rules.specs.Maps.{PlainMap, Maps, no_keys, with_value}
use Rattle.query_rules.specs.History.{maps_after}
use Rattle.map_cargo.specs.declared.entry.Made.{Made}
use Rattle.map_cargo.specs.declared.size.MapCargo.{MapCargo}

-- a map after these pairs were put into it, one after the other
abbrev pub with_pairs : PlainMap → List (ℕ × ℕ) → PlainMap
with_pairs m [] = m
with_pairs m (p ∷ ps) = with_pairs (with_value m p.0 p.1) ps

-- the maps with which the cells began: a cell behind the end of the list began empty
abbrev pub opened : List (List (ℕ × ℕ)) → Maps
opened [] cell = no_keys
opened (ps ∷ rest) zero = with_pairs no_keys ps
opened (ps ∷ rest) (suc cell) = opened rest cell

-- the pairs with which the cells of a cargo began: there are none
abbrev pub opening_in : MapCargo → List (List (ℕ × ℕ))
opening_in c = []

-- the maps of a cargo before the first write
abbrev pub first_maps : MapCargo → Maps
first_maps c = opened (opening_in c)

-- the maps that an opening and the writes since then made
abbrev pub map_made : Made → Maps
map_made m = maps_after (opened m.opening) m.writes

-- what a pass knows of a cell of which it learnt nothing
abbrev pub unmade : Made
unmade = record { opening = []; writes = [] }
