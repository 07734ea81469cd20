-- Worked examples in eight rows, by computation.
use Rattle.std.specs.Prelude.{◌≡◌, ℕ, ◌+◌, ◌*◌, ◌≤◌, zero, suc, List, [], ◌∷◌, length, slice_index, Option, Some, None, refl}
use Rattle.std.proofs.Common.{ap, ◌∙◌, inl, inr, ⊎_elim, arith, lit<, length-append}
use Rattle.hall.specs.declared.view.View.{View}
use Rattle.hall.specs.declared.view.StepEntry.{StepEntry}
use Rattle.query_rules.specs.Maps.{PlainMap}
use Rattle.map_cargo.specs.declared.size.MapCargo.{MapCargo}
use Rattle.map_cargo.specs.declared.entry.Part.{Part}
use Rattle.map_cargo.specs.Cells.{AreRowsOf, Means}
use Rattle.map_cargo.specs.Rows.{home, way, row_above}
use Rattle.map_cargo.specs.Probes.{loaded, Probes, Seeks}

-- where the searches for five keys begin
home_of_0 : home 8 0 ≡ 0
unfolding home
home_of_0 = refl

home_of_6 : home 8 6 ≡ 0
unfolding home
home_of_6 = refl

home_of_1 : home 8 1 ≡ 1
unfolding home
home_of_1 = refl

home_of_2 : home 8 2 ≡ 2
unfolding home
home_of_2 = refl

home_of_3 : home 8 3 ≡ 4
unfolding home
home_of_3 = refl

-- the last row is followed by the first
round : (row_above 8 7 ≡ 0) × (way 8 6 1 ≡ 3)
unfolding way
round = (refl, refl)

-- the words of a cell in which the keys 0, 6 and 1 had the rows 0, 1 and 2, and 0 was deleted by clearing its used word alone
abbrev only_cleared : List ℕ
only_cleared = 2 ∷ 0 ∷ 0 ∷ 10 ∷ 1 ∷ 6 ∷ 16 ∷ 1 ∷ 1 ∷ 11 ∷ 0 ∷ 0 ∷ 0 ∷ 0 ∷ 0 ∷ 0 ∷ 0 ∷ 0 ∷ 0 ∷ 0 ∷ 0 ∷ 0 ∷ 0 ∷ 0 ∷ 0 ∷ []

-- they mean no map: the search for 6 begins at row 0, which isn't used
mean_nothing : (m : PlainMap) → Means only_cleared m → ⊥
unfolding home way AreRowsOf
mean_nothing m h = let bad : slice_index only_cleared 1 ≡ 1 = h.rows.reached 1 0 record { below = omega arith; marked = refl } (omega arith) (omega arith) in omega arith

-- a cargo of one cell with eight rows
abbrev eight : MapCargo
eight = record { cells = 1; rows = 8; writes = 3; small = (lit< tt, lit< tt, lit< tt) }

module _ (v : View Part) where
  -- the keys 0, 6 and 1 have the rows 0, 1 and 2: the search for 6 loads five words
  five_loads : Seeks eight v 0 6 (Some 16) (loaded eight v 0 6 16 ∷ loaded eight v 0 5 6 ∷ loaded eight v 0 4 1 ∷ loaded eight v 0 2 0 ∷ loaded eight v 0 1 1 ∷ [])
  unfolding home
  five_loads = inr (inr (0, (λ e. omega arith), loaded eight v 0 6 16 ∷ loaded eight v 0 5 6 ∷ loaded eight v 0 4 1 ∷ [], refl, inr (inl (16, refl, refl))))

  -- 6 and 1 have the rows 0 and 1: the search for 6 loads three words
  three_loads : Seeks eight v 0 6 (Some 16) (loaded eight v 0 3 16 ∷ loaded eight v 0 2 6 ∷ loaded eight v 0 1 1 ∷ [])
  unfolding home
  three_loads = inr (inl (16, refl, refl))

  -- and the search for 3 one
  one_load : Seeks eight v 0 3 None (loaded eight v 0 13 0 ∷ [])
  unfolding home
  one_load = inl (refl, refl)

module _ (c : MapCargo) (v : View Part) (cell key : ℕ) where
  -- a search in so many rows loads at most two words of each, and the value
  few_loads : (row left : ℕ) (got : Option ℕ) (loads : List StepEntry) → Probes c v cell key row left got loads → length loads ≤ 2 * left + 1
  few_loads row zero got loads h = let none : length loads ≡ 0 = ap length h.0 in omega arith
  few_loads row (suc left) got loads h = ⊎_elim
      (λ t. let one : length loads ≡ 1 = ap length t.0 in omega arith)
      (λ t. ⊎_elim
      (λ u. let three : length loads ≡ 3 = ap length u.2 in omega arith)
      (λ u. let less = few_loads (row_above c.rows row) left got u.2 u.4 in let more : length loads ≡ length u.2 + 2 = ap length u.3 ∙ length-append u.2 (loaded c v cell (3 * row + 2) u.0 ∷ loaded c v cell (3 * row + 1) 1 ∷ []) in omega arith)
      t)
      h
