-- How far it is from row to row.
use Rattle.std.proofs.Common.{◌≡◌, ◌≢◌, ◌<◌, ◌≤◌, ◌+◌, ◌⊎◌, ℕ, cond, ap, ⊎_elim, inl, inr, eq-eqb, ne_eqb, arith}
use mathlib.Core.Logic.{dite}
use native.Mathlib.Decide.{ℕ_discrete}
use Rattle.std.proofs.Math.Decide.{dec_lt}
use Rattle.std.proofs.lemmas.Bool.Decides.{nat_tests}
use Rattle.map_cargo.specs.Rows.{home, way, row_above}

pub home_below : (rows key : ℕ) → 0 < rows → home rows key < rows
unfolding home
home_below rows key some = omega arith

pub way_cases : (rows a b : ℕ) → a < rows → b < rows → ((a ≤ b) × (way rows a b + a ≡ b)) ⊎ ((b < a) × (way rows a b + a ≡ b + rows))
unfolding way
way_cases rows a b low low' = dite (dec_lt b a) (λ h. inr (h, grind (arith, nat_tests))) (λ h. inl (omega arith, grind (arith, nat_tests)))

pub above_cases : (rows r : ℕ) → ((r + 1 ≡ rows) × (row_above rows r ≡ 0)) ⊎ ((r + 1 ≢ rows) × (row_above rows r ≡ r + 1))
above_cases rows r = dite (ℕ_discrete (r + 1) rows) (λ h. inl (h, ap (λ b. cond b 0 (r + 1)) (eq-eqb (r + 1) rows h))) (λ h. inr (h, ap (λ b. cond b 0 (r + 1)) (ne_eqb (r + 1) rows h)))

below_case : (rows r n : ℕ) → r < rows → ((r + 1 ≡ rows) × (n ≡ 0)) ⊎ ((r + 1 ≢ rows) × (n ≡ r + 1)) → n < rows
below_case rows r n low t = ⊎_elim (λ u. omega arith) (λ u. omega arith) t

pub above_below : (rows r : ℕ) → r < rows → row_above rows r < rows
above_below rows r low = below_case rows r (row_above rows r) low (above_cases rows r)

pub way_self : (rows a : ℕ) → a < rows → way rows a a ≡ 0
way_self rows a low = ⊎_elim (λ t. omega arith) (λ t. omega arith) (way_cases rows a a low low)

pub way_below : (rows a b : ℕ) → a < rows → b < rows → way rows a b < rows
way_below rows a b la lb = ⊎_elim (λ t. omega arith) (λ t. omega arith) (way_cases rows a b la lb)

pub way_same : (rows a b c : ℕ) → a < rows → b < rows → c < rows → way rows a b ≡ way rows a c → b ≡ c
way_same rows a b c la lb lc e = ⊎_elim
    (λ t. ⊎_elim (λ u. omega arith) (λ u. omega arith) (way_cases rows a c la lc))
    (λ t. ⊎_elim (λ u. omega arith) (λ u. omega arith) (way_cases rows a c la lc))
    (way_cases rows a b la lb)

-- one row further on, or once round
next_case : (rows a b n : ℕ) → a < rows → b < rows → ((b + 1 ≡ rows) × (n ≡ 0)) ⊎ ((b + 1 ≢ rows) × (n ≡ b + 1)) → (way rows a n ≡ way rows a b + 1) ⊎ (way rows a b + 1 ≡ rows)
next_case rows a b n la lb t = dite (ℕ_discrete n a)
    (λ same. inr (⊎_elim (λ u. ⊎_elim (λ w. omega arith) (λ w. omega arith) (way_cases rows a b la lb)) (λ u. ⊎_elim (λ w. omega arith) (λ w. omega arith) (way_cases rows a b la lb)) t))
    (λ ne. let ln : n < rows = below_case rows b n lb t in inl (⊎_elim
    (λ u. ⊎_elim (λ w. ⊎_elim (λ x. omega arith) (λ x. omega arith) (way_cases rows a n la ln)) (λ w. omega arith) (way_cases rows a b la lb))
    (λ u. ⊎_elim (λ w. ⊎_elim (λ x. omega arith) (λ x. omega arith) (way_cases rows a n la ln)) (λ w. ⊎_elim (λ x. omega arith) (λ x. omega arith) (way_cases rows a n la ln)) (way_cases rows a b la lb))
    t))

pub way_next : (rows a b : ℕ) → a < rows → b < rows → (way rows a (row_above rows b) ≡ way rows a b + 1) ⊎ (way rows a b + 1 ≡ rows)
way_next rows a b la lb = next_case rows a b (row_above rows b) la lb (above_cases rows b)

pub way_on : (rows a b c : ℕ) → a < rows → b < rows → c < rows → way rows a b ≤ way rows a c → way rows b c + way rows a b ≡ way rows a c
way_on rows a b c la lb lc le = ⊎_elim
    (λ t. ⊎_elim (λ u. ⊎_elim (λ w. omega arith) (λ w. omega arith) (way_cases rows b c lb lc)) (λ u. ⊎_elim (λ w. omega arith) (λ w. omega arith) (way_cases rows b c lb lc)) (way_cases rows a c la lc))
    (λ t. ⊎_elim (λ u. ⊎_elim (λ w. omega arith) (λ w. omega arith) (way_cases rows b c lb lc)) (λ u. ⊎_elim (λ w. omega arith) (λ w. omega arith) (way_cases rows b c lb lc)) (way_cases rows a c la lc))
    (way_cases rows a b la lb)

-- A way from h that comes over g to r but doesn't come to u: from g it is farther to u than to r
pub beyond : (rows h g r u : ℕ) → h < rows → g < rows → r < rows → u < rows → way rows h r < way rows h u → way rows h g ≤ way rows h r → way rows g r < way rows g u
beyond rows h g r u lh lg lr lu less over = let x = way_on rows h g r lh lg lr over in let y = way_on rows h g u lh lg lu (omega arith) in omega arith
