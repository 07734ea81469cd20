-- The walks: the search for a key, and for a row that may stand in a gap.
use Rattle.std.proofs.Common.{◌≡◌, ◌≢◌, ◌<◌, ◌≤◌, ◌+◌, ◌⊎◌, ℕ, List, sym, ap, ◌∙◌, subst, [], ◌∷◌, ◌++◌, append_assoc, ⊎_elim, inl, inr, arith, refl}
use mathlib.Core.Logic.{dite}
use native.Mathlib.Decide.{ℕ_discrete}
use Rattle.std.proofs.Math.Decide.{dec_lt}
use Rattle.query_rules.specs.Maps.{PlainMap}
use Rattle.map_cargo.specs.Rows.{home, way, way_to, row_above, used_at, key_at, IsUsed, IsFree, Passed, Closing, LookedAt, Kept, Moved, IsNext, Closes}
use Rattle.map_cargo.proofs.Ways.{home_below, way_below, way_same, way_self, way_next, beyond}

-- a walk from a row: so many rows were looked at, and this is the next one, or it came once round
pub goes_on : (rows a row d : ℕ) → a < rows → row < rows → way rows a row ≡ d → (way rows a (row_above rows row) ≡ d + 1) ⊎ (d + 1 ≡ rows)
goes_on rows a row d la lr at = ⊎_elim (λ e. inl (omega arith)) (λ e. inr (omega arith)) (way_next rows a row la lr)

pub at_row : (rows a row d : ℕ) → (way rows a row ≡ d) ⊎ (d ≡ rows) → d < rows → way rows a row ≡ d
at_row rows a row d t low = ⊎_elim (λ e. e) (λ e. absurd (omega arith)) t

pub begins : (rows key : ℕ) → 0 < rows → way rows (home rows key) (home rows key) ≡ 0
begins rows key some = way_self rows (home rows key) (home_below rows key some)

pub steps_off : (rows gap : ℕ) → gap < rows → (way rows gap (row_above rows gap) ≡ 1) ⊎ (1 ≡ rows)
steps_off rows gap low = goes_on rows gap gap 0 low low (way_self rows gap low)

module _ (rows : ℕ) (words : List ℕ) where
  pub looked_none : (key : ℕ) → LookedAt rows words key 0
  looked_none key r low less = absurd (omega arith)

  pub looked_more : (key row d : ℕ) → row < rows → way rows (home rows key) row ≡ d → IsUsed rows words row → key_at words row ≢ key → LookedAt rows words key d → LookedAt rows words key (d + 1)
  looked_more key row d lr at used other looked r low less = dite (ℕ_discrete r row)
      (λ same. (record { below = low; marked = ap (used_at words) same ∙ used.marked }, λ e. other (sym (ap (key_at words) same) ∙ e)))
      (λ ne. looked r low (dite (ℕ_discrete (way rows (home rows key) r) d)
      (λ e. absurd (ne (way_same rows (home rows key) r row (home_below rows key (omega arith)) low lr (e ∙ sym at))))
      (λ off. omega arith)))

  pub kept_none : (gap : ℕ) → gap < rows → Kept rows words gap 1
  kept_none gap lg r low ne less = absurd (ne (way_same rows gap r gap lg low lg (let x = way_self rows gap lg in omega arith)))

  pub kept_more : (gap row d : ℕ) → gap < rows → row < rows → row ≢ gap → way rows gap row ≡ d → IsUsed rows words row → way_to rows words row ≤ way rows (home rows (key_at words row)) gap → Kept rows words gap d → Kept rows words gap (d + 1)
  kept_more gap row d lg lr far at used over kept r low ne less = dite (ℕ_discrete r row)
      (λ same.
      let h : ℕ = home rows (key_at words row) in
      let off : way rows h row ≢ way rows h gap = λ e. far (way_same rows h row gap (home_below rows (key_at words row) (omega arith)) lr lg e) in
      let short : way_to rows words row < way rows h gap = omega (arith, off) in
      subst (λ (z : ℕ). IsUsed rows words z × (way_to rows words z < way rows (home rows (key_at words z)) gap)) (sym same) (used, short))
      (λ ne'. kept r low ne (dite (ℕ_discrete (way rows gap r) d)
      (λ e. absurd (ne' (way_same rows gap r row lg low lr (e ∙ sym at))))
      (λ off. omega arith)))

  pub off_gap : (gap row d : ℕ) → gap < rows → way rows gap row ≡ d → 1 ≤ d → row ≢ gap
  off_gap gap row d lg at some e = let x = ap (way rows gap) e in let y = way_self rows gap lg in omega arith

  -- the walk may end at a row that isn't used: no row needs the gap
  pub passed_at_end : (m : PlainMap) (gap u d : ℕ) → Closing rows words m gap → Kept rows words gap d → way rows gap u ≡ d → u ≢ gap → IsFree rows words u → Passed rows words gap
  passed_at_end m gap u d h kept at ne free r used = dite (dec_lt (way_to rows words r) (way rows (home rows (key_at words r)) gap)) (λ less. less)
      (λ no.
      let h0 : ℕ = home rows (key_at words r) in
      let start : h0 < rows = home_below rows (key_at words r) (let x = used.below in omega arith) in
      let far : r ≢ gap = λ e. (let x = ap (used_at words) e in let y = used.marked in let z = h.free.unmarked in omega arith) in
      let near : way rows gap r < way rows gap u = beyond rows h0 gap r u start h.free.below used.below free.below (h.reached u free ne r used) (omega arith) in
      (kept r used.below far (omega arith)).1)

  -- and where it came once round
  pub passed_round : (m : PlainMap) (gap : ℕ) → Closing rows words m gap → Kept rows words gap rows → Passed rows words gap
  passed_round m gap h kept r used =
      let far : r ≢ gap = λ e. (let x = ap (used_at words) e in let y = used.marked in let z = h.free.unmarked in omega arith) in
      (kept r used.below far (way_below rows gap r h.free.below used.below)).1

-- rows that moved into gaps, from words with one gap to words with another: whatever moves complete them complete the whole
pub record Moves (rows : ℕ) (words : List ℕ) (gap : ℕ) (words' : List ℕ) (gap' : ℕ) : Type 0 where
  pub done : List ℕ
  pub rest : (more left : List ℕ) → Closes rows words' gap' more left → Closes rows words gap (done ++ more) left

pub moves_none : (rows : ℕ) (words : List ℕ) (gap : ℕ) → Moves rows words gap words gap
moves_none rows words gap = record { done = []; rest = λ more left h. h }

pub moves_more : (rows : ℕ) (words : List ℕ) (gap : ℕ) (words' : List ℕ) (gap' from : ℕ) (next : List ℕ) → Moves rows words gap words' gap' → IsNext rows words' gap' from → Moved words' next from gap' → Moves rows words gap next from
moves_more rows words gap words' gap' from next h is moved = record {
  done = h.done ++ (from ∷ []);
  rest = λ more left end. subst (λ (l : List ℕ). Closes rows words gap l left) (sym (append_assoc h.done (from ∷ []) more)) (h.rest (from ∷ more) left (is, next, moved, end));
}

pub moves_end : (rows : ℕ) (words : List ℕ) (gap : ℕ) (words' : List ℕ) (gap' : ℕ) → Moves rows words gap words' gap' → Passed rows words' gap' → (moves : List ℕ) × Closes rows words gap moves words'
moves_end rows words gap words' gap' h passed = (h.done ++ [], h.rest [] words' (refl, passed))
