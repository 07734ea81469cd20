-- Each number below the number of seats is covered by exactly one pass.
use Rattle.std.specs.Prelude.{◌≡◌, ℕ, ◌+◌, cond, nat_lt, List}
use Rattle.view_sums.specs.Sums.{total, same}
use Rattle.hall.specs.declared.view.View.{View}

-- 1 where x is one of the n numbers from a on, and else 0
abbrev pub within : ℕ → ℕ → ℕ → ℕ
within x a n = cond (nat_lt x a) 0 (cond (nat_lt x (a + n)) 1 0)

module _ {P : Type 0} where
  -- how often the pass covers the number x
  abbrev pub covers : ℕ → View P → ℕ
  covers x v = within x v.number v.span + total (λ r. within x r.0 r.1) v.taken

  -- how often x is the pass's number or was taken in with a pass, so that steps may have been made under it
  abbrev pub owns : ℕ → View P → ℕ
  owns x v = same x v.number + total (λ r. within x r.0 r.1) v.taken

  -- how many numbers the pass covers
  abbrev pub width : View P → ℕ
  width v = v.span + total (λ r. r.1) v.taken

  pub record Numbered (seats : ℕ) (views : List (View P)) : Type 0 where
    pub once : (x : ℕ) → total (covers x) views ≡ within x 0 seats
    pub all : total width views ≡ seats
