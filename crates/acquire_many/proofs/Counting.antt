-- How many wants were tried for, so that the steps of their tries have a bound.
use Rattle.std.specs.Prelude.{◌≡◌, ℕ, zero, suc, ◌+◌, ◌*◌, ◌<◌, ◌≤◌, Bool, true, false, ltb, List, [], ◌∷◌, length}
use Rattle.std.proofs.Common.{ap, ⊎_elim, arith}
use Rattle.std.proofs.lemmas.Bool.{cases_lt, lt-ltb, le-ltb}
use Rattle.std.proofs.Math.Nat.{mul-le-mul_left, mul-suc}
use Rattle.acquire_many.specs.Wants.{Want, lock_at}

abbrev one_if : Bool → ℕ
one_if true = 1
one_if false = 0

-- how many wants have locks below this
abbrev pub below : List Want → ℕ → ℕ
below [] from = 0
below (x ∷ xs) from = one_if (ltb x.0 from) + below xs from

one_at_most : (b : Bool) → one_if b ≤ 1
one_at_most true = omega arith
one_at_most false = omega arith

pub below_few : (wants : List Want) (from : ℕ) → below wants from ≤ length wants
below_few [] from = omega arith
below_few (x ∷ xs) from = omega (arith, one_at_most (ltb x.0 from), below_few xs from)

is_one : (a from : ℕ) → a < from → one_if (ltb a from) ≡ 1
is_one a from lt = ap one_if (lt-ltb a from lt)

is_none : (a from : ℕ) → from ≤ a → one_if (ltb a from) ≡ 0
is_none a from ge = ap one_if (le-ltb a from ge)

one_more : (a from to : ℕ) → from ≤ to → one_if (ltb a from) ≤ one_if (ltb a to)
one_more a from to le = ⊎_elim (λ lt. let b : a < to = omega (arith, lt, le) in omega (arith, is_one a from lt, is_one a to b)) (λ ge. omega (arith, is_none a from ge)) (cases_lt a from)

below_more : (wants : List Want) (from to : ℕ) → from ≤ to → below wants from ≤ below wants to
below_more [] from to le = omega arith
below_more (x ∷ xs) from to le = omega (arith, one_more x.0 from to le, below_more xs from to le)

-- one want more
pub below_next : (wants : List Want) (from to k : ℕ) → k < length wants → from ≤ lock_at wants k → lock_at wants k < to → below wants from + 1 ≤ below wants to
below_next [] from to k near low high = absurd (omega (arith, near))
below_next (x ∷ xs) from to zero near low high =
    let le : from ≤ to = omega (arith, low, high) in omega (arith, is_none x.0 from low, is_one x.0 to high, below_more xs from to le)
below_next (x ∷ xs) from to (suc k) near low high =
    let le : from ≤ to = omega (arith, low, high) in omega (arith, one_more x.0 from to le, below_next xs from to k (omega (arith, near)) low high)

-- the steps of one try more
pub steps_next : (each a b steps now next : ℕ) → a + 1 ≤ b → now ≤ steps + each * a → next ≤ now + each → next ≤ steps + each * b
steps_next each a b steps now next le few last =
    let up : suc a ≤ b = omega (arith, le) in let more : each * suc a ≤ each * b = mul-le-mul_left each up in omega (arith, more, few, last, mul-suc each a)

-- so many tries at most
pub steps_all : (each a b steps now : ℕ) → a ≤ b → now ≤ steps + each * a → now ≤ steps + each * b
steps_all each a b steps now le few = let more : each * a ≤ each * b = mul-le-mul_left each le in omega (arith, more, few)
