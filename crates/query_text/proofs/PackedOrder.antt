-- Packed spots stand in the order of what they say.
use Rattle.std.proofs.Common.{◌≡◌, ℕ, ◌+◌, ◌/◌, ◌%◌, ◌<◌, ◌≤◌, false, List, length, get_or, refl, ◌∙◌, arith, Less, Equal, Greater}
use Rattle.std.specs.Prelude.{IsSorted}
use Rattle.std.specs.declared.cmp.Ordering.{Ordering}
use Rattle.std.specs.Ordering.{nat_cmp, ordering_then, is_lt, MatchOrdering}
use Rattle.std.specs.Cmp.{ranks}
use Rattle.std.proofs.lemmas.List.{length-map, get_or-map}
use Rattle.std.proofs.lemmas.List.Sorted.{IsNonDecreasingBy-from_sort}
use Rattle.query_rules.specs.Log.{spot_cmp}
use Rattle.query_text.specs.declared.packed.PackedSpot.{PackedSpot}
use Rattle.query_text.specs.Packed.{spot_in, spots_in, packed_cmp}

-- a number that isn't less decides, or where it ties the rest does
pub then_false : (o r : Ordering) (m n : ℕ) → MatchOrdering o (m < n) (m ≡ n) (n < m) → n ≤ m → (m ≡ n → is_lt r ≡ false) → is_lt (ordering_then o r) ≡ false
then_false Less r m n k le tied = absurd (omega (arith, k, le))
then_false Equal r m n k le tied = tied k
then_false Greater r m n k le tied = refl

last_false : (o : Ordering) (m n : ℕ) → MatchOrdering o (m < n) (m ≡ n) (n < m) → n ≤ m → is_lt o ≡ false
last_false Less m n k le = absurd (omega (arith, k, le))
last_false Equal m n k le = refl
last_false Greater m n k le = refl

key_up : (a b : ℕ) → b ≤ a → b / 67108864 ≤ a / 67108864
key_up a b le = omega (arith, le)

caller_up : (a b : ℕ) → b ≤ a → a / 67108864 ≡ b / 67108864 → b / 1048576 % 64 ≤ a / 1048576 % 64
caller_up a b le key = omega (arith, le, key)

index_up : (a b : ℕ) → b ≤ a → a / 67108864 ≡ b / 67108864 → a / 1048576 % 64 ≡ b / 1048576 % 64 → b % 1048576 ≤ a % 1048576
index_up a b le key caller = omega (arith, le, key, caller)

not_less : (a b : PackedSpot) → b.number ≤ a.number → is_lt (spot_cmp (spot_in a) (spot_in b)) ≡ false
not_less a b le =
    let key = (spot_in a).key in
    let key' = (spot_in b).key in
    let caller = (spot_in a).caller in
    let caller' = (spot_in b).caller in
    let index = (spot_in a).index in
    let index' = (spot_in b).index in
    then_false (nat_cmp key key') _ key key' (ranks key key') (key_up a.number b.number le) (λ same.
    then_false (nat_cmp caller caller') _ caller caller' (ranks caller caller') (caller_up a.number b.number le same) (λ tied.
    last_false (nat_cmp index index') index index' (ranks index index') (index_up a.number b.number le same tied)))

pub packed_sorted : (packed : List PackedSpot) → IsSorted packed_cmp packed → IsSorted spot_cmp (spots_in packed)
packed_sorted packed sorted = λ k d low lt.
    let zero : PackedSpot = record { number = 0 } in
    let long = length-map packed spot_in in
    let here : k + 1 < length packed = omega (arith, lt, long) in
    let at : k < length packed = omega (arith, here) in
    let up = IsNonDecreasingBy-from_sort (λ (p : PackedSpot). p.number) packed sorted k (k + 1) zero (omega arith) here in
    (λ i. is_lt (spot_cmp (get_or-map spot_in packed (k + 1) zero d here i) (get_or-map spot_in packed k zero d at i)))
    ∙ not_less (get_or packed (k + 1) zero) (get_or packed k zero) up
