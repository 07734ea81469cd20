-- Two lists of the same lines, both in the order of callers and indexes, are one.
use Rattle.std.proofs.Common.{◌≡◌, ℕ, ◌+◌, ◌*◌, ◌<◌, ◌≤◌, ◌^◌, false, List, [], ◌∷◌, ◌++◌, length, map, get_or, refl, sym, ap, ◌∙◌, subst, arith, rules, tests, ◌⊎◌, inl, inr, eqb, Less}
use Rattle.std.specs.List.{AllByRecursion, IsDistinct}
use Rattle.std.specs.Ordering.{nat_cmp}
use Rattle.std.specs.List.Sorted.{IsPermutation, IsNonDecreasing, IsNonDecreasingBy, IsStrictlySortedBy}
use Rattle.std.proofs.lemmas.List.{length-map, get_or-map}
use Rattle.std.proofs.lemmas.List.Sorted.{All-permutation, IsPermutation-sym, IsPermutation-map}
use Rattle.std.proofs.lemmas.List.Elements.{recursion_from_All, All-from_recursion}
use Rattle.std.proofs.lemmas.Map.Keys.{IsDistinct-cons, IsDistinct-IsPermutation, sorted_head, sorted_tail, sorted_from_strictly_increasing, IsStrictlyIncreasing-from_distinct}
use Rattle.query_rules.specs.declared.query.Query.TheVariants.{Get}
use Rattle.query_rules.specs.declared.query.Reply.TheVariants.{Busy}
use Rattle.query_rules.specs.declared.query.Query.{Query}
use Rattle.query_rules.specs.declared.query.Reply.{Reply}
use Rattle.log_reader.specs.declared.answered.Answered.{Answered}
use Rattle.log_reader.specs.Listing.{IsWritable}
use Rattle.log_reader.specs.LogText.{answered_from, answered_of}
use Rattle.log_reader.specs.Grouping.{slot}
use Rattle.log_reader.proofs.Clean.{all_append, all_weaker}

-- each line's number is below those of the later ones
abbrev pub Rises : List Answered → Type 0
Rises [] = Unit {0}
Rises (a ∷ lines) = AllByRecursion (λ b. slot a < slot b) lines × Rises lines

abbrev pub In : Answered → List Answered → Type 0
In x [] = ⊥
In x (y ∷ ys) = (y ≡ x) ⊎ In x ys

above : (n : ℕ) (x : Answered) (xs : List Answered) → AllByRecursion (λ b. n < slot b) xs → In x xs → n < slot x
above n x [] all inside = absurd inside
above n x (y ∷ ys) all (inl e) = let same : slot y ≡ slot x = ap slot e in let h = all.0 in omega (arith, same, h)
above n x (y ∷ ys) all (inr h) = above n x ys all.1 h

shrink : (f : Answered) (fs xs : List Answered) → AllByRecursion (λ b. slot f < slot b) xs → AllByRecursion (λ x. In x (f ∷ fs)) xs → AllByRecursion (λ x. In x fs) xs
shrink f fs [] up all = tt
shrink f fs (x ∷ xs) up all = (elim (all.0) [ inl e ↦ absurd (let same : slot f ≡ slot x = ap slot e in let h = up.0 in omega (arith, same, h)) | inr h ↦ h ], shrink f fs xs up.1 all.1)

first_same : (e f : Answered) (es fs : List Answered) → AllByRecursion (λ b. slot e < slot b) es → AllByRecursion (λ b. slot f < slot b) fs → In e (f ∷ fs) → In f (e ∷ es) → e ≡ f
first_same e f es fs up down (inl h) there = sym h
first_same e f es fs up down (inr h) (inl k) = k
first_same e f es fs up down (inr h) (inr k) = absurd (let x = above (slot f) e fs down h in let y = above (slot e) f es up k in omega (arith, x, y))

pub same_rising : (es fs : List Answered) → Rises es → Rises fs → AllByRecursion (λ x. In x fs) es → AllByRecursion (λ x. In x es) fs → es ≡ fs
same_rising [] [] re rf ef fe = refl
same_rising [] (f ∷ fs) re rf ef fe = absurd fe.0
same_rising (e ∷ es) [] re rf ef fe = absurd ef.0
same_rising (e ∷ es) (f ∷ fs) re rf ef fe =
    let first = first_same e f es fs re.0 rf.0 ef.0 fe.0 in
    let up : AllByRecursion (λ b. slot f < slot b) es = subst (λ z. AllByRecursion (λ b. slot z < slot b) es) first re.0 in
    let down : AllByRecursion (λ b. slot e < slot b) fs = subst (λ z. AllByRecursion (λ b. slot z < slot b) fs) (sym first) rf.0 in
    let more = same_rising es fs re.1 rf.1 (shrink f fs es up ef.1) (shrink e es fs down fe.1) in
    ap (λ z. z ∷ es) first ∙ ap (λ zs. f ∷ zs) more

-- ---- the lines of lists rise
pub all_parts : (P : Answered → Type 0) (xs ys : List Answered) → AllByRecursion P (xs ++ ys) → AllByRecursion P xs × AllByRecursion P ys
all_parts P [] ys all = (tt, all)
all_parts P (x ∷ xs) ys all = let more = all_parts P xs ys all.1 in ((all.0, more.0), more.1)

rises_append : (n : ℕ) (xs ys : List Answered) → AllByRecursion (λ b. slot b < n) xs → AllByRecursion (λ b. n ≤ slot b) ys → Rises xs → Rises ys → Rises (xs ++ ys)
rises_append n [] ys low high rx ry = ry
rises_append n (x ∷ xs) ys low high rx ry =
    let lt : slot x < n = low.0 in
    (all_append (λ b. slot x < slot b) xs ys rx.0 (all_weaker (λ b. n ≤ slot b) (λ b. slot x < slot b) (λ b h. omega (arith, lt, h)) ys high), rises_append n xs ys low.1 high rx.1 ry)

up_from : (c i : ℕ) (qs : List Query) (rs : List Reply) → AllByRecursion IsWritable (answered_from c i qs rs)
    → AllByRecursion (λ b. c * 2 ^ 64 + i ≤ slot b) (answered_from c i qs rs) × AllByRecursion (λ b. slot b < (c + 1) * 2 ^ 64) (answered_from c i qs rs) × Rises (answered_from c i qs rs)
up_from c i [] rs fits = (tt, tt, tt)
up_from c i (q ∷ qs) [] fits = (tt, tt, tt)
up_from c i (q ∷ qs) (r ∷ rs) fits =
    let more = up_from c (i + 1) qs rs fits.1 in
    let index : i < 2 ^ 64 = fits.0.index in
    let later = all_weaker (λ b. c * 2 ^ 64 + (i + 1) ≤ slot b) (λ b. c * 2 ^ 64 + i < slot b) (λ b h. omega (arith, h)) (answered_from c (i + 1) qs rs) more.0 in
    let least = all_weaker (λ b. c * 2 ^ 64 + (i + 1) ≤ slot b) (λ b. c * 2 ^ 64 + i ≤ slot b) (λ b h. omega (arith, h)) (answered_from c (i + 1) qs rs) more.0 in
    ((omega arith, least), (omega (arith, index), more.1), (later, more.2))

up_of : (c : ℕ) (asked : List (List Query)) (told : List (List Reply)) → AllByRecursion IsWritable (answered_of c asked told)
    → AllByRecursion (λ b. c * 2 ^ 64 ≤ slot b) (answered_of c asked told) × Rises (answered_of c asked told)
up_of c [] told fits = (tt, tt)
up_of c (qs ∷ asked) [] fits = (tt, tt)
up_of c (qs ∷ asked) (rs ∷ told) fits =
    let parts = all_parts IsWritable (answered_from c 0 qs rs) (answered_of (c + 1) asked told) fits in
    let first = up_from c 0 qs rs parts.0 in
    let more = up_of (c + 1) asked told parts.1 in
    let low = all_weaker (λ b. c * 2 ^ 64 + 0 ≤ slot b) (λ b. c * 2 ^ 64 ≤ slot b) (λ b h. omega (arith, h)) (answered_from c 0 qs rs) first.0 in
    let high = all_weaker (λ b. (c + 1) * 2 ^ 64 ≤ slot b) (λ b. c * 2 ^ 64 ≤ slot b) (λ b h. omega (arith, h)) (answered_of (c + 1) asked told) more.0 in (
      all_append (λ b. c * 2 ^ 64 ≤ slot b) (answered_from c 0 qs rs) (answered_of (c + 1) asked told) low high,
      rises_append ((c + 1) * 2 ^ 64) (answered_from c 0 qs rs) (answered_of (c + 1) asked told) first.1 more.0 first.2 more.1,
    )

pub lists_rise : (asked : List (List Query)) (told : List (List Reply)) → AllByRecursion IsWritable (answered_of 0 asked told) → Rises (answered_of 0 asked told)
lists_rise asked told fits = (up_of 0 asked told fits).1

-- ---- the same lines in another order
in_self : (xs : List Answered) → AllByRecursion (λ x. In x xs) xs
in_self [] = tt
in_self (x ∷ xs) = (inl refl, all_weaker (λ y. In y xs) (λ y. In y (x ∷ xs)) (λ y h. inr h) xs (in_self xs))

pub all_moved : (P : Answered → Type 0) (xs ys : List Answered) → IsPermutation xs ys → AllByRecursion P xs → AllByRecursion P ys
all_moved P xs ys moved all = recursion_from_All P ys (All-permutation P xs ys moved (All-from_recursion P xs all))

pub moved_rising : (xs ys : List Answered) → IsPermutation xs ys → Rises xs → Rises ys → xs ≡ ys
moved_rising xs ys moved up down =
    same_rising xs ys up down
    (all_moved (λ x. In x ys) ys xs (IsPermutation-sym xs ys moved) (in_self ys))
    (all_moved (λ x. In x xs) xs ys moved (in_self xs))

distinct_slots : (xs : List Answered) → Rises xs → IsDistinct eqb (map slot xs)
unfolding IsDistinct
distinct_slots [] up = tt
distinct_slots (x ∷ xs) up = IsDistinct-cons eqb (slot x) (map slot xs) (apart xs up.0) (distinct_slots xs up.1)
  where
    apart : (ys : List Answered) → AllByRecursion (λ b. slot x < slot b) ys → AllByRecursion (λ n. eqb (slot x) n ≡ false) (map slot ys)
    apart [] all = tt
    apart (y ∷ ys) all = (grind (arith, tests, all.0), apart ys all.1)

flips : (x y : ℕ) → eqb x y ≡ eqb y x
flips x y = grind (arith, tests)

spare : Answered
spare = record { caller = 0; index = 0; query = Get 0 0; reply = Busy }

slots_up : (ys : List Answered) → IsNonDecreasingBy slot ys → IsNonDecreasing (map slot ys)
slots_up ys up i j d le lt =
    let n : length (map slot ys) ≡ length ys = length-map ys slot in
    let low : get_or (map slot ys) i d ≡ slot (get_or ys i spare) = get_or-map slot ys i spare d (omega (arith, n, le, lt)) in
    let high : get_or (map slot ys) j d ≡ slot (get_or ys j spare) = get_or-map slot ys j spare d (omega (arith, n, lt)) in
    let h = up i j spare le (omega (arith, n, lt)) in
    rw (low, high) h

rises_back : (ys : List Answered) → IsStrictlySortedBy nat_cmp (map slot ys) → Rises ys
rises_back [] up = tt
rises_back (y ∷ ys) up = (below ys (sorted_head nat_cmp (slot y) (map slot ys) up), rises_back ys (sorted_tail nat_cmp (slot y) (map slot ys) up))
  where
    below : (zs : List Answered) → AllByRecursion (λ n. nat_cmp (slot y) n ≡ Less) (map slot zs) → AllByRecursion (λ b. slot y < slot b) zs
    below [] all = tt
    below (z ∷ zs) all = (search (rules, tests, all.0), below zs all.1)

-- what a sort makes of the lines of lists are those lines
pub sorted_lines : (xs ys : List Answered) → IsPermutation xs ys → IsNonDecreasingBy slot ys → Rises xs → xs ≡ ys
sorted_lines xs ys moved up rising =
    let apart = IsDistinct-IsPermutation eqb flips (map slot xs) (map slot ys) (IsPermutation-map slot xs ys moved) (distinct_slots xs rising) in
    let strict = sorted_from_strictly_increasing (map slot ys) (IsStrictlyIncreasing-from_distinct (map slot ys) (slots_up ys up) apart) in
    moved_rising xs ys moved rising (rises_back ys strict)
