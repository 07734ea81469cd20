-- The order of lines: by section, then as their spots, and what a section of lines in order keeps.
use Rattle.std.proofs.Common.{◌≡◌, ℕ, zero, suc, ◌+◌, ◌^◌, ◌<◌, ◌≤◌, Bool, true, false, ◌⊎◌, inl, inr, List, [], ◌∷◌, ◌++◌, length, map, filter, get_or, AllPairs, refl, sym, ap, ◌∙◌, subst, arith, rules, Less, Equal, Greater}
use Rattle.std.specs.Prelude.{IsSorted}
use Rattle.std.specs.declared.cmp.Ordering.{Ordering}
use Rattle.std.specs.Ordering.{nat_cmp, ordering_then, is_lt}
use Rattle.std.specs.List.{AllByRecursion}
use Rattle.std.specs.List.Sorted.{IsNonDecreasingBy}
use Rattle.std.specs.Cmp.{IsStrictWeakOrder, nat_cmp_total, ranks}
use Rattle.std.specs.Ordering.{MatchOrdering}
use Rattle.std.proofs.lemmas.List.{length-map, get_or-map}
use Rattle.std.proofs.lemmas.List.Sorted.{ranks_by, sorted_far}
use Rattle.std.proofs.lemmas.List.Elements.{All-from_recursion}
use Rattle.std.proofs.lemmas.List.Kept.{AllPairs-cons, AllPairs-filter, IsSortedBy-filter}
use Rattle.query_rules.specs.declared.query.Spot.{Spot}
use Rattle.query_rules.specs.Log.{spot_cmp}
use Rattle.log_reader.specs.declared.answered.Answered.{Answered}
use Rattle.log_reader.specs.Listing.{IsWritable, section_of, key_of, line_cmp}
use Rattle.log_reader.specs.Grouping.{slot}
use Rattle.log_reader.proofs.Unique.{Rises}
use Rattle.query_text.proofs.PackedOrder.{then_false}

-- ---- a first number decides, or where it ties the rest does
less_false : (o r : Ordering) (m n : ℕ) → MatchOrdering o (m < n) (m ≡ n) (n < m) → is_lt (ordering_then o r) ≡ false → (n < m) ⊎ ((m ≡ n) × (is_lt r ≡ false))
less_false Less r m n k h = absurd (search (rules, h))
less_false Equal r m n k h = inr (k, h)
less_false Greater r m n k h = inl k

less_true : (o r : Ordering) (m n : ℕ) → MatchOrdering o (m < n) (m ≡ n) (n < m) → is_lt (ordering_then o r) ≡ true → (m < n) ⊎ ((m ≡ n) × (is_lt r ≡ true))
less_true Less r m n k h = inl k
less_true Equal r m n k h = inr (k, h)
less_true Greater r m n k h = absurd (search (rules, h))

pub cmp_false : (m n : ℕ) (r : Ordering) → is_lt (ordering_then (nat_cmp m n) r) ≡ false → (n < m) ⊎ ((m ≡ n) × (is_lt r ≡ false))
cmp_false m n r h = less_false (nat_cmp m n) r m n (ranks m n) h

pub cmp_above : (m n : ℕ) (r : Ordering) → n < m → is_lt (ordering_then (nat_cmp m n) r) ≡ false
cmp_above m n r lt = then_false (nat_cmp m n) r m n (ranks m n) (omega (arith, lt)) (λ same. absurd (omega (arith, lt, same)))

pub cmp_tied : (m n : ℕ) (r : Ordering) → m ≡ n → is_lt r ≡ false → is_lt (ordering_then (nat_cmp m n) r) ≡ false
cmp_tied m n r same h = then_false (nat_cmp m n) r m n (ranks m n) (omega (arith, same)) (λ _. h)

module _ {X : Type 0} (f : X → ℕ) (R : X → X → Ordering) (o : IsStrictWeakOrder (λ x y. is_lt (R x y))) where
  then_one_way : (x y : X) → is_lt (ordering_then (nat_cmp (f x) (f y)) (R x y)) ≡ true → is_lt (ordering_then (nat_cmp (f y) (f x)) (R y x)) ≡ false
  then_one_way x y h = elim (less_true (nat_cmp (f x) (f y)) (R x y) (f x) (f y) (ranks (f x) (f y)) h) [
    | inl lt ↦ cmp_above (f y) (f x) (R y x) lt
    | inr p ↦ cmp_tied (f y) (f x) (R y x) (sym p.0) (o.one_way x y p.1)
  ]

  then_chain : (x y z : X) → is_lt (ordering_then (nat_cmp (f x) (f y)) (R x y)) ≡ false → is_lt (ordering_then (nat_cmp (f y) (f z)) (R y z)) ≡ false → is_lt (ordering_then (nat_cmp (f x) (f z)) (R x z)) ≡ false
  then_chain x y z a b = by (cmp_false (f x) (f y) (R x y) a) (cmp_false (f y) (f z) (R y z) b)
    where
      by : (f y < f x) ⊎ ((f x ≡ f y) × (is_lt (R x y) ≡ false)) → (f z < f y) ⊎ ((f y ≡ f z) × (is_lt (R y z) ≡ false)) → is_lt (ordering_then (nat_cmp (f x) (f z)) (R x z)) ≡ false
      by (inl p) (inl q) = cmp_above (f x) (f z) (R x z) (omega (arith, p, q))
      by (inl p) (inr q) = let same = q.0 in cmp_above (f x) (f z) (R x z) (omega (arith, p, same))
      by (inr p) (inl q) = let same = p.0 in cmp_above (f x) (f z) (R x z) (omega (arith, same, q))
      by (inr p) (inr q) = cmp_tied (f x) (f z) (R x z) (p.0 ∙ q.0) (o.chain x y z p.1 q.1)

  pub then_order : IsStrictWeakOrder (λ x y. is_lt (ordering_then (nat_cmp (f x) (f y)) (R x y)))
  then_order = record { one_way = then_one_way; chain = then_chain }

abbrev by_index : Answered → Answered → Ordering
by_index a b = nat_cmp a.index b.index

abbrev by_caller : Answered → Answered → Ordering
by_caller a b = ordering_then (nat_cmp a.caller b.caller) (by_index a b)

abbrev by_key : Answered → Answered → Ordering
by_key a b = ordering_then (nat_cmp (key_of a.reply) (key_of b.reply)) (by_caller a b)

abbrev pub line_lt : Answered → Answered → Bool
line_lt a b = is_lt (line_cmp a b)

pub line_order : IsStrictWeakOrder line_lt
line_order =
    then_order (λ a. section_of a.reply) by_key (then_order (λ a. key_of a.reply) by_caller (then_order (λ a. a.caller) by_index (ranks_by nat_cmp_total (λ a. a.index))))

-- ---- lines of one section are in the order of their spots
abbrev pub spot_of : Answered → Spot
spot_of a = record { key = key_of a.reply; caller = a.caller; index = a.index }

level : (n : ℕ) → nat_cmp n n ≡ Equal
level n = by (nat_cmp n n) (ranks n n)
  where
    by : (o : Ordering) → MatchOrdering o (n < n) (n ≡ n) (n < n) → o ≡ Equal
    by Less k = absurd (omega (arith, k))
    by Equal k = refl
    by Greater k = absurd (omega (arith, k))

pub same_section : (a b : Answered) → section_of a.reply ≡ section_of b.reply → line_cmp a b ≡ spot_cmp (spot_of a) (spot_of b)
same_section a b same =
    ap (λ n. ordering_then (nat_cmp n (section_of b.reply)) (by_key a b)) same
    ∙ ap (λ o. ordering_then o (by_key a b)) (level (section_of b.reply))

abbrev pub IsIn : ℕ → Answered → Type 0
IsIn k a = section_of a.reply ≡ k

spare_spot : Spot
spare_spot = record { key = 0; caller = 0; index = 0 }

-- the spots of lines of one section, from the lines
pub spots_sorted : (k : ℕ) (lines : List Answered) → AllByRecursion (IsIn k) lines → IsSorted line_cmp lines → IsSorted spot_cmp (map spot_of lines)
spots_sorted k [] all up i d low lt = absurd (omega (arith, lt))
spots_sorted k (x ∷ xs) all up i d low lt =
    let lines : List Answered = x ∷ xs in
    let n : length (map spot_of lines) ≡ length lines = length-map lines spot_of in
    let within : i + 1 < length lines = omega (arith, n, lt) in
    let in_all = All-from_recursion (IsIn k) lines all in
    let later = in_all (i + 1) x within in
    let first = in_all i x (omega (arith, within)) in
    let a : get_or (map spot_of lines) (i + 1) d ≡ spot_of (get_or lines (i + 1) x) = get_or-map spot_of lines (i + 1) x d within in
    let b : get_or (map spot_of lines) i d ≡ spot_of (get_or lines i x) = get_or-map spot_of lines i x d (omega (arith, within)) in
    rw (a, b) (sym (ap is_lt (same_section (get_or lines (i + 1) x) (get_or lines i x) (later ∙ sym first))) ∙ up i x low within)

-- and the lines, from their spots
pub lines_sorted : (k : ℕ) (lines : List Answered) → AllByRecursion (IsIn k) lines → IsSorted spot_cmp (map spot_of lines) → IsSorted line_cmp lines
lines_sorted k lines all up i d low within =
    let n : length (map spot_of lines) ≡ length lines = length-map lines spot_of in
    let in_all = All-from_recursion (IsIn k) lines all in
    let later = in_all (i + 1) d within in
    let first = in_all i d (omega (arith, within)) in
    let a : get_or (map spot_of lines) (i + 1) spare_spot ≡ spot_of (get_or lines (i + 1) d) = get_or-map spot_of lines (i + 1) d spare_spot within in
    let b : get_or (map spot_of lines) i spare_spot ≡ spot_of (get_or lines i d) = get_or-map spot_of lines i d spare_spot (omega (arith, within)) in
    ap is_lt (same_section (get_or lines (i + 1) d) (get_or lines i d) (later ∙ sym first))
    ∙ sym (ap (λ s. is_lt (spot_cmp s (spot_of (get_or lines i d)))) a) ∙ sym (ap (λ s. is_lt (spot_cmp (get_or (map spot_of lines) (i + 1) spare_spot) s)) b) ∙ up i spare_spot low (omega (arith, n, within))

-- ---- refusals have no key: their order is that of callers and indexes
abbrev pub IsRefusalLine : Answered → Type 0
IsRefusalLine a = (section_of a.reply ≡ 1) × (key_of a.reply ≡ 0) × IsWritable a

slot_before : (a b : Answered) → IsRefusalLine a → IsRefusalLine b → slot a < slot b → line_lt b a ≡ false
slot_before a b ra rb lt =
    let ia = ra.2.index in
    let ib = rb.2.index in
    cmp_tied (section_of b.reply) (section_of a.reply) (by_key b a) (rb.0 ∙ sym ra.0)
    (cmp_tied (key_of b.reply) (key_of a.reply) (by_caller b a) (rb.1 ∙ sym ra.1) (by (order a.caller b.caller)))
  where
    order : (m n : ℕ) → (m < n) ⊎ ((m ≡ n) ⊎ (n < m))
    order m n = split (nat_cmp m n) (ranks m n)
      where
        split : (o : Ordering) → MatchOrdering o (m < n) (m ≡ n) (n < m) → (m < n) ⊎ ((m ≡ n) ⊎ (n < m))
        split Less k = inl k
        split Equal k = inr (inl k)
        split Greater k = inr (inr k)

    plain : (m n : ℕ) → n ≤ m → is_lt (nat_cmp m n) ≡ false
    plain m n le = split (nat_cmp m n) (ranks m n)
      where
        split : (o : Ordering) → MatchOrdering o (m < n) (m ≡ n) (n < m) → is_lt o ≡ false
        split Less k = absurd (omega (arith, k, le))
        split Equal k = refl
        split Greater k = refl

    by : (a.caller < b.caller) ⊎ ((a.caller ≡ b.caller) ⊎ (b.caller < a.caller)) → is_lt (by_caller b a) ≡ false
    by (inl p) = cmp_above b.caller a.caller (by_index b a) p
    by (inr (inl p)) = cmp_tied b.caller a.caller (by_index b a) (sym p) (plain b.index a.index (let h : a.index ≤ b.index = omega (arith, p, lt) in h))
    by (inr (inr p)) = absurd (let ib : b.index < 2 ^ 64 = rb.2.index in omega (arith, p, lt, ib))

slot_after : (a b : Answered) → IsRefusalLine a → IsRefusalLine b → line_lt b a ≡ false → slot a ≤ slot b
slot_after a b ra rb h = by (cmp_false (section_of b.reply) (section_of a.reply) (by_key b a) h)
  where
    last : (m n : ℕ) → is_lt (nat_cmp m n) ≡ false → n ≤ m
    last m n e = split (nat_cmp m n) (ranks m n) e
      where
        split : (o : Ordering) → MatchOrdering o (m < n) (m ≡ n) (n < m) → is_lt o ≡ false → n ≤ m
        split Less k e = absurd (search (rules, e))
        split Equal k e = omega (arith, k)
        split Greater k e = omega (arith, k)

    by_last : (a.caller < b.caller) ⊎ ((b.caller ≡ a.caller) × (is_lt (by_index b a) ≡ false)) → slot a ≤ slot b
    by_last (inl p) = let ia : a.index < 2 ^ 64 = ra.2.index in omega (arith, p, ia)
    by_last (inr p) = let same = p.0 in let le = last b.index a.index p.1 in omega (arith, same, le)

    by_second : (key_of a.reply < key_of b.reply) ⊎ ((key_of b.reply ≡ key_of a.reply) × (is_lt (by_caller b a) ≡ false)) → slot a ≤ slot b
    by_second (inl p) = absurd (let x = ra.1 in let y = rb.1 in omega (arith, p, x, y))
    by_second (inr p) = by_last (cmp_false b.caller a.caller (by_index b a) p.1)

    by : (section_of a.reply < section_of b.reply) ⊎ ((section_of b.reply ≡ section_of a.reply) × (is_lt (by_key b a) ≡ false)) → slot a ≤ slot b
    by (inl p) = absurd (let x = ra.0 in let y = rb.0 in omega (arith, p, x, y))
    by (inr p) = by_second (cmp_false (key_of b.reply) (key_of a.reply) (by_caller b a) p.1)

rising_pairs : (lines : List Answered) → Rises lines → AllPairs (λ a b. slot a < slot b) lines
rising_pairs [] up = λ i j d lt within. absurd (omega (arith, within))
rising_pairs (x ∷ xs) up = AllPairs-cons (λ a b. slot a < slot b) x xs (All-from_recursion (λ b. slot x < slot b) xs up.0) (rising_pairs xs up.1)

-- some of the lines by caller and index, where they are refusals
pub refusals_sorted : (p : Answered → Bool) (lines : List Answered) → Rises lines → AllByRecursion IsRefusalLine (filter p lines) → IsSorted line_cmp (filter p lines)
refusals_sorted p lines up all i d low within =
    let pairs = AllPairs-filter (λ a b. slot a < slot b) p lines (rising_pairs lines up) in
    let in_all = All-from_recursion IsRefusalLine (filter p lines) all in
    slot_before (get_or (filter p lines) i d) (get_or (filter p lines) (i + 1) d) (in_all i d (omega (arith, within))) (in_all (i + 1) d within) (pairs i (i + 1) d (omega arith) within)

pub refusals_rise : (lines : List Answered) → AllByRecursion IsRefusalLine lines → IsSorted line_cmp lines → IsNonDecreasingBy slot lines
refusals_rise lines all up i j d le within =
    let in_all = All-from_recursion IsRefusalLine lines all in
    slot_after (get_or lines i d) (get_or lines j d) (in_all i d (omega (arith, le, within))) (in_all j d within) (sorted_far line_lt line_order lines up i j d le within)

pub filter_sorted : (p : Answered → Bool) (lines : List Answered) → IsSorted line_cmp lines → IsSorted line_cmp (filter p lines)
filter_sorted p lines up = IsSortedBy-filter line_lt line_order p lines up

-- ---- one sorted list behind another
next_is : (i : ℕ) → suc i + 1 ≡ suc (i + 1)
next_is i = omega arith

pub sorted_tail : (x : Answered) (xs : List Answered) → IsSorted line_cmp (x ∷ xs) → IsSorted line_cmp xs
sorted_tail x xs up i d low within = subst (λ n. line_lt (get_or (x ∷ xs) n d) (get_or xs i d) ≡ false) (next_is i) (up (suc i) d (omega arith) (omega (arith, within)))

sorted_cons : (x : Answered) (xs : List Answered) → AllByRecursion (λ b. line_lt b x ≡ false) xs → IsSorted line_cmp xs → IsSorted line_cmp (x ∷ xs)
sorted_cons x [] all up i d low within = absurd (omega (arith, within))
sorted_cons x (y ∷ ys) all up zero d low within = all.0
sorted_cons x (y ∷ ys) all up (suc i) d low within = subst (λ n. line_lt (get_or (x ∷ y ∷ ys) n d) (get_or (y ∷ ys) i d) ≡ false) (sym (next_is i)) (up i d (omega arith) (omega (arith, within)))

-- the second is not below the first
sorted_next : (x z : Answered) (xs : List Answered) → line_lt z x ≡ false → IsSorted line_cmp (z ∷ xs) → IsSorted line_cmp (x ∷ z ∷ xs)
sorted_next x z xs h up zero d low within = h
sorted_next x z xs h up (suc i) d low within = subst (λ n. line_lt (get_or (x ∷ z ∷ xs) n d) (get_or (z ∷ xs) i d) ≡ false) (sym (next_is i)) (up i d (omega arith) (omega (arith, within)))

pub sorted_append : (xs ys : List Answered) → AllByRecursion (λ x. AllByRecursion (λ b. line_lt b x ≡ false) ys) xs → IsSorted line_cmp xs → IsSorted line_cmp ys → IsSorted line_cmp (xs ++ ys)
sorted_append [] ys cross ux uy = uy
sorted_append (x ∷ []) ys cross ux uy = sorted_cons x ys cross.0 uy
sorted_append (x ∷ z ∷ xs) ys cross ux uy = sorted_next x z (xs ++ ys) (ux 0 x (omega arith) (omega arith)) (sorted_append (z ∷ xs) ys cross.1 (sorted_tail x (z ∷ xs) ux) uy)

-- lines of an earlier section stand before those of a later one
pub cross_sections : (k m : ℕ) (xs ys : List Answered) → k < m → AllByRecursion (IsIn k) xs → AllByRecursion (λ b. m ≤ section_of b.reply) ys → AllByRecursion (λ x. AllByRecursion (λ b. line_lt b x ≡ false) ys) xs
cross_sections k m [] ys lt ax ay = tt
cross_sections k m (x ∷ xs) ys lt ax ay = (each ys ay, cross_sections k m xs ys lt ax.1 ay)
  where
    each : (zs : List Answered) → AllByRecursion (λ b. m ≤ section_of b.reply) zs → AllByRecursion (λ b. line_lt b x ≡ false) zs
    each [] az = tt
    each (z ∷ zs) az =
        let here = ax.0 in
        let there = az.0 in
        (cmp_above (section_of z.reply) (section_of x.reply) (by_key z x) (omega (arith, lt, here, there)), each zs az.1)
