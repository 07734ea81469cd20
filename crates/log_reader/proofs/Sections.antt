-- The lines of queries and replies by sections, and the texts and totals that they make.
use Rattle.std.proofs.Common.{◌≡◌, ℕ, zero, suc, ◌+◌, ◌-◌, ◌<◌, ◌≤◌, ◌==◌, Bool, true, false, cond, List, [], ◌∷◌, ◌++◌, length, map, filter, flat_map, get_or, set, slice_get, Some, count_by, IsPermutation, swap, ◌⊎◌, inl, inr, refl, sym, ap, ◌∙◌, subst, append_assoc, arith, rules, tests}
use Rattle.std.specs.Prelude.{IsSorted}
use Rattle.std.specs.Ordering.{is_lt}
use Rattle.std.specs.List.{AllByRecursion}
use Rattle.std.proofs.lemmas.List.{map-append}
use Rattle.std.proofs.lemmas.List.Concat.{flat_map-append}
use Rattle.std.proofs.lemmas.List.Sums.{sum_by-cons, sum_by-append}
use Rattle.std.proofs.lemmas.List.Elements.{filter-append, recursion_from_All}
use Rattle.std.proofs.lemmas.List.Sorted.{IsPermutation-refl, IsPermutation-sym, IsPermutation-trans, IsPermutation-cons, IsPermutation-middle, sum_by-IsPermutation, IsPermutation-keeps, sorted_far}
use Rattle.query_rules.specs.declared.query.Query.{Query}
use Rattle.query_rules.specs.declared.query.Reply.{Reply}
use Rattle.query_rules.specs.declared.query.Reply.TheVariants.{Placed, Busy, Late, Job}
use Rattle.query_rules.specs.declared.query.Section.{Section}
use Rattle.query_rules.specs.declared.query.Section.TheVariants.{Maps, Jobs}
use Rattle.query_rules.specs.declared.query.Total.{Total}
use Rattle.query_rules.specs.declared.query.Total.TheVariants as total
use Rattle.query_rules.specs.Log.{key_in, spots_with, spots_from, spots_of, asked_at, told_at, line_at, spot_line, spots_text, spot_cmp, refused_line, refused_from, refused_of, is_counted, total_of, totals_of}
use Rattle.log_reader.specs.declared.answered.Answered.{Answered}
use Rattle.log_reader.specs.Listing.{answered_line, line_cmp, section_of, counts, lines_total, lines_totals}
use Rattle.log_reader.specs.LogText.{answered_from, answered_of, IsPaired}
use Rattle.log_reader.proofs.Clean.{all_append, all_weaker}
use Rattle.log_reader.proofs.Orders.{spot_of, IsIn, line_lt, line_order, cmp_false, sorted_tail}

abbrev pub is_in : ℕ → Answered → Bool
is_in k a = section_of a.reply == k

abbrev pub section_lines : ℕ → List Answered → List Answered
section_lines k lines = filter (is_in k) lines

pub section_all : (k : ℕ) (lines : List Answered) → AllByRecursion (IsIn k) (section_lines k lines)
section_all k [] = tt
section_all k (a ∷ lines) = by (is_in k a) refl (section_all k lines)
  where
    by : (b : Bool) → is_in k a ≡ b → AllByRecursion (IsIn k) (section_lines k lines) → AllByRecursion (IsIn k) (cond b (a ∷ section_lines k lines) (section_lines k lines))
    by true h rest = (search (rules, tests, h), rest)
    by false h rest = rest

pub filter_all : (P : Answered → Type 0) (p : Answered → Bool) (lines : List Answered) → AllByRecursion P lines → AllByRecursion P (filter p lines)
filter_all P p [] all = tt
filter_all P p (a ∷ lines) all = by (p a) (filter_all P p lines all.1)
  where
    by : (b : Bool) → AllByRecursion P (filter p lines) → AllByRecursion P (cond b (a ∷ filter p lines) (filter p lines))
    by true rest = (all.0, rest)
    by false rest = rest

-- ---- a filter of the same lines in another order
abbrev Same : (Answered → Bool) → List Answered → List Answered → Type 0
Same p xs ys = IsPermutation (filter p xs) (filter p ys)

same_cons : (p : Answered → Bool) (x : Answered) (xs ys : List Answered) → Same p xs ys → Same p (x ∷ xs) (x ∷ ys)
same_cons p x xs ys h = by (p x)
  where
    by : (b : Bool) → IsPermutation (cond b (x ∷ filter p xs) (filter p xs)) (cond b (x ∷ filter p ys) (filter p ys))
    by true = IsPermutation-cons x _ _ h
    by false = h

same_two : (p : Answered → Bool) (x y : Answered) (xs : List Answered) → Same p (x ∷ y ∷ xs) (y ∷ x ∷ xs)
same_two p x y xs = by (p x) (p y)
  where
    by : (b c : Bool) → IsPermutation (cond b (x ∷ cond c (y ∷ filter p xs) (filter p xs)) (cond c (y ∷ filter p xs) (filter p xs))) (cond c (y ∷ cond b (x ∷ filter p xs) (filter p xs)) (cond b (x ∷ filter p xs) (filter p xs)))
    by true true = IsPermutation-sym _ _ (IsPermutation-middle (y ∷ []) x (filter p xs))
    by true false = IsPermutation-refl _
    by false true = IsPermutation-refl _
    by false false = IsPermutation-refl _

-- x and the member at j change places
same_first : (p : Answered → Bool) (x d : Answered) (xs : List Answered) (j : ℕ) → j < length xs → Same p (x ∷ xs) (get_or xs j d ∷ set xs j x)
same_first p x d [] j lt = absurd (omega (arith, lt))
same_first p x d (y ∷ ys) zero lt = same_two p x y ys
same_first p x d (y ∷ ys) (suc j) lt =
    let z : Answered = get_or ys j d in
    IsPermutation-trans _ _ _ (same_two p x y ys)
    (IsPermutation-trans _ _ _ (same_cons p y (x ∷ ys) (z ∷ set ys j x) (same_first p x d ys j (omega (arith, lt)))) (same_two p y z (set ys j x)))

abbrev moved : Answered → List Answered → ℕ → ℕ → List Answered
moved d l i j = set (set l i (get_or l j d)) j (get_or l i d)

same_swap : (p : Answered → Bool) (d : Answered) (l : List Answered) (i j : ℕ) → i < length l → j < length l → Same p l (moved d l i j)
same_swap p d [] i j a b = absurd (omega (arith, a))
same_swap p d (x ∷ xs) zero zero a b = IsPermutation-refl _
same_swap p d (x ∷ xs) zero (suc j) a b = same_first p x d xs j (omega (arith, b))
same_swap p d (x ∷ xs) (suc i) zero a b = same_first p x d xs i (omega (arith, a))
same_swap p d (x ∷ xs) (suc i) (suc j) a b = same_cons p x xs (moved d xs i j) (same_swap p d xs i j (omega (arith, a)) (omega (arith, b)))

swap_same : (p : Answered → Bool) (l : List Answered) (i j : ℕ) → i < length l → j < length l → Same p l (swap l i j)
swap_same p [] i j a b = absurd (omega (arith, a))
swap_same p (x ∷ xs) i j a b = same_swap p x (x ∷ xs) i j a b

pub filter_moved : (p : Answered → Bool) (xs ys : List Answered) → IsPermutation xs ys → IsPermutation (filter p xs) (filter p ys)
filter_moved p xs ys h = IsPermutation-keeps xs (λ l. Same p xs l) (IsPermutation-refl (filter p xs)) (λ l i j a b before. IsPermutation-trans _ _ _ before (swap_same p l i j a b)) ys h

-- ---- the sections of lines
abbrev put : ℕ → Answered → Reply → List Answered → List Answered
put k a r lines = cond (section_of r == k) (a ∷ lines) lines

sections_cons : (a : Answered) (r : Reply) (lines f0 f1 f2 : List Answered) → IsPermutation lines (f0 ++ (f1 ++ f2)) → IsPermutation (a ∷ lines) (put 0 a r f0 ++ (put 1 a r f1 ++ put 2 a r f2))
sections_cons a (Placed place said) lines f0 f1 f2 h = IsPermutation-cons a _ _ h
sections_cons a Busy lines f0 f1 f2 h = IsPermutation-trans _ _ _ (IsPermutation-cons a _ _ h) (IsPermutation-sym _ _ (IsPermutation-middle f0 a (f1 ++ f2)))
sections_cons a (Late now) lines f0 f1 f2 h = IsPermutation-trans _ _ _ (IsPermutation-cons a _ _ h) (IsPermutation-sym _ _ (IsPermutation-middle f0 a (f1 ++ f2)))
sections_cons a (Job at result) lines f0 f1 f2 h =
    let h2 : IsPermutation lines ((f0 ++ f1) ++ f2) = subst (IsPermutation lines) (sym (append_assoc f0 f1 f2)) h in
    subst (IsPermutation (a ∷ lines)) (append_assoc f0 f1 (a ∷ f2)) (IsPermutation-trans _ _ _ (IsPermutation-cons a _ _ h2) (IsPermutation-sym _ _ (IsPermutation-middle (f0 ++ f1) a f2)))

pub sections_moved : (lines : List Answered) → IsPermutation lines (section_lines 0 lines ++ (section_lines 1 lines ++ section_lines 2 lines))
sections_moved [] = IsPermutation-refl []
sections_moved (a ∷ lines) = sections_cons a a.reply lines _ _ _ (sections_moved lines)

section_none : (k : ℕ) (lines : List Answered) → AllByRecursion (λ b. k < section_of b.reply) lines → section_lines k lines ≡ []
section_none k [] all = refl
section_none k (a ∷ lines) all =
    let other : is_in k a ≡ false = grind (arith, tests, all.0) in
    ap (λ b. cond b (a ∷ section_lines k lines) (section_lines k lines)) other ∙ section_none k lines all.1

rising_le : (a b : Answered) → line_lt b a ≡ false → section_of a.reply ≤ section_of b.reply
rising_le a b h = by (cmp_false (section_of b.reply) (section_of a.reply) _ h)
  where
    by : (section_of a.reply < section_of b.reply) ⊎ ((section_of b.reply ≡ section_of a.reply) × (is_lt (spot_cmp (spot_of b) (spot_of a)) ≡ false)) → section_of a.reply ≤ section_of b.reply
    by (inl p) = omega (arith, p)
    by (inr p) = let same = p.0 in omega (arith, same)

later_sections : (a : Answered) (lines : List Answered) → IsSorted line_cmp (a ∷ lines) → AllByRecursion (λ b. section_of a.reply ≤ section_of b.reply) lines
later_sections a lines up =
    recursion_from_All (λ b. section_of a.reply ≤ section_of b.reply) lines (λ k d lt. rising_le a (get_or lines k d) (sorted_far line_lt line_order (a ∷ lines) up 0 (suc k) d (omega arith) (omega (arith, lt))))

above : (k m : ℕ) (lines : List Answered) → k < m → AllByRecursion (λ b. m ≤ section_of b.reply) lines → AllByRecursion (λ b. k < section_of b.reply) lines
above k m [] lt all = tt
above k m (b ∷ lines) lt all = (let h = all.0 in omega (arith, lt, h), above k m lines lt all.1)

whole_cons : (a : Answered) (r : Reply) (lines : List Answered) → AllByRecursion (λ b. section_of r ≤ section_of b.reply) lines → lines ≡ section_lines 0 lines ++ (section_lines 1 lines ++ section_lines 2 lines)
    → a ∷ lines ≡ put 0 a r (section_lines 0 lines) ++ (put 1 a r (section_lines 1 lines) ++ put 2 a r (section_lines 2 lines))
whole_cons a (Placed place said) lines all h = ap (λ l. a ∷ l) h
whole_cons a Busy lines all h =
    let none = section_none 0 lines (above 0 1 lines (omega arith) all) in
    ap (λ l. a ∷ l) (h ∙ ap (λ l. l ++ (section_lines 1 lines ++ section_lines 2 lines)) none) ∙ ap (λ l. l ++ (a ∷ (section_lines 1 lines ++ section_lines 2 lines))) (sym none)
whole_cons a (Late now) lines all h =
    let none = section_none 0 lines (above 0 1 lines (omega arith) all) in
    ap (λ l. a ∷ l) (h ∙ ap (λ l. l ++ (section_lines 1 lines ++ section_lines 2 lines)) none) ∙ ap (λ l. l ++ (a ∷ (section_lines 1 lines ++ section_lines 2 lines))) (sym none)
whole_cons a (Job at result) lines all h =
    let none = section_none 0 lines (above 0 2 lines (omega arith) all) in
    let gone = section_none 1 lines (above 1 2 lines (omega arith) all) in
    ap (λ l. a ∷ l) (h ∙ ap (λ l. l ++ (section_lines 1 lines ++ section_lines 2 lines)) none ∙ ap (λ l. l ++ section_lines 2 lines) gone)
    ∙ ap (λ l. l ++ (a ∷ section_lines 2 lines)) (sym gone) ∙ ap (λ l. l ++ (section_lines 1 lines ++ (a ∷ section_lines 2 lines))) (sym none)

-- lines in order are their sections, one behind the other
pub sections_whole : (lines : List Answered) → IsSorted line_cmp lines → lines ≡ section_lines 0 lines ++ (section_lines 1 lines ++ section_lines 2 lines)
sections_whole [] up = refl
sections_whole (a ∷ lines) up = whole_cons a a.reply lines (later_sections a lines up) (sections_whole lines (sorted_tail a lines up))

-- ---- the spots of a section are those of its lines
abbrev pub number_of_section : Section → ℕ
number_of_section Maps = 0
number_of_section Jobs = 2

with_kept : (section : Section) (caller index : ℕ) (q : Query) (r : Reply) (later : List Answered)
    → spots_with (key_in section r) caller index (map spot_of later) ≡ map spot_of (put (number_of_section section) (record { caller = caller; index = index; query = q; reply = r }) r later)
with_kept Maps caller index q (Placed place said) later = refl
with_kept Maps caller index q Busy later = refl
with_kept Maps caller index q (Late now) later = refl
with_kept Maps caller index q (Job at result) later = refl
with_kept Jobs caller index q (Placed place said) later = refl
with_kept Jobs caller index q Busy later = refl
with_kept Jobs caller index q (Late now) later = refl
with_kept Jobs caller index q (Job at result) later = refl

spots_from_lines : (section : Section) (c i : ℕ) (qs : List Query) (rs : List Reply) → length qs ≡ length rs → spots_from section c i rs ≡ map spot_of (section_lines (number_of_section section) (answered_from c i qs rs))
spots_from_lines section c i [] [] same = refl
spots_from_lines section c i [] (r ∷ rs) same = absurd (omega (arith, same))
spots_from_lines section c i (q ∷ qs) [] same = absurd (omega (arith, same))
spots_from_lines section c i (q ∷ qs) (r ∷ rs) same =
    ap (spots_with (key_in section r) c i) (spots_from_lines section c (i + 1) qs rs (omega (arith, same)))
    ∙ with_kept section c i q r (section_lines (number_of_section section) (answered_from c (i + 1) qs rs))

pub spots_of_lines : (section : Section) (c : ℕ) (asked : List (List Query)) (told : List (List Reply)) → IsPaired asked told → spots_of section c told ≡ map spot_of (section_lines (number_of_section section) (answered_of c asked told))
spots_of_lines section c [] [] paired = refl
spots_of_lines section c [] (rs ∷ told) paired = absurd paired
spots_of_lines section c (qs ∷ asked) [] paired = absurd paired
spots_of_lines section c (qs ∷ asked) (rs ∷ told) paired =
    let k : ℕ = number_of_section section in
    let first : List Answered = answered_from c 0 qs rs in
    let later : List Answered = answered_of (c + 1) asked told in
    ap (λ l. l ++ spots_of section (c + 1) told) (spots_from_lines section c 0 qs rs paired.0)
    ∙ ap (λ l. map spot_of (section_lines k first) ++ l) (spots_of_lines section (c + 1) asked told paired.1)
    ∙ sym (map-append spot_of (section_lines k first) (section_lines k later))
    ∙ ap (map spot_of) (sym (filter-append (is_in k) first later))

-- ---- the refused lines
abbrev text : List Answered → List ℕ
text lines = flat_map answered_line lines

refused_kept : (c i : ℕ) (q : Query) (r : Reply) (later : List Answered) → refused_line c i q r ++ text later ≡ text (put 1 (record { caller = c; index = i; query = q; reply = r }) r later)
unfolding answered_line
refused_kept c i q (Placed place said) later = refl
refused_kept c i q Busy later = refl
refused_kept c i q (Late now) later = refl
refused_kept c i q (Job at result) later = refl

refused_from_lines : (c i : ℕ) (qs : List Query) (rs : List Reply) → refused_from c i qs rs ≡ text (section_lines 1 (answered_from c i qs rs))
refused_from_lines c i [] rs = refl
refused_from_lines c i (q ∷ qs) [] = refl
refused_from_lines c i (q ∷ qs) (r ∷ rs) =
    ap (λ t. refused_line c i q r ++ t) (refused_from_lines c (i + 1) qs rs) ∙ refused_kept c i q r (section_lines 1 (answered_from c (i + 1) qs rs))

pub refused_of_lines : (c : ℕ) (asked : List (List Query)) (told : List (List Reply)) → refused_of c asked told ≡ text (section_lines 1 (answered_of c asked told))
refused_of_lines c [] told = refl
refused_of_lines c (qs ∷ asked) [] = refl
refused_of_lines c (qs ∷ asked) (rs ∷ told) =
    let first : List Answered = answered_from c 0 qs rs in
    let later : List Answered = answered_of (c + 1) asked told in
    ap (λ t. t ++ refused_of (c + 1) asked told) (refused_from_lines c 0 qs rs)
    ∙ ap (λ t. text (section_lines 1 first) ++ t) (refused_of_lines (c + 1) asked told)
    ∙ sym (flat_map-append answered_line (section_lines 1 first) (section_lines 1 later))
    ∙ ap text (sym (filter-append (is_in 1) first later))

-- ---- the lines of spots
pub record IsAt (asked : List (List Query)) (told : List (List Reply)) (a : Answered) : Type 0 where
  pub asks : asked_at asked (spot_of a) ≡ Some a.query
  pub tells : told_at told (spot_of a) ≡ Some a.reply

-- the line stands in lists that begin at this index
record IsFrom (i : ℕ) (qs : List Query) (rs : List Reply) (a : Answered) : Type 0 where
  past : i ≤ a.index
  asks : slice_get qs (a.index - i) ≡ Some a.query
  tells : slice_get rs (a.index - i) ≡ Some a.reply

one_later : (i : ℕ) (q : Query) (r : Reply) (qs : List Query) (rs : List Reply) (a : Answered) → IsFrom (i + 1) qs rs a → IsFrom i (q ∷ qs) (r ∷ rs) a
one_later i q r qs rs a h =
    let past = h.past in
    let next : a.index - i ≡ suc (a.index - (i + 1)) = omega (arith, past) in
    record { past = omega (arith, past); asks = ap (slice_get (q ∷ qs)) next ∙ h.asks; tells = ap (slice_get (r ∷ rs)) next ∙ h.tells }

from_at : (c i : ℕ) (qs : List Query) (rs : List Reply) → AllByRecursion (IsFrom i qs rs) (answered_from c i qs rs)
from_at c i [] rs = tt
from_at c i (q ∷ qs) [] = tt
from_at c i (q ∷ qs) (r ∷ rs) =
    let none : i - i ≡ 0 = omega arith in (
      record { past = omega arith; asks = ap (slice_get (q ∷ qs)) none; tells = ap (slice_get (r ∷ rs)) none },
      all_weaker (IsFrom (i + 1) qs rs) (IsFrom i (q ∷ qs) (r ∷ rs)) (one_later i q r qs rs) (answered_from c (i + 1) qs rs) (from_at c (i + 1) qs rs),
    )

from_caller : (c i : ℕ) (qs : List Query) (rs : List Reply) → AllByRecursion (λ a. a.caller ≡ c) (answered_from c i qs rs)
from_caller c i [] rs = tt
from_caller c i (q ∷ qs) [] = tt
from_caller c i (q ∷ qs) (r ∷ rs) = (refl, from_caller c (i + 1) qs rs)

-- the line stands in lists that begin at this caller
record IsOf (c : ℕ) (asked : List (List Query)) (told : List (List Reply)) (a : Answered) : Type 0 where
  past : c ≤ a.caller
  asks : slice_get (get_or asked (a.caller - c) []) a.index ≡ Some a.query
  tells : slice_get (get_or told (a.caller - c) []) a.index ≡ Some a.reply

list_later : (c : ℕ) (qs : List Query) (rs : List Reply) (asked : List (List Query)) (told : List (List Reply)) (a : Answered) → IsOf (c + 1) asked told a → IsOf c (qs ∷ asked) (rs ∷ told) a
list_later c qs rs asked told a h =
    let past = h.past in
    let next : a.caller - c ≡ suc (a.caller - (c + 1)) = omega (arith, past) in
    record {
      past = omega (arith, past);
      asks = ap (λ n. slice_get (get_or (qs ∷ asked) n []) a.index) next ∙ h.asks;
      tells = ap (λ n. slice_get (get_or (rs ∷ told) n []) a.index) next ∙ h.tells;
    }

list_here : (c : ℕ) (qs : List Query) (rs : List Reply) (asked : List (List Query)) (told : List (List Reply)) (a : Answered) → a.caller ≡ c → IsFrom 0 qs rs a → IsOf c (qs ∷ asked) (rs ∷ told) a
list_here c qs rs asked told a same h =
    let none : a.caller - c ≡ 0 = omega (arith, same) in
    let all : a.index - 0 ≡ a.index = omega arith in
    record {
      past = omega (arith, same);
      asks = ap (λ n. slice_get (get_or (qs ∷ asked) n []) a.index) none ∙ ap (slice_get qs) (sym all) ∙ h.asks;
      tells = ap (λ n. slice_get (get_or (rs ∷ told) n []) a.index) none ∙ ap (slice_get rs) (sym all) ∙ h.tells;
    }

list_all_here : (c : ℕ) (qs : List Query) (rs : List Reply) (asked : List (List Query)) (told : List (List Reply)) (lines : List Answered) → AllByRecursion (λ a. a.caller ≡ c) lines → AllByRecursion (IsFrom 0 qs rs) lines → AllByRecursion (IsOf c (qs ∷ asked) (rs ∷ told)) lines
list_all_here c qs rs asked told [] same all = tt
list_all_here c qs rs asked told (a ∷ lines) same all = (list_here c qs rs asked told a same.0 all.0, list_all_here c qs rs asked told lines same.1 all.1)

of_at : (c : ℕ) (asked : List (List Query)) (told : List (List Reply)) → AllByRecursion (IsOf c asked told) (answered_of c asked told)
of_at c [] told = tt
of_at c (qs ∷ asked) [] = tt
of_at c (qs ∷ asked) (rs ∷ told) =
    all_append (IsOf c (qs ∷ asked) (rs ∷ told)) (answered_from c 0 qs rs) (answered_of (c + 1) asked told)
    (list_all_here c qs rs asked told (answered_from c 0 qs rs) (from_caller c 0 qs rs) (from_at c 0 qs rs))
    (all_weaker (IsOf (c + 1) asked told) (IsOf c (qs ∷ asked) (rs ∷ told)) (list_later c qs rs asked told) (answered_of (c + 1) asked told) (of_at (c + 1) asked told))

at_of : (asked : List (List Query)) (told : List (List Reply)) (a : Answered) → IsOf 0 asked told a → IsAt asked told a
at_of asked told a h =
    let all : a.caller - 0 ≡ a.caller = omega arith in
    record { asks = ap (λ n. slice_get (get_or asked n []) a.index) (sym all) ∙ h.asks; tells = ap (λ n. slice_get (get_or told n []) a.index) (sym all) ∙ h.tells }

-- each line of the lists is the one of its spot
pub lines_at : (asked : List (List Query)) (told : List (List Reply)) → AllByRecursion (IsAt asked told) (answered_of 0 asked told)
lines_at asked told = all_weaker (IsOf 0 asked told) (IsAt asked told) (at_of asked told) (answered_of 0 asked told) (of_at 0 asked told)

pub spots_text_is : (asked : List (List Query)) (told : List (List Reply)) (lines : List Answered) → AllByRecursion (IsAt asked told) lines → spots_text asked told (map spot_of lines) ≡ text lines
unfolding spots_text spot_line answered_line
spots_text_is asked told [] all = refl
spots_text_is asked told (a ∷ lines) all =
    ap (λ o. line_at (spot_of a) o (told_at told (spot_of a)) ++ spots_text asked told (map spot_of lines)) all.0.asks
    ∙ ap (λ o. line_at (spot_of a) (Some a.query) o ++ spots_text asked told (map spot_of lines)) all.0.tells
    ∙ ap (λ t. answered_line a ++ t) (spots_text_is asked told lines all.1)

-- ---- the totals
from_total : (t : Total) (c i : ℕ) (qs : List Query) (rs : List Reply) → length qs ≡ length rs → lines_total t (answered_from c i qs rs) ≡ count_by (is_counted t) rs
from_total t c i [] [] same = refl
from_total t c i [] (r ∷ rs) same = absurd (omega (arith, same))
from_total t c i (q ∷ qs) [] same = absurd (omega (arith, same))
from_total t c i (q ∷ qs) (r ∷ rs) same =
    let a : Answered = record { caller = c; index = i; query = q; reply = r } in
    let rest = from_total t c (i + 1) qs rs (omega (arith, same)) in
    sum_by-cons (λ (x : Answered). cond (counts t x) 1 0) a (answered_from c (i + 1) qs rs)
    ∙ ap (λ n. cond (is_counted t r) 1 0 + n) rest ∙ sym (sum_by-cons (λ (x : Reply). cond (is_counted t x) 1 0) r rs)

of_total : (t : Total) (c : ℕ) (asked : List (List Query)) (told : List (List Reply)) → IsPaired asked told → lines_total t (answered_of c asked told) ≡ total_of t told
of_total t c [] [] paired = refl
of_total t c [] (rs ∷ told) paired = absurd paired
of_total t c (qs ∷ asked) [] paired = absurd paired
of_total t c (qs ∷ asked) (rs ∷ told) paired =
    sum_by-append (λ (x : Answered). cond (counts t x) 1 0) (answered_from c 0 qs rs) (answered_of (c + 1) asked told)
    ∙ ap (λ n. n + lines_total t (answered_of (c + 1) asked told)) (from_total t c 0 qs rs paired.0)
    ∙ ap (λ n. count_by (is_counted t) rs + n) (of_total t (c + 1) asked told paired.1)
    ∙ sym (sum_by-cons (count_by (is_counted t)) rs told)

pub totals_are : (asked : List (List Query)) (told : List (List Reply)) (lines : List Answered) → IsPaired asked told → IsPermutation (answered_of 0 asked told) lines → totals_of told ≡ lines_totals lines
totals_are asked told lines paired each = λ i. (total.Queries, e total.Queries i) ∷ (total.Writes, e total.Writes i) ∷ (total.Reads, e total.Reads i) ∷ (total.Refused, e total.Refused i) ∷ (total.Jobs, e total.Jobs i) ∷ []
  where
    e : (t : Total) → total_of t told ≡ lines_total t lines
    e t = sym (sum_by-IsPermutation (λ (x : Answered). cond (counts t x) 1 0) (answered_of 0 asked told) lines each ∙ of_total t 0 asked told paired)
