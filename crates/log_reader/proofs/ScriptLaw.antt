-- A log's script is one that a text determines.
use Rattle.std.proofs.Common.{◌≡◌, ℕ, ◌+◌, ◌<◌, ◌≤◌, Bool, true, List, [], ◌∷◌, ◌++◌, length, sum_by, nat_le, nat_lt, refl, arith, rules, tests, length-append}
use Rattle.std.specs.List.{AllByRecursion, list_all}
use Rattle.std.proofs.lemmas.Bool.{and_parts}
use Rattle.std.proofs.lemmas.List.Sorted.{IsPermutation-sym, length_permutation}
use Rattle.std.proofs.lemmas.List.Sums.{sum_by-cons}
use Rattle.query_rules.specs.declared.query.Query.{Query}
use Rattle.query_rules.specs.declared.query.Reply.{Reply}
use Rattle.query_rules.specs.Grammar.{Asked, IsScript, TakesBelow, cells_of}
use Rattle.log_reader.specs.declared.answered.Answered.{Answered}
use Rattle.log_reader.specs.LogText.{answered_from, answered_of, IsPaired, IsLogText, is_answer, takes_below}
use Rattle.log_reader.proofs.Unique.{all_moved, all_parts}

pub all_true : {X : Type 0} (test : X → Bool) (xs : List X) → list_all test xs ≡ true → AllByRecursion (λ x. test x ≡ true) xs
all_true test [] h = tt
all_true test (x ∷ xs) h = let p = and_parts (test x) (list_all test xs) h in (p.0, all_true test xs p.1)

all_below : (cells : ℕ) (cs : List ℕ) → AllByRecursion (λ c. nat_lt c cells ≡ true) cs → AllByRecursion (λ c. c < cells) cs
all_below cells [] h = tt
all_below cells (c ∷ cs) h = (search (rules, tests, h.0), all_below cells cs h.1)

below : (cells : ℕ) (q : Query) → takes_below cells q ≡ true → TakesBelow cells q
below cells q h = all_below cells (cells_of q) (all_true (λ c. nat_lt c cells) (cells_of q) h)

abbrev pub Good : ℕ → Answered → Type 0
Good cells a = is_answer cells a ≡ true

taken_from : (cells c i : ℕ) (qs : List Query) (rs : List Reply) → length qs ≡ length rs → AllByRecursion (Good cells) (answered_from c i qs rs) → AllByRecursion (TakesBelow cells) qs
taken_from cells c i [] rs same all = tt
taken_from cells c i (q ∷ qs) [] same all = absurd (omega (arith, same))
taken_from cells c i (q ∷ qs) (r ∷ rs) same all = (below cells q (and_parts (takes_below cells q) _ all.0).0, taken_from cells c (i + 1) qs rs (omega (arith, same)) all.1)

taken_of : (cells c : ℕ) (asked : List (List Query)) (told : List (List Reply)) → IsPaired asked told → AllByRecursion (Good cells) (answered_of c asked told) → AllByRecursion (AllByRecursion (TakesBelow cells)) asked
taken_of cells c [] told paired all = tt
taken_of cells c (qs ∷ asked) [] paired all = absurd paired
taken_of cells c (qs ∷ asked) (rs ∷ told) paired all =
    let p = all_parts (Good cells) (answered_from c 0 qs rs) (answered_of (c + 1) asked told) all in
    (taken_from cells c 0 qs rs paired.0 p.0, taken_of cells (c + 1) asked told paired.1 p.1)

count_from : (c i : ℕ) (qs : List Query) (rs : List Reply) → length qs ≡ length rs → length (answered_from c i qs rs) ≡ length qs
count_from c i [] rs same = refl
count_from c i (q ∷ qs) [] same = absurd (omega (arith, same))
count_from c i (q ∷ qs) (r ∷ rs) same = let n = count_from c (i + 1) qs rs (omega (arith, same)) in omega (arith, n)

pub count_of : (c : ℕ) (asked : List (List Query)) (told : List (List Reply)) → IsPaired asked told → length (answered_of c asked told) ≡ sum_by length asked
count_of c [] told paired = refl
count_of c (qs ∷ asked) [] paired = absurd paired
count_of c (qs ∷ asked) (rs ∷ told) paired =
    let first = count_from c 0 qs rs paired.0 in
    let more = count_of (c + 1) asked told paired.1 in
    let split : length (answered_from c 0 qs rs ++ answered_of (c + 1) asked told) ≡ length (answered_from c 0 qs rs) + length (answered_of (c + 1) asked told) = length-append (answered_from c 0 qs rs) (answered_of (c + 1) asked told) in
    let sum : sum_by length (qs ∷ asked) ≡ length qs + sum_by length asked = sum_by-cons length qs asked in
    omega (arith, first, more, split, sum)

pub log_script : (s : Asked) (rows : ℕ) (told : List (List Reply)) (text : List ℕ) → IsLogText s rows told text → IsScript s
log_script s rows told text h =
    let fits = h.log.fits in
    let a = and_parts _ (list_all (is_answer s.cells) h.lines) fits in
    let b = and_parts _ (nat_le (length h.lines) 1000000) a.0 in
    let d = and_parts _ (nat_le (length s.callers) 64) b.0 in
    let e = and_parts (nat_lt 0 s.cells) (nat_le s.cells 64) d.0 in
    let all = all_moved (Good s.cells) h.lines (answered_of 0 s.callers told) (IsPermutation-sym _ _ h.of.each) (all_true (is_answer s.cells) h.lines a.1) in
    let count = count_of 0 s.callers told h.of.paired in
    let same = length_permutation (answered_of 0 s.callers told) h.lines h.of.each in
    let few : length h.lines ≤ 1000000 = search (rules, tests, b.1) in
    record {
      some = search (rules, tests, e.0);
      cells = search (rules, tests, e.1);
      crowd = search (rules, tests, d.1);
      few = omega (arith, count, same, few);
      taken = taken_of s.cells 0 s.callers told h.of.paired all;
    }
