-- The words of a script are plain: no byte of them is a space, a line feed, or one that can't be printed.
use Rattle.std.proofs.Common.{◌≡◌, ℕ, ◌<◌, ◌≤◌, ◌^◌, ◌==◌, ◌||◌, Bool, true, false, List, [], ◌∷◌, ◌++◌, length, map, refl, arith, nat_lt, codes, decimal}
use Rattle.std.specs.List.{AllByRecursion, list_any}
use Rattle.std.specs.Str.{all_ascii_digits}
use Rattle.std.proofs.lemmas.Bool.{or_parts, or_from}
use Rattle.std.proofs.lemmas.Str.Parse.{tells_all_ascii_digits, numerals_by_value}
use Rattle.std.proofs.lemmas.Fmt.{digits_decimal, decimal_nonempty}
use Rattle.query_rules.specs.declared.query.Query.{Query}
use Rattle.query_rules.specs.declared.verb.Verb.{Verb}
use Rattle.query_rules.specs.declared.verb.Verb.TheVariants.{Get, Len, Put, Del, Add, Cas, PutLen, Move, Both, TryGet, TryPut, GetBy, PutBy, Give, Take, Audit}
use Rattle.query_rules.specs.Verbs.{verb_word, verb_of, numbers_of, query_words}
use Rattle.query_rules.specs.Grammar.{has_bad_byte, is_misspaced}
use Rattle.query_rules.proofs.Spelled.{Lacks, Fit, spaced, between_spaces}

abbrev IsShown : ℕ → Type 0
IsShown b = (31 < b) × (b < 127)

abbrev IsDark : ℕ → Type 0
IsDark b = (32 < b) × (b < 127)

abbrev pub IsPlain : List ℕ → Type 0
IsPlain word = (0 < length word) × AllByRecursion IsDark word

-- a name is plain, by a test
abbrev is_light : ℕ → Bool
is_light b = nat_lt b 33 || nat_lt 126 b

dark_by_test : (word : List ℕ) → list_any is_light word ≡ false → AllByRecursion IsDark word
dark_by_test [] e = tt
dark_by_test (b ∷ word) e =
    let p = or_parts (is_light b) (list_any is_light word) e in
    let q = or_parts (nat_lt b 33) (nat_lt 126 b) p.0 in
    ((grind (arith, q.0), grind (arith, q.1)), dark_by_test word p.1)

name_plain : (word : List ℕ) → 0 < length word → list_any is_light word ≡ false → IsPlain word
name_plain word some e = (some, dark_by_test word e)

verb_plain : (verb : Verb) → IsPlain (verb_word verb)
verb_plain Get = name_plain (codes "get") (omega arith) refl
verb_plain Len = name_plain (codes "len") (omega arith) refl
verb_plain Put = name_plain (codes "put") (omega arith) refl
verb_plain Del = name_plain (codes "del") (omega arith) refl
verb_plain Add = name_plain (codes "add") (omega arith) refl
verb_plain Cas = name_plain (codes "cas") (omega arith) refl
verb_plain PutLen = name_plain (codes "putlen") (omega arith) refl
verb_plain Move = name_plain (codes "move") (omega arith) refl
verb_plain Both = name_plain (codes "both") (omega arith) refl
verb_plain TryGet = name_plain (codes "tryget") (omega arith) refl
verb_plain TryPut = name_plain (codes "tryput") (omega arith) refl
verb_plain GetBy = name_plain (codes "getby") (omega arith) refl
verb_plain PutBy = name_plain (codes "putby") (omega arith) refl
verb_plain Give = name_plain (codes "give") (omega arith) refl
verb_plain Take = name_plain (codes "take") (omega arith) refl
verb_plain Audit = name_plain (codes "audit") (omega arith) refl

digits_dark : (digits : List ℕ) → all_ascii_digits digits ≡ true → AllByRecursion IsDark digits
digits_dark [] e = tt
digits_dark (d ∷ digits) e =
    let p = tells_all_ascii_digits.parts d digits e in
    ((omega (arith, p.0.0), omega (arith, p.0.1)), digits_dark digits p.1)

number_plain : (n : ℕ) → n < 2 ^ 64 → IsPlain (decimal n)
number_plain n small = (decimal_nonempty n small, digits_dark (decimal n) (digits_decimal (numerals_by_value _ tells_all_ascii_digits) n small))

numbers_plain : (ns : List ℕ) → Fit ns → AllByRecursion IsPlain (map decimal ns)
numbers_plain [] fit = tt
numbers_plain (n ∷ ns) fit = (number_plain n fit.0, numbers_plain ns fit.1)

pub cells_plain : (cells : ℕ) → cells < 2 ^ 64 → AllByRecursion IsPlain (codes "cells" ∷ decimal cells ∷ [])
cells_plain cells small = (name_plain (codes "cells") (omega arith) refl, (number_plain cells small, tt))

pub caller_plain : AllByRecursion IsPlain (codes "caller" ∷ [])
caller_plain = (name_plain (codes "caller") (omega arith) refl, tt)

pub query_plain : (q : Query) → Fit (numbers_of q) → AllByRecursion IsPlain (query_words q)
query_plain q fit = (verb_plain (verb_of q), numbers_plain (numbers_of q) fit)

-- what a plain word lacks
dark_lacks : (c : ℕ) (word : List ℕ) → c ≤ 32 → AllByRecursion IsDark word → Lacks c word
dark_lacks c [] low all = tt
dark_lacks c (b ∷ word) low all = (grind (arith, low, all.0.0), dark_lacks c word low all.1)

pub words_lack_spaces : (words : List (List ℕ)) → AllByRecursion IsPlain words → AllByRecursion (Lacks 32) words
words_lack_spaces [] all = tt
words_lack_spaces (word ∷ words) all = (dark_lacks 32 word (omega arith) all.0.1, words_lack_spaces words all.1)

pub not_misspaced : (words : List (List ℕ)) → AllByRecursion IsPlain words → is_misspaced words ≡ false
not_misspaced [] all = refl
not_misspaced (word ∷ words) all = or_from (length word == 0) (is_misspaced words) (grind (arith, all.0.0)) (not_misspaced words all.1)

-- the bytes of a line of plain words
dark_shown : (word rest : List ℕ) → AllByRecursion IsDark word → AllByRecursion IsShown rest → AllByRecursion IsShown (word ++ rest)
dark_shown [] rest all shown = shown
dark_shown (b ∷ word) rest all shown = ((omega (arith, all.0.0), all.0.1), dark_shown word rest all.1 shown)

spaced_shown : (words : List (List ℕ)) → AllByRecursion IsPlain words → AllByRecursion IsShown (spaced words)
spaced_shown [] all = tt
spaced_shown (word ∷ words) all = ((omega arith, omega arith), dark_shown word (spaced words) all.0.1 (spaced_shown words all.1))

line_shown : (words : List (List ℕ)) → AllByRecursion IsPlain words → AllByRecursion IsShown (between_spaces words)
line_shown [] all = tt
line_shown (word ∷ words) all = dark_shown word (spaced words) all.0.1 (spaced_shown words all.1)

shown_good : (line : List ℕ) → AllByRecursion IsShown line → has_bad_byte line ≡ false
shown_good [] all = refl
shown_good (b ∷ line) all = or_from (nat_lt b 32 || nat_lt 126 b) (has_bad_byte line) (or_from (nat_lt b 32) (nat_lt 126 b) (grind (arith, all.0.0)) (grind (arith, all.0.1))) (shown_good line all.1)

shown_lacks : (line : List ℕ) → AllByRecursion IsShown line → Lacks 10 line
shown_lacks [] all = tt
shown_lacks (b ∷ line) all = (grind (arith, all.0.0), shown_lacks line all.1)

pub line_good : (words : List (List ℕ)) → AllByRecursion IsPlain words → has_bad_byte (between_spaces words) ≡ false
line_good words all = shown_good (between_spaces words) (line_shown words all)

pub line_unbroken : (words : List (List ℕ)) → AllByRecursion IsPlain words → Lacks 10 (between_spaces words)
line_unbroken words all = shown_lacks (between_spaces words) (line_shown words all)
