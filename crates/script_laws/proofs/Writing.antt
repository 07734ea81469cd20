-- What is read as a script is its spelling.
use Rattle.std.proofs.Common.{◌≡◌, inl, inr, ℕ, ◌+◌, ◌<◌, ◌==◌, Bool, true, false, cond, List, [], ◌∷◌, ◌++◌, length, map, drop, Option, Some, None, Result, Ok, Err, unwrap_or, slice_index, flat_map, refl, sym, ap, ◌∙◌, subst, arith, codes, bytes_eq, decimal, append_assoc, append-nil}
use Rattle.std.proofs.lemmas.Bool.{not-false}
use Rattle.std.proofs.lemmas.List.{map-append}
use Rattle.std.proofs.lemmas.List.Concat.{flat_map-append}
use Rattle.std.specs.List.{AllByRecursion}
use Rattle.query_rules.specs.declared.query.Query.{Query}
use Rattle.query_rules.specs.declared.query.Cause.{Cause}
use Rattle.query_rules.specs.declared.query.Cause.TheVariants.{Unknown}
use Rattle.query_rules.specs.declared.verb.Verb.{Verb}
use Rattle.query_rules.specs.Verbs.{arity, verb_named, verb_word, query_of, verb_of, numbers_of, query_words}
use Rattle.query_rules.specs.Words.{words_of, lines_of, text_of}
use Rattle.query_rules.specs.Grammar.{Asked, numbers_in, with_query, word_at, cells_causes, caller_causes, query_causes, caller_line, query_line, named_line, later_words, later_line, later_lines, spelled_line, cells_line, all_lines, script_lines}
use Rattle.query_rules.proofs.Kept.{asked, given_ok, spelled_ok, first_keeps, later_keeps, last_split, last_query, all_push, all_parts, some_is, numbers_len, words_left}
use Rattle.query_rules.proofs.Spelled.{Fit, ended, numbers_to_words, line_ended, words_joined, lines_joined}
use Rattle.query_rules.proofs.Table.{named_only, same_bytes, verb_again, numbers_again}
use Rattle.script_laws.proofs.Reading.{caller_lines}
use Rattle.query_rules.specs.Numbers.{IsQuery}
use Rattle.script_laws.specs.Spelling.{IsWritable, spelling, ReadIsSpelled}

abbrev AllFit : List (List Query) → Type 0
AllFit callers = AllByRecursion (AllByRecursion IsQuery) callers

-- a line adds its words to the spelling, and numbers that can be written
abbrev Adds : Asked → Asked → List (List ℕ) → Type 0
Adds s t words = (script_lines t ≡ script_lines s ++ words ∷ []) × (AllFit s.callers → AllFit t.callers)

-- words, by their first and their number
one_word : (words : List (List ℕ)) (word : List ℕ) → length words ≡ 1 → word_at words 0 ≡ word → words ≡ word ∷ []
one_word [] word len first = absurd (omega (arith, len))
one_word (x ∷ []) word len first = ap (λ w. w ∷ []) first
one_word (x ∷ y ∷ words) word len first = absurd (omega (arith, len))

first_word : (words rest : List (List ℕ)) (word : List ℕ) → 0 < length words → word_at words 0 ≡ word → rest ≡ drop 1 words → word ∷ rest ≡ words
first_word [] rest word len first behind = absurd (omega (arith, len))
first_word (x ∷ words) rest word len first behind = λ i. sym first i ∷ behind i

-- line 1
one_number : (ns : List ℕ) → length ns ≡ 1 → ns ≡ slice_index ns 0 ∷ []
one_number [] len = absurd (omega (arith, len))
one_number (n ∷ []) len = refl
one_number (n ∷ m ∷ ns) len = absurd (omega (arith, len))

cells_spelled : (words : List (List ℕ)) (t : Asked) → cells_line words ≡ Ok t → (script_lines t ≡ words ∷ []) × AllFit t.callers
cells_spelled words t e =
    let ns : List ℕ = unwrap_or (numbers_in (drop 1 words)) [] in
    let r = given_ok (cells_causes words) (asked (slice_index ns 0) []) t e in
    let name : word_at words 0 ≡ codes "cells" = same_bytes _ _ (not-false _ r.0.0) in
    let is : numbers_in (drop 1 words) ≡ Some ns = some_is (numbers_in (drop 1 words)) r.0.1.1.0 in
    let two : length words ≡ 2 = grind (arith, not-false _ r.0.1.0) in
    let one : length ns ≡ 1 = numbers_len (drop 1 words) ns is ∙ words_left words 1 (not-false _ r.0.1.0) in
    let written : decimal (slice_index ns 0) ∷ [] ≡ drop 1 words = ap (map decimal) (sym (one_number ns one)) ∙ (numbers_to_words (drop 1 words) ns is).0 in
    let P : Asked → Type 0 = λ t. (script_lines t ≡ words ∷ []) × AllFit t.callers in
    subst P r.1 (ap (λ w. w ∷ []) (first_word words (decimal (slice_index ns 0) ∷ []) (codes "cells") (omega (arith, two)) name written), tt)

-- a line `caller`
caller_spelled : (s t : Asked) (words : List (List ℕ)) → bytes_eq (word_at words 0) (codes "caller") ≡ true → caller_line s words ≡ Ok t → Adds s t words
caller_spelled s t words named e =
    let r = given_ok (caller_causes s words) (asked s.cells (s.callers ++ [] ∷ [])) t e in
    let one : length words ≡ 1 = grind (arith, not-false _ r.0.0) in
    let is : words ≡ codes "caller" ∷ [] = one_word words (codes "caller") one (same_bytes _ _ named) in
    let first : List (List ℕ) = codes "cells" ∷ decimal s.cells ∷ [] in
    let P : Asked → Type 0 = λ t. Adds s t words in
    subst P r.1 (
      ap (λ l. first ∷ l) (flat_map-append caller_lines s.callers ([] ∷ []) ∙ ap (λ w. flat_map caller_lines s.callers ++ w ∷ []) (sym is)),
      λ fit. all_push (AllByRecursion IsQuery) s.callers [] fit tt,
    )

-- a query
query_spelled_words : (words : List (List ℕ)) (verb : Verb) (ns : List ℕ) → verb_named (word_at words 0) ≡ Some verb → length words ≡ 1 + arity verb → length ns ≡ arity verb → numbers_in (drop 1 words) ≡ Some ns
    → (query_words (query_of verb ns) ≡ words) × IsQuery (query_of verb ns)
query_spelled_words words verb ns named long len is =
    let q : Query = query_of verb ns in
    let name : word_at words 0 ≡ verb_word (verb_of q) = named_only (word_at words 0) verb named ∙ ap verb_word (sym (verb_again verb ns)) in
    let numbers : numbers_of q ≡ ns = numbers_again verb ns len in
    let written = numbers_to_words (drop 1 words) ns is in
    (first_word words (map decimal (numbers_of q)) (verb_word (verb_of q)) (omega (arith, long)) name (ap (map decimal) numbers ∙ written.0), subst Fit (sym numbers) written.1)

last_spelled : (cells : ℕ) (front : List (List Query)) (last : List Query) (q : Query) (words : List (List ℕ)) → query_words q ≡ words → IsQuery q → Adds (asked cells (front ++ last ∷ [])) (asked cells (front ++ (last ++ q ∷ []) ∷ [])) words
last_spelled cells front last q words is fits =
    let first : List (List ℕ) = codes "cells" ∷ decimal cells ∷ [] in
    let before : List (List (List ℕ)) = flat_map caller_lines front in
    let more : caller_lines (last ++ q ∷ []) ++ [] ≡ caller_lines last ++ words ∷ [] = append-nil _ ∙ ap (λ l. (codes "caller" ∷ []) ∷ l) (map-append query_words last (q ∷ [])) ∙ ap (λ w. caller_lines last ++ w ∷ []) is in
    let whole : flat_map caller_lines (front ++ (last ++ q ∷ []) ∷ []) ≡ flat_map caller_lines (front ++ last ∷ []) ++ words ∷ [] =
    flat_map-append caller_lines front ((last ++ q ∷ []) ∷ [])
    ∙ ap (λ l. before ++ l) more
    ∙ sym (append_assoc before (caller_lines last) (words ∷ []))
    ∙ ap (λ l. (before ++ l) ++ words ∷ []) (sym (append-nil (caller_lines last)))
    ∙ ap (λ l. l ++ words ∷ []) (sym (flat_map-append caller_lines front (last ∷ []))) in (
      ap (λ l. first ∷ l) whole,
      λ fit. let parts = all_parts (AllByRecursion IsQuery) front last fit in all_push (AllByRecursion IsQuery) front (last ++ q ∷ []) parts.0 (all_push IsQuery last q parts.1 fits),
    )

query_spelled : (s t : Asked) (verb : Verb) (words : List (List ℕ)) → verb_named (word_at words 0) ≡ Some verb → query_line s verb words ≡ Ok t → Adds s t words
query_spelled s t verb words named e =
    let ns : List ℕ = unwrap_or (numbers_in (drop 1 words)) [] in
    let q : Query = query_of verb ns in
    let r = given_ok (query_causes s verb words) (asked s.cells (with_query s.callers q)) t e in
    let counted : (length words == 1 + arity verb) ≡ true = not-false _ r.0.0 in
    let long : length words ≡ 1 + arity verb = grind (arith, counted) in
    let is : numbers_in (drop 1 words) ≡ Some ns = some_is (numbers_in (drop 1 words)) r.0.1.1.0 in
    let len : length ns ≡ arity verb = numbers_len (drop 1 words) ns is ∙ words_left words (arity verb) counted in
    let spelled = query_spelled_words words verb ns named long len is in
    let last = last_split s.callers (grind (arith, r.0.1.0)) in
    let P : Asked → Type 0 = λ t. Adds s t words in
    let Q : List (List Query) → Type 0 = λ callers. Adds (asked s.cells callers) (asked s.cells (with_query callers q)) words in
    let R : List (List Query) → Type 0 = λ callers. Adds (asked s.cells (last.0 ++ last.1 ∷ [])) (asked s.cells callers) words in
    subst P r.1 (subst Q (sym last.2) (subst R (sym (last_query last.0 last.1 q)) (last_spelled s.cells last.0 last.1 q words spelled.0 spelled.1)))

-- a later line
named_spelled : (s t : Asked) (words : List (List ℕ)) (verb : Option Verb) → verb_named (word_at words 0) ≡ verb → named_line s words verb ≡ Ok t → Adds s t words
named_spelled s t words (Some verb) named e = query_spelled s t verb words named e
named_spelled s t words None named e = by_name (bytes_eq (word_at words 0) (codes "caller")) refl e
  where
    by_name : (b : Bool) → bytes_eq (word_at words 0) (codes "caller") ≡ b → cond b (caller_line s words) (Err Unknown) ≡ Ok t → Adds s t words
    by_name true is e = caller_spelled s t words is e
    by_name false is e = absurd (cc)

later_spelled : (s t : Asked) (line : List ℕ) → later_line s line ≡ Ok t → Adds s t (words_of line)
later_spelled s t line e = named_spelled s t (words_of line) (verb_named (word_at (words_of line) 0)) refl (spelled_ok (later_words s) line t e)

-- all lines
abbrev Wrote : Asked → Asked → List (List ℕ) → Type 0
Wrote s t lines = (script_lines t ≡ script_lines s ++ map words_of lines) × IsWritable t

abbrev then_lines : ℕ → List (List ℕ) → Result Asked Cause → Result Asked (ℕ × Cause)
then_lines n lines (Ok t) = later_lines t n lines
then_lines n lines (Err cause) = Err (n, cause)

wrote_next : (s t u : Asked) (line : List ℕ) (lines : List (List ℕ)) → Adds s t (words_of line) → Wrote t u lines → Wrote s u (line ∷ lines)
wrote_next s t u line lines adds wrote = (wrote.0 ∙ ap (λ l. l ++ map words_of lines) adds.0 ∙ append_assoc (script_lines s) (words_of line ∷ []) (map words_of lines), wrote.1)

later_wrote : (s u : Asked) (n : ℕ) (lines : List (List ℕ)) → IsWritable s → later_lines s n lines ≡ Ok u → Wrote s u lines
later_wrote s u n [] is e =
    let same : s ≡ u = cc in
    let P : Asked → Type 0 = λ t. Wrote s t [] in
    subst P same (sym (append-nil (script_lines s)), is)
later_wrote s u n (line ∷ lines) is e = by_line (later_line s line) refl (λ t is f. later_wrote t u (n + 1) lines is f) e
  where
    by_line : (r : Result Asked Cause) → later_line s line ≡ r → ((t : Asked) → IsWritable t → later_lines t (n + 1) lines ≡ Ok u → Wrote t u lines)
        → then_lines (n + 1) lines r ≡ Ok u → Wrote s u (line ∷ lines)
    by_line (Ok t) said rest e =
        let adds = later_spelled s t line said in
        wrote_next s t u line lines adds (rest t (record { script = later_keeps s t line is.script said; fits = adds.1 is.fits }) e)
    by_line (Err cause) said rest e = absurd (cc)

all_wrote : (u : Asked) (lines : List (List ℕ)) → all_lines lines ≡ Ok u → (script_lines u ≡ map words_of lines) × IsWritable u
all_wrote u [] e = absurd (cc)
all_wrote u (line ∷ lines) e = by_line (spelled_line cells_line line) refl e
  where
    by_line : (r : Result Asked Cause) → spelled_line cells_line line ≡ r → then_lines 1 lines r ≡ Ok u → (script_lines u ≡ map words_of (line ∷ lines)) × IsWritable u
    by_line (Ok s) said e =
        let first = cells_spelled (words_of line) s (spelled_ok cells_line line s said) in
        let wrote = later_wrote s u 1 lines (record { script = first_keeps line s said; fits = first.1 }) e in
        (wrote.0 ∙ ap (λ l. l ++ map words_of lines) first.0, wrote.1)
    by_line (Err cause) said e = absurd (cc)

-- the bytes
text_again : (lines : List (List ℕ)) → text_of (map words_of lines) ≡ ended lines
text_again [] = refl
text_again (line ∷ lines) = λ i. (line_ended (words_of line) ∙ ap (λ l. l ++ 10 ∷ []) (words_joined line)) i ++ text_again lines i

pub read_spelled : ReadIsSpelled
read_spelled s bytes e =
    let wrote = all_wrote s (lines_of bytes) e in
    let text : ended (lines_of bytes) ≡ spelling s = sym (text_again (lines_of bytes)) ∙ ap text_of (sym wrote.0) in
    (wrote.1, elim (lines_joined bytes) [ inl same ↦ inl (same ∙ text) | inr same ↦ inr (same ∙ text) ])
