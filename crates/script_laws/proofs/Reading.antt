-- A script's spelling is read line by line as this script.
use Rattle.std.proofs.Common.{◌≡◌, inl, inr, ℕ, ◌+◌, ◌≤◌, ◌<◌, ◌==◌, ◌||◌, not, Bool, false, cond, List, [], ◌∷◌, ◌++◌, length, map, take, Option, Some, Result, Ok, Err, is_none, nat_le, nat_lt, unwrap_or, slice_index, sum_by, flat_map, refl, sym, ap, ◌∙◌, arith, codes, decimal, append_assoc, append-nil, length-append}
use Rattle.std.proofs.lemmas.Bool.{or_from}
use Rattle.std.proofs.lemmas.List.{length-map, map-append}
use Rattle.std.proofs.lemmas.List.Sums.{sum_by-cons, sum_by_push}
use Rattle.std.specs.List.{AllByRecursion, list_any}
use Rattle.query_rules.specs.declared.query.Query.{Query}
use Rattle.query_rules.specs.declared.query.Cause.{Cause}
use Rattle.query_rules.specs.declared.query.Cause.TheVariants.{BadByte, Spacing, MissingCells, WordCount, TooManyCallers, NoCaller, BadNumber, CellRange, TooManyQueries}
use Rattle.query_rules.specs.Verbs.{arity, cells_in, query_of, verb_of, numbers_of, query_words}
use Rattle.query_rules.specs.Words.{words_of, lines_of}
use Rattle.query_rules.specs.Grammar.{Asked, TakesBelow, first_cause, gives, with_query, named_line, later_words, later_lines, spelled_line, cells_line, all_lines, said_by, script_lines, is_misspaced}
use Rattle.query_rules.proofs.Kept.{NonePasses, asked, last_query}
use Rattle.query_rules.proofs.Spelled.{Lacks, spaced, between_spaces, words_again, words_to_numbers, lines_again, lines_unended, text_ended}
use Rattle.query_rules.proofs.Table.{named_again, numbers_count, query_again}
use Rattle.query_rules.specs.Numbers.{IsQuery}
use Rattle.script_laws.specs.Spelling.{IsWritable, Spells, SpellingIsRead, OneScript}
use Rattle.script_laws.proofs.Shown.{IsPlain, cells_plain, caller_plain, query_plain, words_lack_spaces, not_misspaced, line_good, line_unbroken}

-- where no test finds its cause, the value is given
all_pass : {A : Type 0} (tests : List (Bool × Cause)) (x : A) → NonePasses tests → gives (first_cause tests) x ≡ Ok x
all_pass [] x none = refl
all_pass (c ∷ tests) x none = ap (λ b. gives (cond b (Some c.1) (first_cause tests)) x) none.0 ∙ all_pass tests x none.1

-- a line of plain words is judged by them
line_judged : (says : List (List ℕ) → Result Asked Cause) (word : List ℕ) (words : List (List ℕ)) → AllByRecursion IsPlain (word ∷ words) → spelled_line says (between_spaces (word ∷ words)) ≡ says (word ∷ words)
line_judged says word words plain =
    let line : List ℕ = between_spaces (word ∷ words) in
    let lack = words_lack_spaces (word ∷ words) plain in
    ap (λ b. cond b (Err BadByte) (cond (is_misspaced (words_of line)) (Err Spacing) (says (words_of line)))) (line_good (word ∷ words) plain)
    ∙ ap (λ ws. cond (is_misspaced ws) (Err Spacing) (says ws)) (words_again word words lack.0 lack.1)
    ∙ ap (λ b. cond b (Err Spacing) (says (word ∷ words))) (not_misspaced (word ∷ words) plain)

-- line 1
cells_said : (cells : ℕ) → 0 < cells → cells ≤ 64 → cells_line (codes "cells" ∷ decimal cells ∷ []) ≡ Ok (asked cells [])
cells_said cells some few =
    let tests : Option (List ℕ) → List (Bool × Cause) = λ ns. (false, MissingCells) ∷ (false, WordCount) ∷ (is_none ns, BadNumber) ∷ (slice_index (unwrap_or ns []) 0 == 0 || nat_lt 64 (slice_index (unwrap_or ns []) 0), CellRange) ∷ [] in
    let says : Option (List ℕ) → Result Asked Cause = λ ns. gives (first_cause (tests ns)) (asked (slice_index (unwrap_or ns []) 0) []) in
    let ranged : (cells == 0 || nat_lt 64 cells) ≡ false = or_from (cells == 0) (nat_lt 64 cells) (grind (arith, some)) (grind (arith, few)) in
    ap says (words_to_numbers (cells ∷ []) (omega (arith, few), tt)) ∙ all_pass (tests (Some (cells ∷ []))) (asked cells []) (refl, (refl, (refl, (ranged, tt))))

-- a line `caller`
caller_said : (cells : ℕ) (callers : List (List Query)) → length callers < 64 → later_words (asked cells callers) (codes "caller" ∷ []) ≡ Ok (asked cells (callers ++ [] ∷ []))
caller_said cells callers few =
    let free : nat_le 64 (length callers) ≡ false = grind (arith, few) in
    all_pass ((false, WordCount) ∷ (nat_le 64 (length callers), TooManyCallers) ∷ []) (asked cells (callers ++ [] ∷ [])) (refl, (free, tt))

-- a query
all_in_range : (cells : ℕ) (ns : List ℕ) → AllByRecursion (λ n. n < cells) ns → list_any (λ n. nat_le cells n) ns ≡ false
all_in_range cells [] all = refl
all_in_range cells (n ∷ ns) all = or_from (nat_le cells n) (list_any (λ n. nat_le cells n) ns) (grind (arith, all.0)) (all_in_range cells ns all.1)

query_said : (cells : ℕ) (callers : List (List Query)) (q : Query) → 0 < length callers → sum_by length callers < 1000000 → TakesBelow cells q → IsQuery q
    → later_words (asked cells callers) (query_words q) ≡ Ok (asked cells (with_query callers q))
query_said cells callers q some few below fits =
    let s : Asked = asked cells callers in
    let ns : List ℕ = numbers_of q in
    let counted : not (length (query_words q) == 1 + arity (verb_of q)) ≡ false = grind (arith, numbers_count q, length-map ns decimal) in
    let tests : Option (List ℕ) → List (Bool × Cause) = λ numbers.
    (not (length (query_words q) == 1 + arity (verb_of q)), WordCount)
    ∷ (length callers == 0, NoCaller)
    ∷ (is_none numbers, BadNumber)
    ∷ (list_any (λ n. nat_le cells n) (take (cells_in (verb_of q)) (unwrap_or numbers [])), CellRange)
    ∷ (nat_le 1000000 (sum_by length callers), TooManyQueries) ∷ [] in
    let says : Option (List ℕ) → Result Asked Cause = λ numbers. gives (first_cause (tests numbers)) (asked cells (with_query callers (query_of (verb_of q) (unwrap_or numbers [])))) in
    let pass : NonePasses (tests (Some ns)) = (counted, (grind (arith, some), (refl, (all_in_range cells _ below, (grind (arith, few), tt))))) in
    ap (named_line s (query_words q)) (named_again (verb_of q))
    ∙ ap says (words_to_numbers ns fits)
    ∙ all_pass (tests (Some ns)) _ pass
    ∙ ap (λ q. Ok (asked cells (with_query callers q))) (query_again q)

-- one line, and then the others
line_read : (s t : Asked) (n : ℕ) (word : List ℕ) (words : List (List ℕ)) (lines : List (List ℕ)) → AllByRecursion IsPlain (word ∷ words) → later_words s (word ∷ words) ≡ Ok t
    → later_lines s n (between_spaces (word ∷ words) ∷ lines) ≡ later_lines t (n + 1) lines
line_read s t n word words lines plain said =
    ap (λ r. elim r [ Ok u ↦ later_lines u (n + 1) lines | Err cause ↦ Err (n + 1, cause) ]) (line_judged (later_words s) word words plain ∙ said)

-- the queries of the caller that was begun last, where what follows them is read
queries_read : (cells : ℕ) (done : List (List Query)) (had queries : List Query) (n : ℕ) (rest : List (List ℕ)) (t : Asked)
    → AllByRecursion (TakesBelow cells) queries → AllByRecursion IsQuery queries → sum_by length done + length had + length queries ≤ 1000000
    → ((m : ℕ) → later_lines (asked cells (done ++ (had ++ queries) ∷ [])) m rest ≡ Ok t)
    → later_lines (asked cells (done ++ had ∷ [])) n (map between_spaces (map query_words queries) ++ rest) ≡ Ok t
queries_read cells done had [] n rest t below fits few follows = ap (λ l. later_lines (asked cells (done ++ l ∷ [])) n rest) (sym (append-nil had)) ∙ follows n
queries_read cells done had (q ∷ queries) n rest t below fits few follows =
    let len = length-append done (had ∷ []) in
    let sum = sum_by_push (length {A = Query}) done had in
    let more = length-append had (q ∷ []) in
    let said = query_said cells (done ++ had ∷ []) q (omega (arith, len)) (omega (arith, sum, few)) below.0 fits.0 in
    line_read _ _ n _ _ (map between_spaces (map query_words queries) ++ rest) (query_plain q fits.0) (said ∙ ap (λ c. Ok (asked cells c)) (last_query done had q))
    ∙ queries_read cells done (had ++ q ∷ []) queries (n + 1) rest t below.1 fits.1 (omega (arith, few, more))
    (λ m. ap (λ l. later_lines (asked cells (done ++ l ∷ [])) m rest) (append_assoc had (q ∷ []) queries) ∙ follows m)

abbrev pub caller_lines : List Query → List (List (List ℕ))
caller_lines queries = (codes "caller" ∷ []) ∷ map query_words queries

-- the callers behind those that are read
callers_read : (cells : ℕ) (done callers : List (List Query)) (n : ℕ)
    → length done + length callers ≤ 64 → sum_by length done + sum_by length callers ≤ 1000000 → AllByRecursion (AllByRecursion (TakesBelow cells)) callers → AllByRecursion (AllByRecursion IsQuery) callers
    → later_lines (asked cells done) n (map between_spaces (flat_map caller_lines callers)) ≡ Ok (asked cells (done ++ callers))
callers_read cells done [] n many few below fits = ap (λ c. Ok (asked cells c)) (sym (append-nil done))
callers_read cells done (queries ∷ callers) n many few below fits =
    let rest : List (List ℕ) = map between_spaces (flat_map caller_lines callers) in
    let sum = sum_by-cons (length {A = Query}) queries callers in
    let pushed = sum_by_push (length {A = Query}) done queries in
    let len = length-append done (queries ∷ []) in
    line_read (asked cells done) _ n (codes "caller") [] (map between_spaces (map query_words queries ++ flat_map caller_lines callers)) caller_plain (caller_said cells done (omega (arith, many)))
    ∙ ap (later_lines (asked cells (done ++ [] ∷ [])) (n + 1)) (map-append between_spaces (map query_words queries) (flat_map caller_lines callers))
    ∙ queries_read cells done [] queries (n + 1) rest (asked cells (done ++ queries ∷ callers)) below.0 fits.0 (omega (arith, few, sum))
    (λ m. callers_read cells (done ++ queries ∷ []) callers m (omega (arith, many, len)) (omega (arith, few, sum, pushed)) below.1 fits.1 ∙ ap (λ c. Ok (asked cells c)) (append_assoc done (queries ∷ []) callers))

-- all lines
lines_read : (s : Asked) → IsWritable s → all_lines (map between_spaces (script_lines s)) ≡ Ok s
lines_read s is =
    let script = is.script in
    let lines : List (List ℕ) = map between_spaces (flat_map caller_lines s.callers) in
    let first : spelled_line cells_line (between_spaces (codes "cells" ∷ decimal s.cells ∷ [])) ≡ Ok (asked s.cells []) =
    line_judged cells_line (codes "cells") (decimal s.cells ∷ []) (cells_plain s.cells (omega (arith, script.cells))) ∙ cells_said s.cells script.some script.cells in
    ap (λ r. elim r [ Ok t ↦ later_lines t 1 lines | Err cause ↦ Err (1, cause) ]) first
    ∙ callers_read s.cells [] s.callers 1 (omega (arith, script.crowd)) (omega (arith, script.few)) script.taken is.fits

-- the lines of the text
abbrev IsPlainLine : List (List ℕ) → Type 0
IsPlainLine words = (0 < length words) × AllByRecursion IsPlain words

queries_plain : (queries : List Query) (rest : List (List (List ℕ))) → AllByRecursion IsQuery queries → AllByRecursion IsPlainLine rest → AllByRecursion IsPlainLine (map query_words queries ++ rest)
queries_plain [] rest fits all = all
queries_plain (q ∷ queries) rest fits all = ((omega arith, query_plain q fits.0), queries_plain queries rest fits.1 all)

callers_plain : (callers : List (List Query)) → AllByRecursion (AllByRecursion IsQuery) callers → AllByRecursion IsPlainLine (flat_map caller_lines callers)
callers_plain [] fits = tt
callers_plain (queries ∷ callers) fits = ((omega arith, caller_plain), queries_plain queries (flat_map caller_lines callers) fits.0 (callers_plain callers fits.1))

script_plain : (s : Asked) → IsWritable s → AllByRecursion IsPlainLine (script_lines s)
script_plain s is = ((omega arith, cells_plain s.cells (omega (arith, is.script.cells))), callers_plain s.callers is.fits)

lines_unbroken : (lines : List (List (List ℕ))) → AllByRecursion IsPlainLine lines → AllByRecursion (Lacks 10) (map between_spaces lines)
lines_unbroken [] all = tt
lines_unbroken (line ∷ lines) all = (line_unbroken line all.0.1, lines_unbroken lines all.1)

line_filled : (words : List (List ℕ)) → IsPlainLine words → 0 < length (between_spaces words)
line_filled [] plain = absurd (omega (arith, plain.0))
line_filled (word ∷ words) plain = let len = length-append word (spaced words) in omega (arith, len, plain.1.0.0)

lines_filled : (lines : List (List (List ℕ))) → AllByRecursion IsPlainLine lines → AllByRecursion (λ line. 0 < length line) (map between_spaces lines)
lines_filled [] all = tt
lines_filled (line ∷ lines) all = (line_filled line all.0, lines_filled lines all.1)

lines_again_of : (s : Asked) (bytes : List ℕ) → IsWritable s → Spells bytes s → lines_of bytes ≡ map between_spaces (script_lines s)
lines_again_of s bytes is (inl e) =
    let lines : List (List ℕ) = map between_spaces (script_lines s) in
    ap lines_of (e ∙ text_ended (script_lines s)) ∙ lines_again lines (lines_unbroken (script_lines s) (script_plain s is))
lines_again_of s bytes is (inr e) =
    let plain = script_plain s is in
    lines_unended bytes (map between_spaces (script_lines s)) (lines_unbroken (script_lines s) plain) (lines_filled (script_lines s) plain) (e ∙ text_ended (script_lines s))

pub spelling_read : SpellingIsRead
spelling_read s bytes is spells = ap all_lines (lines_again_of s bytes is spells) ∙ lines_read s is

one_answer : (s t : Asked) (answer : Result Asked (ℕ × Cause)) → answer ≡ Ok s → answer ≡ Ok t → s ≡ t
one_answer s t answer is_s is_t = cc

pub one_script : OneScript
one_script s t bytes is_s is_t spells_s spells_t = one_answer s t (said_by bytes) (spelling_read s bytes is_s spells_s) (spelling_read t bytes is_t spells_t)
