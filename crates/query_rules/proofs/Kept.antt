-- What the lines of a script keep: a script stays one, and its numbers fit.
use Rattle.std.proofs.Common.{◌≡◌, ℕ, suc, ◌+◌, ◌-◌, ◌≤◌, ◌<◌, ◌==◌, Bool, true, false, cond, List, [], ◌∷◌, ◌++◌, length, take, drop, set, get_or, Option, Some, None, Result, Ok, Err, is_none, nat_le, nat_lt, unwrap_or, slice_index, sum_by, refl, sym, ap, ◌∙◌, subst, arith, codes, bytes_eq, option_map, length-append}
use Rattle.std.proofs.lemmas.Bool.{or_parts, not-false}
use Rattle.std.proofs.lemmas.List.Sums.{sum_by_push}
use Rattle.std.proofs.Math.Seq.{set-append_seam, get_or-append_seam}
use Rattle.std.specs.List.{AllByRecursion, list_any}
use Rattle.query_rules.specs.declared.query.Query.{Query}
use Rattle.query_rules.specs.declared.query.Cause.{Cause}
use Rattle.query_rules.specs.declared.query.Cause.TheVariants.{BadByte, Spacing, Unknown}
use Rattle.query_rules.specs.declared.verb.Verb.{Verb}
use Rattle.query_rules.specs.Verbs.{verb_named, arity, cells_in, query_of}
use Rattle.query_rules.specs.Words.{words_of, number_of}
use Rattle.query_rules.specs.Grammar.{Asked, IsScript, TakesBelow, first_cause, gives, numbers_in, word_at, spelled_line, cells_causes, cells_line, with_query, caller_causes, caller_line, query_causes, query_line, named_line, later_words, later_line}
use Rattle.query_rules.proofs.Table.{cells_first}

-- none of the tests found its cause
abbrev pub NonePasses : List (Bool × Cause) → Type 0
NonePasses [] = Unit {0}
NonePasses (c ∷ cs) = (c.0 ≡ false) × NonePasses cs

given_step : {A : Type 0} (b : Bool) (cause : Cause) (o : Option Cause) (x y : A) → gives (cond b (Some cause) o) x ≡ Ok y → (b ≡ false) × (gives o x ≡ Ok y)
given_step true cause o x y e = absurd (cc)
given_step false cause o x y e = (refl, e)

pub given_ok : {A : Type 0} (tests : List (Bool × Cause)) (x y : A) → gives (first_cause tests) x ≡ Ok y → NonePasses tests × (x ≡ y)
given_ok [] x y e = (tt, cc)
given_ok (c ∷ cs) x y e =
    let s = given_step c.0 c.1 (first_cause cs) x y e in
    let r = given_ok cs x y s.1 in
    ((s.0, r.0), r.1)

spelled_cases : (a b : Bool) (r : Result Asked Cause) (t : Asked) → cond a (Err BadByte) (cond b (Err Spacing) r) ≡ Ok t → r ≡ Ok t
spelled_cases true b r t e = absurd (cc)
spelled_cases false true r t e = absurd (cc)
spelled_cases false false r t e = e

pub spelled_ok : (says : List (List ℕ) → Result Asked Cause) (line : List ℕ) (t : Asked) → spelled_line says line ≡ Ok t → says (words_of line) ≡ Ok t
spelled_ok says line t e = spelled_cases _ _ (says (words_of line)) t e

-- line 1
cells_keep : (words : List (List ℕ)) (t : Asked) → cells_line words ≡ Ok t → IsScript t
cells_keep words t e =
    let cells : ℕ = slice_index (unwrap_or (numbers_in (drop 1 words)) []) 0 in
    let r = given_ok (cells_causes words) (record { cells = cells; callers = [] }) t e in
    let range = or_parts (cells == 0) (nat_lt 64 cells) r.0.1.1.1.0 in
    let some : 0 < cells = grind (arith, range.0) in
    let few : cells ≤ 64 = grind (arith, range.1) in
    let P : Asked → Type 0 = λ s. IsScript s in
    subst P r.1 (record { some = some; cells = few; crowd = omega arith; few = omega arith; taken = tt })

pub first_keeps : (line : List ℕ) (t : Asked) → spelled_line cells_line line ≡ Ok t → IsScript t
first_keeps line t e = cells_keep (words_of line) t (spelled_ok cells_line line t e)

-- the lists, up to the last and the last
pub last_split : {X : Type 0} (xs : List X) → 0 < length xs → (front : List X) × (last : X) × (xs ≡ front ++ last ∷ [])
last_split [] some = absurd (omega (arith, some))
last_split (x ∷ []) some = ([], x, refl)
last_split (x ∷ y ∷ xs) some = let rest = last_split (y ∷ xs) (omega arith) in (x ∷ rest.0, rest.1, ap (λ l. x ∷ l) rest.2)

pub all_push : {X : Type 0} (P : X → Type 0) (xs : List X) (x : X) → AllByRecursion P xs → P x → AllByRecursion P (xs ++ x ∷ [])
all_push P [] x all one = (one, tt)
all_push P (y ∷ xs) x all one = (all.0, all_push P xs x all.1 one)

pub all_parts : {X : Type 0} (P : X → Type 0) (xs : List X) (x : X) → AllByRecursion P (xs ++ x ∷ []) → AllByRecursion P xs × P x
all_parts P [] x all = (tt, all.0)
all_parts P (y ∷ xs) x all = let rest = all_parts P xs x all.1 in ((all.0, rest.0), rest.1)

-- one query more, of the last caller
pub last_query : (front : List (List Query)) (last : List Query) (q : Query) → with_query (front ++ last ∷ []) q ≡ front ++ (last ++ q ∷ []) ∷ []
last_query front last q =
    let lists : List (List Query) = front ++ last ∷ [] in
    let len = length-append front (last ∷ []) in
    let at : length lists - 1 ≡ length front = omega (arith, len) in
    ap (λ n. set lists n (get_or lists n [] ++ q ∷ [])) at
    ∙ ap (λ l. set lists (length front) (l ++ q ∷ [])) (get_or-append_seam front last [] [])
    ∙ set-append_seam front last [] (last ++ q ∷ [])

abbrev pub asked : ℕ → List (List Query) → Asked
asked cells callers = record { cells = cells; callers = callers }

-- a line `caller`
caller_more : (cells : ℕ) (callers : List (List Query)) → IsScript (asked cells callers) → length callers < 64 → IsScript (asked cells (callers ++ [] ∷ []))
caller_more cells callers is room =
    let sum = sum_by_push (length {A = Query}) callers [] in
    let len = length-append callers ([] ∷ []) in
    record {
      some = is.some;
      cells = is.cells;
      crowd = omega (arith, len, room);
      few = omega (arith, sum, is.few);
      taken = all_push (AllByRecursion (TakesBelow cells)) callers [] is.taken tt;
    }

caller_keeps : (s t : Asked) (words : List (List ℕ)) → IsScript s → caller_line s words ≡ Ok t → IsScript t
caller_keeps s t words is e =
    let r = given_ok (caller_causes s words) (asked s.cells (s.callers ++ [] ∷ [])) t e in
    let room : length s.callers < 64 = grind (arith, r.0.1.0) in
    let P : Asked → Type 0 = λ s. IsScript s in
    subst P r.1 (caller_more s.cells s.callers is room)

-- a query
all_below : (cells : ℕ) (ns : List ℕ) → list_any (λ n. nat_le cells n) ns ≡ false → AllByRecursion (λ c. c < cells) ns
all_below cells [] e = tt
all_below cells (n ∷ ns) e =
    let r = or_parts (nat_le cells n) (list_any (λ n. nat_le cells n) ns) e in
    (grind (arith, r.0), all_below cells ns r.1)

pub numbers_len : (words : List (List ℕ)) (ns : List ℕ) → numbers_in words ≡ Some ns → length ns ≡ length words
numbers_len [] ns e = let same : ns ≡ [] = cc in ap length same
numbers_len (word ∷ words) ns e = numbers_step (number_of word) (numbers_in words) words ns e (λ ms f. numbers_len words ms f)
  where
    numbers_step : (o : Option ℕ) (r : Option (List ℕ)) (words : List (List ℕ)) (ns : List ℕ)
        → elim o [ Some n ↦ option_map (λ ns. n ∷ ns) r | None ↦ None ] ≡ Some ns
        → ((ms : List ℕ) → r ≡ Some ms → length ms ≡ length words) → length ns ≡ suc (length words)
    numbers_step (Some n) (Some ms) words ns e ih = let same : ns ≡ n ∷ ms = cc in ap length same ∙ ap suc (ih ms refl)
    numbers_step (Some n) None words ns e ih = absurd (cc)
    numbers_step None r words ns e ih = absurd (cc)

pub some_is : (o : Option (List ℕ)) → is_none o ≡ false → o ≡ Some (unwrap_or o [])
some_is (Some ns) e = refl
some_is None e = absurd (cc)

-- the query is the last caller's
query_more : (cells : ℕ) (callers : List (List Query)) (q : Query) → IsScript (asked cells callers) → (length callers == 0) ≡ false → nat_le 1000000 (sum_by length callers) ≡ false → TakesBelow cells q → IsScript (asked cells (with_query callers q))
query_more cells callers q is some few below =
    let s = last_split callers (grind (arith, some)) in
    let P : List (List Query) → Type 0 = λ l. IsScript (asked cells l) in
    let less : sum_by length callers < 1000000 = grind (arith, few) in
    let fewer : sum_by length (s.0 ++ s.1 ∷ []) < 1000000 = subst (λ (l : List (List Query)). sum_by length l < 1000000) s.2 less in
    subst P (sym (ap (λ l. with_query l q) s.2 ∙ last_query s.0 s.1 q)) (last_more cells s.0 s.1 q (subst P s.2 is) fewer below)
  where
    last_more : (cells : ℕ) (front : List (List Query)) (last : List Query) (q : Query) → IsScript (asked cells (front ++ last ∷ [])) → sum_by length (front ++ last ∷ []) < 1000000 → TakesBelow cells q → IsScript (asked cells (front ++ (last ++ q ∷ []) ∷ []))
    last_more cells front last q is few below =
        let taken = all_parts (AllByRecursion (TakesBelow cells)) front last is.taken in
        let had = sum_by_push (length {A = Query}) front last in
        let sum = sum_by_push (length {A = Query}) front (last ++ q ∷ []) in
        let more = length-append last (q ∷ []) in
        let many = length-append front (last ∷ []) in
        let long = length-append front ((last ++ q ∷ []) ∷ []) in
        let crowd : length (front ++ last ∷ []) ≤ 64 = is.crowd in
        record {
          some = is.some;
          cells = is.cells;
          crowd = omega (arith, many, long, crowd);
          few = omega (arith, had, sum, more, few);
          taken = all_push (AllByRecursion (TakesBelow cells)) front (last ++ q ∷ []) taken.0 (all_push (TakesBelow cells) last q taken.1 below);
        }

pub words_left : (words : List (List ℕ)) (n : ℕ) → (length words == 1 + n) ≡ true → length (drop 1 words) ≡ n
words_left [] n e = absurd (grind (arith, e))
words_left (word ∷ words) n e = grind (arith, e)

query_keeps : (s t : Asked) (verb : Verb) (words : List (List ℕ)) → IsScript s → query_line s verb words ≡ Ok t → IsScript t
query_keeps s t verb words is e =
    let numbers : Option (List ℕ) = numbers_in (drop 1 words) in
    let ns : List ℕ = unwrap_or numbers [] in
    let q : Query = query_of verb ns in
    let r = given_ok (query_causes s verb words) (record { cells = s.cells; callers = with_query s.callers q }) t e in
    let len : length ns ≡ arity verb = numbers_len (drop 1 words) ns (some_is numbers r.0.1.1.0) ∙ words_left words (arity verb) (not-false _ r.0.0) in
    let B : List ℕ → Type 0 = λ cs. AllByRecursion (λ c. c < s.cells) cs in
    let below : TakesBelow s.cells q = subst B (sym (cells_first verb ns len)) (all_below s.cells (take (cells_in verb) ns) r.0.1.1.1.0) in
    let P : Asked → Type 0 = λ s. IsScript s in
    subst P r.1 (query_more s.cells s.callers q is r.0.1.0 r.0.1.1.1.1.0 below)

no_verb : (s t : Asked) (words : List (List ℕ)) (b : Bool) → IsScript s → cond b (caller_line s words) (Err Unknown) ≡ Ok t → IsScript t
no_verb s t words true is e = caller_keeps s t words is e
no_verb s t words false is e = absurd (cc)

named_keeps : (s t : Asked) (words : List (List ℕ)) (verb : Option Verb) → IsScript s → named_line s words verb ≡ Ok t → IsScript t
named_keeps s t words (Some verb) is e = query_keeps s t verb words is e
named_keeps s t words None is e = no_verb s t words (bytes_eq (word_at words 0) (codes "caller")) is e

-- a later line
pub later_keeps : (s t : Asked) (line : List ℕ) → IsScript s → later_line s line ≡ Ok t → IsScript t
later_keeps s t line is e = named_keeps s t (words_of line) (verb_named (word_at (words_of line) 0)) is (spelled_ok (later_words s) line t e)
