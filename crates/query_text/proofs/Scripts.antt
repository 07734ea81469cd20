-- The lines of a script, one at a time and by six words.
use Rattle.std.proofs.Common.{◌≡◌, ℕ, ◌+◌, ◌<◌, ◌==◌, not, Bool, true, false, cond, List, [], ◌∷◌, ◌++◌, length, take, drop, Option, Some, None, Result, Ok, Err, unwrap_or, slice_index, refl, sym, ap, ◌∙◌, arith, codes, bytes_eq}
use Rattle.std.proofs.lemmas.List.{take_all, length-take}
use Rattle.query_rules.specs.declared.query.Cause.{Cause}
use Rattle.query_rules.specs.declared.query.Cause.TheVariants.{MissingCells, Unknown, WordCount}
use Rattle.query_rules.specs.declared.verb.Verb.{Verb}
use Rattle.query_rules.specs.declared.verb.Verb.TheVariants.{Get, Len, Put, Del, Add, Cas, PutLen, Move, Both, TryGet, TryPut, GetBy, PutBy, Give, Take, Audit}
use Rattle.query_rules.specs.Verbs.{verb_named, arity, query_of}
use Rattle.query_rules.specs.Grammar.{Asked, first_cause, gives, numbers_in, word_at, with_query, cells_causes, cells_line, caller_causes, caller_line, query_causes, query_line, named_line, later_words, later_line, later_lines}

-- six words show as much as all: no form has more than five
taken_len : (words : List (List ℕ)) (n : ℕ) → n < 6 → (length (take 6 words) == n) ≡ (length words == n)
taken_len words n few = grind (arith, length-take 6 words)

taken_whole : (words : List (List ℕ)) (n : ℕ) → n < 6 → (length words == n) ≡ true → take 6 words ≡ words
taken_whole words n few e = take_all 6 words (grind (arith, e))

first_same : (words : List (List ℕ)) → word_at (take 6 words) 0 ≡ word_at words 0
first_same [] = refl
first_same (word ∷ words) = refl

-- a judgement whose first test is on the number of words
count_first : {A : Type 0} (words : List (List ℕ)) (n : ℕ) → n < 6 → (says : List (List ℕ) → Result A Cause) → (cause : Cause)
    → ((ws : List (List ℕ)) → (length ws == n) ≡ false → says ws ≡ Err cause) → says (take 6 words) ≡ says words
count_first words n few says cause wrong = by_count (length words == n) refl
  where
    by_count : (b : Bool) → (length words == n) ≡ b → says (take 6 words) ≡ says words
    by_count true e = ap says (taken_whole words n few e)
    by_count false e = wrong (take 6 words) (taken_len words n few ∙ e) ∙ sym (wrong words e)

gives_first : {A : Type 0} (b : Bool) (cause : Cause) (o : Option Cause) (x : A) → b ≡ true → gives (cond b (Some cause) o) x ≡ Err cause
gives_first true cause o x e = refl
gives_first false cause o x e = absurd (cc)

counted_wrong : {A : Type 0} (words : List (List ℕ)) (n : ℕ) (tests : List (Bool × Cause)) (x : A) → (length words == n) ≡ false → gives (first_cause ((not (length words == n), WordCount) ∷ tests)) x ≡ Err WordCount
counted_wrong words n tests x e = gives_first (not (length words == n)) WordCount (first_cause tests) x (ap not e)

-- line 1 is judged by its first word, and then by their number
cells_wrong : {A : Type 0} (words : List (List ℕ)) (other : Bool) (tests : List (Bool × Cause)) (x : A) → (length words == 2) ≡ false
    → gives (first_cause ((other, MissingCells) ∷ (not (length words == 2), WordCount) ∷ tests)) x ≡ cond other (Err MissingCells) (Err WordCount)
cells_wrong words true tests x e = refl
cells_wrong words false tests x e = gives_first (not (length words == 2)) WordCount (first_cause tests) x (ap not e)

pub cells_same : (words : List (List ℕ)) → cells_line (take 6 words) ≡ cells_line words
cells_same words = by_count (length words == 2) refl
  where
    wrong : (ws : List (List ℕ)) → (length ws == 2) ≡ false → cells_line ws ≡ cond (not (bytes_eq (word_at ws 0) (codes "cells"))) (Err MissingCells) (Err WordCount)
    wrong ws e = cells_wrong ws (not (bytes_eq (word_at ws 0) (codes "cells"))) (drop 2 (cells_causes ws)) (record { cells = slice_index (unwrap_or (numbers_in (drop 1 ws)) []) 0; callers = [] }) e

    by_count : (b : Bool) → (length words == 2) ≡ b → cells_line (take 6 words) ≡ cells_line words
    by_count true e = ap cells_line (taken_whole words 2 (omega arith) e)
    by_count false e =
        wrong (take 6 words) (taken_len words 2 (omega arith) ∙ e)
        ∙ ap (λ w. cond (not (bytes_eq w (codes "cells"))) (Err MissingCells) (Err WordCount)) (first_same words)
        ∙ sym (wrong words e)

caller_same : (s : Asked) (words : List (List ℕ)) → caller_line s (take 6 words) ≡ caller_line s words
caller_same s words = count_first words 1 (omega arith) (caller_line s) WordCount (λ ws e. counted_wrong ws 1 (drop 1 (caller_causes s ws)) (record { cells = s.cells; callers = s.callers ++ [] ∷ [] }) e)

arity_few : (verb : Verb) → 1 + arity verb < 6
arity_few Get = omega arith
arity_few Len = omega arith
arity_few Put = omega arith
arity_few Del = omega arith
arity_few Add = omega arith
arity_few Cas = omega arith
arity_few PutLen = omega arith
arity_few Move = omega arith
arity_few Both = omega arith
arity_few TryGet = omega arith
arity_few TryPut = omega arith
arity_few GetBy = omega arith
arity_few PutBy = omega arith
arity_few Give = omega arith
arity_few Take = omega arith
arity_few Audit = omega arith

query_same : (s : Asked) (verb : Verb) (words : List (List ℕ)) → query_line s verb (take 6 words) ≡ query_line s verb words
query_same s verb words = count_first words (1 + arity verb) (arity_few verb) (query_line s verb) WordCount (λ ws e. counted_wrong ws (1 + arity verb) (drop 1 (query_causes s verb ws)) (record { cells = s.cells; callers = with_query s.callers (query_of verb (unwrap_or (numbers_in (drop 1 ws)) [])) }) e)

named_same : (s : Asked) (words : List (List ℕ)) (verb : Option Verb) → named_line s (take 6 words) verb ≡ named_line s words verb
named_same s words (Some verb) = query_same s verb words
named_same s words None = ap (λ r. cond (bytes_eq (word_at (take 6 words) 0) (codes "caller")) r (Err Unknown)) (caller_same s words) ∙ ap (λ w. cond (bytes_eq w (codes "caller")) (caller_line s words) (Err Unknown)) (first_same words)

pub later_same : (s : Asked) (words : List (List ℕ)) → later_words s (take 6 words) ≡ later_words s words
later_same s words = ap (λ w. named_line s (take 6 words) (verb_named w)) (first_same words) ∙ named_same s words (verb_named (word_at words 0))

-- one line of the rest
pub next_line : (s t : Asked) (n : ℕ) (all : List (List ℕ)) (line : List ℕ) (lines : List (List ℕ)) (whole : Result Asked (ℕ × Cause))
    → all ≡ line ∷ lines → later_line s line ≡ Ok t → later_lines s n all ≡ whole → later_lines t (n + 1) lines ≡ whole
next_line s t n all line lines whole cut said e =
    let k : Result Asked Cause → Result Asked (ℕ × Cause) = λ r. elim r [ Ok u ↦ later_lines u (n + 1) lines | Err cause ↦ Err (n + 1, cause) ] in
    sym (ap k said) ∙ ap (later_lines s n) (sym cut) ∙ e
