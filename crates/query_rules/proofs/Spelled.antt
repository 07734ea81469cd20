-- What is spelled is read again.
use Rattle.std.proofs.Common.{◌≡◌, ◌⊎◌, inl, inr, ℕ, ◌<◌, ◌^◌, ◌==◌, ◌&&◌, ◌||◌, Bool, true, false, cond, List, [], ◌∷◌, ◌++◌, zero, suc, length, map, get_or, refl, sym, ap, subst, ◌∙◌, append_assoc, append-nil, arith, rules, Option, Some, None, nat_lt, slice_index, flat_map, decimal, option_map}
use Rattle.std.specs.List.{slice_split, AllByRecursion, onto_first, join_with_byte}
use Rattle.std.specs.Str.{all_ascii_digits}
use Rattle.std.specs.Str.Parse.{digits_value}
use Rattle.std.proofs.lemmas.Bool.{and_parts}
use Rattle.std.proofs.lemmas.Option.{same_Some, cond_some}
use Rattle.std.proofs.lemmas.Str.Parse.{IsNumeralModel, numerals_by_value, tells_all_ascii_digits}
use Rattle.std.proofs.lemmas.Fmt.{digits_decimal, digits_value-decimal, decimal-digits_value, decimal_digit, first_decimal}
use Rattle.std.proofs.lemmas.List.Splits.{slice_split-cons_yes, slice_split-cons_no, join_with_byte-slice_split}
use Rattle.query_rules.specs.Words.{is_numeral, number_of, words_of, lines_of, without_empty_end, line_of, text_of}
use Rattle.query_rules.specs.Grammar.{numbers_in}

own : IsNumeralModel (λ ds. all_ascii_digits ds ≡ true) (digits_value 10)
own = numerals_by_value _ tells_all_ascii_digits

-- no byte of the word is c
abbrev pub Lacks : ℕ → List ℕ → Type 0
Lacks c word = AllByRecursion (λ b. (b == c) ≡ false) word

-- a word that lacks the separator stands before it as the first piece
pub cut_word : (c : ℕ) (word rest : List ℕ) → Lacks c word → slice_split (λ b. b == c) (word ++ c ∷ rest) ≡ word ∷ slice_split (λ b. b == c) rest
cut_word c [] rest lacks = slice_split-cons_yes (λ b. b == c) c rest (grind arith)
cut_word c (x ∷ word) rest lacks = slice_split-cons_no (λ b. b == c) x (word ++ c ∷ rest) lacks.0 ∙ ap (onto_first x) (cut_word c word rest lacks.1)

pub last_word : (c : ℕ) (word : List ℕ) → Lacks c word → slice_split (λ b. b == c) word ≡ word ∷ []
last_word c [] lacks = refl
last_word c (x ∷ word) lacks = slice_split-cons_no (λ b. b == c) x word lacks.0 ∙ ap (onto_first x) (last_word c word lacks.1)

-- words behind spaces, and words with spaces between them
abbrev pub spaced : List (List ℕ) → List ℕ
spaced words = flat_map (λ w. 32 ∷ w) words

abbrev pub between_spaces : List (List ℕ) → List ℕ
between_spaces [] = []
between_spaces (word ∷ words) = word ++ spaced words

-- the words of a line are read again
pub words_again : (word : List ℕ) (words : List (List ℕ)) → Lacks 32 word → AllByRecursion (Lacks 32) words → words_of (word ++ spaced words) ≡ word ∷ words
words_again word [] lacks all = ap words_of (append-nil word) ∙ last_word 32 word lacks
words_again word (next ∷ words) lacks all = cut_word 32 word (next ++ spaced words) lacks ∙ ap (λ l. word ∷ l) (words_again next words all.0 all.1)

-- the lines of a text are read again
abbrev pub ended : List (List ℕ) → List ℕ
ended lines = flat_map (λ line. line ++ 10 ∷ []) lines

split_lines : (lines : List (List ℕ)) → AllByRecursion (Lacks 10) lines → slice_split (λ b. b == 10) (ended lines) ≡ lines ++ [] ∷ []
split_lines [] all = refl
split_lines (line ∷ lines) all = ap (slice_split (λ b. b == 10)) (append_assoc line (10 ∷ []) (ended lines)) ∙ cut_word 10 line (ended lines) all.0 ∙ ap (λ l. line ∷ l) (split_lines lines all.1)

end_dropped : (lines : List (List ℕ)) → without_empty_end (lines ++ [] ∷ []) ≡ lines
end_dropped [] = refl
end_dropped (x ∷ []) = refl
end_dropped (x ∷ y ∷ lines) = ap (λ l. x ∷ l) (end_dropped (y ∷ lines))

pub lines_again : (lines : List (List ℕ)) → AllByRecursion (Lacks 10) lines → lines_of (ended lines) ≡ lines
lines_again lines all = ap without_empty_end (split_lines lines all) ∙ end_dropped lines

or_true : (b : Bool) → (b || true) ≡ true
or_true true = refl
or_true false = refl

shape_of : (n : ℕ) → n < 2 ^ 64 → (length (decimal n) == 1 || nat_lt 48 (slice_index (decimal n) 0)) ≡ true
shape_of zero small = rw (decimal_digit 0 (omega arith)) refl
shape_of (suc m) small =
    let first : 48 < get_or (decimal (suc m)) 0 0 = first_decimal (suc m) (omega arith) small in
    let yes : nat_lt 48 (get_or (decimal (suc m)) 0 0) ≡ true = search (rules, first) in
    rw yes (or_true _)

-- a number's word says it
pub number_again : (n : ℕ) → n < 2 ^ 64 → number_of (decimal n) ≡ Some n
number_again n small =
    let digits = digits_decimal own n small in
    let value : digits_value 10 (decimal n) ≡ n = digits_value-decimal own n small in
    let fits : nat_lt n (2 ^ 64) ≡ true = search (rules, small) in
    let shape : (length (decimal n) == 1 || nat_lt 48 (slice_index (decimal n) 0)) ≡ true = shape_of n small in
    rw (digits, shape, value, fits) refl

-- a word that says a number is how the number is written
word_again : (word : List ℕ) (n : ℕ) → all_ascii_digits word ≡ true → (length word == 1 || nat_lt 48 (slice_index word 0)) ≡ true → digits_value 10 word < 2 ^ 64 → decimal (digits_value 10 word) ≡ word
word_again [] n digits shape small = absurd (cc)
word_again (b ∷ word) n digits shape small =
    decimal-digits_value own (b ∷ word) digits (omega arith) (λ zero_first. grind (arith, shape, zero_first)) small

pub number_only : (word : List ℕ) (n : ℕ) → number_of word ≡ Some n → (decimal n ≡ word) × (n < 2 ^ 64)
number_only word n e =
    let c = cond_some (is_numeral word && nat_lt (digits_value 10 word) (2 ^ 64)) (digits_value 10 word) n e in
    let p = and_parts (is_numeral word) (nat_lt (digits_value 10 word) (2 ^ 64)) c.0 in
    let q = and_parts (all_ascii_digits word) (length word == 1 || nat_lt 48 (slice_index word 0)) p.0 in
    let small : digits_value 10 word < 2 ^ 64 = grind (arith, p.1) in
    (ap decimal (sym c.1) ∙ word_again word n q.0 q.1 small, omega (arith, small, c.1))

-- numbers and the words that write them
abbrev pub Fit : List ℕ → Type 0
Fit ns = AllByRecursion (λ n. n < 2 ^ 64) ns

pub words_to_numbers : (ns : List ℕ) → Fit ns → numbers_in (map decimal ns) ≡ Some ns
words_to_numbers [] fit = refl
words_to_numbers (n ∷ ns) fit = λ i. elim (number_again n fit.0 i) [ Some n ↦ option_map (λ ns. n ∷ ns) (words_to_numbers ns fit.1 i) | None ↦ None ]

pub numbers_to_words : (words : List (List ℕ)) (ns : List ℕ) → numbers_in words ≡ Some ns → (map decimal ns ≡ words) × Fit ns
numbers_to_words [] ns e = let same : [] ≡ ns = same_Some [] ns e in (ap (map decimal) (sym same), subst Fit same tt)
numbers_to_words (word ∷ words) ns e = by_parts (number_of word) (numbers_in words) refl (λ ms are. numbers_to_words words ms are) e
  where
    by_parts : (o : Option ℕ) (r : Option (List ℕ)) → number_of word ≡ o → ((ms : List ℕ) → r ≡ Some ms → (map decimal ms ≡ words) × Fit ms)
        → elim o [ Some n ↦ option_map (λ ns. n ∷ ns) r | None ↦ None ] ≡ Some ns → (map decimal ns ≡ word ∷ words) × Fit ns
    by_parts (Some n) (Some ms) is rest e =
        let same : n ∷ ms ≡ ns = same_Some (n ∷ ms) ns e in
        let first = number_only word n is in
        let more = rest ms refl in
        (ap (map decimal) (sym same) ∙ (λ i. first.0 i ∷ more.0 i), subst Fit same (first.1, more.1))
    by_parts (Some n) None is rest e = absurd (cc)
    by_parts None r is rest e = absurd (cc)

-- a line is its words with spaces between them, and its end
pub line_ended : (words : List (List ℕ)) → line_of words ≡ between_spaces words ++ 10 ∷ []
line_ended [] = refl
line_ended (word ∷ words) = refl

pub text_ended : (lines : List (List (List ℕ))) → text_of lines ≡ ended (map between_spaces lines)
text_ended [] = refl
text_ended (line ∷ lines) = λ i. line_ended line i ++ text_ended lines i

joined_spaces : (words : List (List ℕ)) → between_spaces words ≡ join_with_byte 32 words
joined_spaces [] = refl
joined_spaces (word ∷ []) = append-nil word
joined_spaces (word ∷ next ∷ words) = ap (λ l. word ++ 32 ∷ l) (joined_spaces (next ∷ words))

pub words_joined : (line : List ℕ) → between_spaces (words_of line) ≡ line
words_joined line = joined_spaces (words_of line) ∙ join_with_byte-slice_split 32 line

-- the lines of a text, each with its end, are the text but for its last end
joined_lines : (parts : List (List ℕ)) → (join_with_byte 10 parts ≡ ended (without_empty_end parts)) ⊎ (join_with_byte 10 parts ++ 10 ∷ [] ≡ ended (without_empty_end parts))
joined_lines [] = inl refl
joined_lines ([] ∷ []) = inl refl
joined_lines ((b ∷ part) ∷ []) =
    let filled : (length (b ∷ part) == 0) ≡ false = grind arith in
    inr (sym (ap (λ t. ended (cond t [] ((b ∷ part) ∷ []))) filled ∙ append-nil _))
joined_lines (part ∷ next ∷ parts) = elim (joined_lines (next ∷ parts)) [
  | inl e ↦ inl (ap (λ l. part ++ 10 ∷ l) e ∙ sym (append_assoc part (10 ∷ []) _))
  | inr e ↦ inr (append_assoc part (10 ∷ join_with_byte 10 (next ∷ parts)) (10 ∷ []) ∙ ap (λ l. part ++ 10 ∷ l) e ∙ sym (append_assoc part (10 ∷ []) _))
]

pub lines_joined : (bytes : List ℕ) → (bytes ≡ ended (lines_of bytes)) ⊎ (bytes ++ 10 ∷ [] ≡ ended (lines_of bytes))
lines_joined bytes =
    let whole = join_with_byte-slice_split 10 bytes in
    elim (joined_lines (slice_split (λ b. b == 10) bytes)) [ inl e ↦ inl (sym whole ∙ e) | inr e ↦ inr (ap (λ l. l ++ 10 ∷ []) (sym whole) ∙ e) ]

-- a text whose last line has no end
split_filled : (c : ℕ) (bytes : List ℕ) → (first : List ℕ) × (more : List (List ℕ)) × (slice_split (λ b. b == c) bytes ≡ first ∷ more)
split_filled c [] = ([], [], refl)
split_filled c (x ∷ bytes) =
    let rest = split_filled c bytes in
    elim (x == c) as (λ b. (first : List ℕ) × (more : List (List ℕ)) × (cond b ([] ∷ slice_split (λ b. b == c) bytes) (onto_first x (slice_split (λ b. b == c) bytes)) ≡ first ∷ more)) [
      | true ↦ ([], slice_split (λ b. b == c) bytes, refl)
      | false ↦ (x ∷ rest.0, rest.1, ap (onto_first x) rest.2)
    ]

onto_more : (x : ℕ) (parts more : List (List ℕ)) (first : List ℕ) (others : List (List ℕ)) → parts ≡ first ∷ others → onto_first x (parts ++ more) ≡ onto_first x parts ++ more
onto_more x parts more first others e = ap (λ p. onto_first x (p ++ more)) e ∙ ap (λ p. onto_first x p ++ more) (sym e)

split_ended : (c : ℕ) (bytes : List ℕ) → slice_split (λ b. b == c) (bytes ++ c ∷ []) ≡ slice_split (λ b. b == c) bytes ++ [] ∷ []
split_ended c [] = cut_word c [] [] tt
split_ended c (x ∷ bytes) =
    let parts : List (List ℕ) = slice_split (λ b. b == c) bytes in
    let filled = split_filled c bytes in
    let rest : slice_split (λ b. b == c) (bytes ++ c ∷ []) ≡ parts ++ [] ∷ [] = split_ended c bytes in
    elim (x == c) as (λ b. cond b ([] ∷ slice_split (λ b. b == c) (bytes ++ c ∷ [])) (onto_first x (slice_split (λ b. b == c) (bytes ++ c ∷ []))) ≡ cond b ([] ∷ parts) (onto_first x parts) ++ [] ∷ []) [
      | true ↦ ap (λ p. [] ∷ p) rest
      | false ↦ ap (onto_first x) rest ∙ onto_more x parts ([] ∷ []) filled.0 filled.1 filled.2
    ]

end_kept : (lines : List (List ℕ)) → AllByRecursion (λ line. 0 < length line) lines → without_empty_end lines ≡ lines
end_kept [] all = refl
end_kept (x ∷ []) all = let filled : (length x == 0) ≡ false = grind (arith, all.0) in ap (λ b. cond b [] (x ∷ [])) filled
end_kept (x ∷ y ∷ lines) all = ap (λ l. x ∷ l) (end_kept (y ∷ lines) all.1)

pub lines_unended : (bytes : List ℕ) (lines : List (List ℕ)) → AllByRecursion (Lacks 10) lines → AllByRecursion (λ line. 0 < length line) lines → bytes ++ 10 ∷ [] ≡ ended lines → lines_of bytes ≡ lines
lines_unended bytes lines lack filled e =
    let parts : slice_split (λ b. b == 10) bytes ≡ lines =
    sym (end_dropped (slice_split (λ b. b == 10) bytes))
    ∙ ap without_empty_end (sym (split_ended 10 bytes) ∙ ap (slice_split (λ b. b == 10)) e ∙ split_lines lines lack)
    ∙ end_dropped lines in
    ap without_empty_end parts ∙ end_kept lines filled
