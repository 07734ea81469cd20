-- Words without a space or a line feed, and the words of a line read again.
use Rattle.std.proofs.Common.{◌≡◌, ℕ, ◌<◌, ◌≤◌, ◌^◌, ◌==◌, ◌&&◌, Bool, true, false, List, [], ◌∷◌, ◌++◌, length, map, decimal, ◌≢◌, cond, not, take, Option, Some, None, length-append, refl, sym, ap, ◌∙◌, append_assoc, arith, rules, tests}
use Rattle.std.specs.List.{slice_split, onto_first, AllByRecursion}
use Rattle.std.specs.Str.{all_ascii_digits}
use Rattle.std.specs.Char.{is_ascii_digit}
use Rattle.std.specs.Str.Parse.{digits_value}
use Rattle.std.proofs.lemmas.Str.Parse.{IsNumeralModel, numerals_by_value, tells_all_ascii_digits}
use Rattle.std.proofs.lemmas.Fmt.{digits_decimal}
use Rattle.std.proofs.lemmas.List.{append_cancel_left, take_all}
use Rattle.std.proofs.lemmas.Bool.{and_parts}
use Rattle.query_rules.specs.Words.{words_of, lines_of, line_of, without_empty_end}
use Rattle.query_text.specs.Spaced.{spaced}
use Rattle.log_reader.proofs.WideNumbers.{wide_digits}
use Rattle.query_rules.proofs.Spelled.{Lacks, cut_word, words_again}

own : IsNumeralModel (λ ds. all_ascii_digits ds ≡ true) (digits_value 10)
own = numerals_by_value _ tells_all_ascii_digits

-- a split has a first part
split_some : (xs : List ℕ) → (h : List ℕ) × (t : List (List ℕ)) × (slice_split (λ b. b == 10) xs ≡ h ∷ t)
split_some [] = ([], [], refl)
split_some (x ∷ xs) = let r = split_some xs in
    elim (x == 10) as (λ b. (h : List ℕ) × (t : List (List ℕ)) × (cond b ([] ∷ slice_split (λ b. b == 10) xs) (onto_first x (slice_split (λ b. b == 10) xs)) ≡ h ∷ t)) [
      | true ↦ ([], slice_split (λ b. b == 10) xs, refl)
      | false ↦ (x ∷ r.0, r.1, ap (onto_first x) r.2)
    ]

end_more : (x : List ℕ) (parts : List (List ℕ)) (h : List ℕ) (t : List (List ℕ)) → parts ≡ h ∷ t → without_empty_end (x ∷ parts) ≡ x ∷ without_empty_end parts
end_more x parts h t e = ap (λ p. without_empty_end (x ∷ p)) e ∙ ap (λ p. x ∷ without_empty_end p) (sym e)

-- no byte of the word ends a word or a line
pub record Clean (w : List ℕ) : Type 0 where
  pub space : Lacks 32 w
  pub end : Lacks 10 w

and_left : (a b : Bool) → (a && b) ≡ true → a ≡ true
and_left true b h = refl
and_left false b h = h

and_right : (a b : Bool) → (a && b) ≡ true → b ≡ true
and_right true b h = h
and_right false b h = absurd (search (rules, h))

digit_lacks : (c d : ℕ) → is_ascii_digit d ≡ true → c < 48 → (d == c) ≡ false
digit_lacks c d h lt = grind (arith, tests)

digits_lack : (c : ℕ) (w : List ℕ) → c < 48 → all_ascii_digits w ≡ true → Lacks c w
digits_lack c [] lt h = tt
digits_lack c (d ∷ w) lt h = (digit_lacks c d (and_left _ _ h) lt, digits_lack c w lt (and_right (is_ascii_digit d) _ h))

pub clean_number : (n : ℕ) → n < 2 ^ 64 → Clean (decimal n)
clean_number n small =
    let digits = digits_decimal own n small in
    record { space = digits_lack 32 (decimal n) (omega arith) digits; end = digits_lack 10 (decimal n) (omega arith) digits }

pub clean_wide : (n : ℕ) → n < 2 ^ 128 → Clean (decimal n)
clean_wide n small =
    let digits = wide_digits n small in
    record { space = digits_lack 32 (decimal n) (omega arith) digits; end = digits_lack 10 (decimal n) (omega arith) digits }

-- a word is clean where this test says so
abbrev pub is_clean : List ℕ → Bool
is_clean [] = true
is_clean (b ∷ w) = not (b == 32) && (not (b == 10) && is_clean w)

not_true : (b : Bool) → not b ≡ true → b ≡ false
not_true true h = sym h
not_true false h = refl

pub clean_if : (w : List ℕ) → is_clean w ≡ true → Clean w
clean_if [] h = record { space = tt; end = tt }
clean_if (b ∷ w) h =
    let p = and_parts (not (b == 32)) (not (b == 10) && is_clean w) h in
    let q = and_parts (not (b == 10)) (is_clean w) p.1 in
    let rest = clean_if w q.1 in
    record { space = (not_true (b == 32) p.0, rest.space); end = (not_true (b == 10) q.0, rest.end) }

pub clean_numbers : (ns : List ℕ) → AllByRecursion (λ n. n < 2 ^ 64) ns → AllByRecursion Clean (map decimal ns)
clean_numbers [] all = tt
clean_numbers (n ∷ ns) all = (clean_number n all.0, clean_numbers ns all.1)

pub all_append : {X : Type 0} (P : X → Type 0) (xs ys : List X) → AllByRecursion P xs → AllByRecursion P ys → AllByRecursion P (xs ++ ys)
all_append P [] ys a b = b
all_append P (x ∷ xs) ys a b = (a.0, all_append P xs ys a.1 b)

pub all_weaker : {X : Type 0} (P Q : X → Type 0) → ((x : X) → P x → Q x) → (xs : List X) → AllByRecursion P xs → AllByRecursion Q xs
all_weaker P Q f [] all = tt
all_weaker P Q f (x ∷ xs) all = (f x all.0, all_weaker P Q f xs all.1)

all_space : (ws : List (List ℕ)) → AllByRecursion Clean ws → AllByRecursion (Lacks 32) ws
all_space [] all = tt
all_space (w ∷ ws) all = (all.0.space, all_space ws all.1)

lacks_spaced : (ws : List (List ℕ)) → AllByRecursion Clean ws → Lacks 10 (spaced ws)
lacks_spaced [] all = tt
lacks_spaced (w ∷ ws) all = (refl, all_append (λ b. (b == 10) ≡ false) w (spaced ws) all.0.end (lacks_spaced ws all.1))

-- the first line of a text that begins with a line of words
pub first_line_again : (w : List ℕ) (ws : List (List ℕ)) (rest : List ℕ) → Clean w → AllByRecursion Clean ws → lines_of (line_of (w ∷ ws) ++ rest) ≡ (w ++ spaced ws) ∷ lines_of rest
first_line_again w ws rest clean all =
    let some = split_some rest in
    let lacks : Lacks 10 (w ++ spaced ws) = all_append (λ b. (b == 10) ≡ false) w (spaced ws) clean.end (lacks_spaced ws all) in
    let regroup : line_of (w ∷ ws) ++ rest ≡ (w ++ spaced ws) ++ 10 ∷ rest = append_assoc (w ++ spaced ws) (10 ∷ []) rest in
    ap lines_of regroup ∙ ap without_empty_end (cut_word 10 (w ++ spaced ws) rest lacks) ∙ end_more (w ++ spaced ws) _ some.0 some.1 some.2

head_same : {X : Type 0} (x y : X) (xs ys : List X) → x ∷ xs ≡ y ∷ ys → x ≡ y
head_same x y xs ys h = ap (λ l. elim l [ [] ↦ x | z ∷ zs ↦ z ]) h

-- the first line, cut off as it is, has these words
pub first_words : (w : List ℕ) (ws : List (List ℕ)) (bytes rest line : List ℕ) (more : List (List ℕ)) → Clean w → AllByRecursion Clean ws
    → lines_of bytes ≡ line ∷ more → bytes ≡ line_of (w ∷ ws) ++ rest → words_of line ≡ w ∷ ws
first_words w ws bytes rest line more clean all cut is =
    let same : line ≡ w ++ spaced ws = head_same line _ more _ (sym cut ∙ ap lines_of is ∙ first_line_again w ws rest clean all) in
    ap words_of same ∙ words_again w ws clean.space (all_space ws all)

-- a kind of line: what has a line, its words, and how they are read
pub record IsForm {X : Type 0} (fits : X → Type 0) (words : X → List (List ℕ)) (read : List (List ℕ) → Option X) : Type 0 where
  pub again : (x : X) → fits x → read (words x) ≡ Some x
  pub clean : (x : X) → fits x → AllByRecursion Clean (words x)
  pub some : (x : X) → 0 < length (words x)
  pub few : (x : X) → length (words x) ≤ 16

words_cut : (ws : List (List ℕ)) → 0 < length ws → AllByRecursion Clean ws → (bytes rest line : List ℕ) (more : List (List ℕ)) → lines_of bytes ≡ line ∷ more → bytes ≡ line_of ws ++ rest → words_of line ≡ ws
words_cut [] some all bytes rest line more cut is = absurd (omega (arith, some))
words_cut (w ∷ ws) some all bytes rest line more cut is = first_words w ws bytes rest line more all.0 all.1 cut is

-- the first line of bytes that begin with a line of words
front_line : (ws : List (List ℕ)) → 0 < length ws → AllByRecursion Clean ws → (rest : List ℕ) → (line : List ℕ) × (more : List (List ℕ)) × (lines_of (line_of ws ++ rest) ≡ line ∷ more)
front_line [] some all rest = absurd (omega (arith, some))
front_line (w ∷ ws) some all rest = (w ++ spaced ws, lines_of rest, first_line_again w ws rest all.0 all.1)

pub some_same : {X : Type 0} (x y : X) → Some x ≡ Some y → x ≡ y
some_same {X} x y h = ap (λ (o : Option X). elim o [ Some z ↦ z | None ↦ x ]) h

none_some : {X : Type 0} (o : Option X) (x : X) → o ≡ None → o ≡ Some x → ⊥
none_some o x n s = absurd (search (rules, n, s))

line_some : (ws : List (List ℕ)) (rest : List ℕ) → 0 < length (line_of ws ++ rest)
line_some [] rest = omega arith
line_some (w ∷ ws) rest = grind (arith, length-append)

module _ {X : Type 0} (fits : X → Type 0) (words : X → List (List ℕ)) (read : List (List ℕ) → Option X) (form : IsForm fits words read) where
  pub line_cut : (x : X) → fits x → (bytes rest line : List ℕ) (more : List (List ℕ)) → lines_of bytes ≡ line ∷ more → bytes ≡ line_of (words x) ++ rest → read (take 16 (words_of line)) ≡ Some x
  line_cut x fit bytes rest line more cut is =
      ap (λ ws. read (take 16 ws)) (words_cut (words x) (form.some x) (form.clean x fit) bytes rest line more cut is)
      ∙ ap read (take_all 16 (words x) (form.few x)) ∙ form.again x fit

  -- a line says one thing, whatever follows it
  pub front_same : (x y : X) (r s : List ℕ) → fits x → fits y → line_of (words x) ++ r ≡ line_of (words y) ++ s → x ≡ y
  front_same x y r s fx fy is =
      let f = front_line (words x) (form.some x) (form.clean x fx) r in
      some_same x y (sym (line_cut x fx (line_of (words x) ++ r) r f.0 f.1 f.2 refl) ∙ line_cut y fy (line_of (words x) ++ r) s f.0 f.1 f.2 is)

  pub rest_same : (x y : X) (r s : List ℕ) → fits x → fits y → line_of (words x) ++ r ≡ line_of (words y) ++ s → r ≡ s
  rest_same x y r s fx fy is =
      append_cancel_left (line_of (words x)) r s (is ∙ ap (λ z. line_of (words z) ++ s) (sym (front_same x y r s fx fy is)))

  -- the first line's words are read as first, but the bytes don't begin with first's line
  pub other_line : (x first : X) → fits x → (bytes line made : List ℕ) (more ws : List (List ℕ)) → lines_of bytes ≡ line ∷ more → ws ≡ take 16 (words_of line) → read ws ≡ Some first
      → made ≡ line_of (words first) → ((t : List ℕ) → bytes ≢ made ++ t) → (rest : List ℕ) → bytes ≢ line_of (words x) ++ rest
  other_line x first fit bytes line made more ws cut is found made_is other rest begins =
      let again = line_cut x fit bytes rest line more cut begins in
      let same : first ≡ x = some_same first x (sym found ∙ ap read is ∙ again) in
      other rest (begins ∙ ap (λ z. line_of (words z) ++ rest) (sym same) ∙ ap (λ l. l ++ rest) (sym made_is))

  -- the first line's words aren't read
  pub no_line : (x : X) → fits x → (bytes line : List ℕ) (more ws : List (List ℕ)) → lines_of bytes ≡ line ∷ more → ws ≡ take 16 (words_of line) → read ws ≡ None → (rest : List ℕ) → bytes ≢ line_of (words x) ++ rest
  no_line x fit bytes line more ws cut is none rest begins = none_some (read ws) x none (ap read is ∙ line_cut x fit bytes rest line more cut begins)

  pub bytes_some : (x : X) (bytes rest : List ℕ) → length bytes ≡ 0 → bytes ≢ line_of (words x) ++ rest
  bytes_some x bytes rest none is =
      let some = line_some (words x) rest in
      let same : length bytes ≡ length (line_of (words x) ++ rest) = ap length is in
      omega (arith, some, same, none)
