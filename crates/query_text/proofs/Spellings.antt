-- What is wrong with a text, one word at a time.
use Rattle.std.proofs.Common.{◌≡◌, ℕ, ◌+◌, ◌<◌, ◌==◌, ◌||◌, ◌≢◌, Bool, true, false, cond, List, [], ◌∷◌, zero, suc, length, take, drop, get_or, refl, sym, ap, ◌∙◌, arith, nat_lt}
use Rattle.std.specs.declared.option.Option.{Option}
use Rattle.std.specs.declared.result.Result.{Result}
use Rattle.std.specs.Prelude.{Some, None, Err}
use Rattle.query_rules.specs.declared.query.Cause.{Cause}
use Rattle.query_rules.specs.declared.query.Cause.TheVariants.{BadByte, Spacing}
use Rattle.query_rules.specs.Grammar.{Asked, spelled_line, has_bad_byte, is_misspaced}
use Rattle.query_rules.specs.Words.{words_of}
use Rattle.query_text.specs.Spelling.{is_visible, fault_in}
use Rattle.query_text.proofs.Lines.{words_cut, words_last}

abbrev is_bad : ℕ → Bool
is_bad b = nat_lt b 32 || nat_lt 126 b

visible_good : (b : ℕ) → is_visible b ≡ true → is_bad b ≡ false
visible_good b e = grind (arith, e)

visible_no_space : (b : ℕ) → is_visible b ≡ true → b ≢ 32
visible_no_space b e = grind (arith, e)

-- a word and the space behind it have no bad byte
good_cut : (text : List ℕ) (end : ℕ) → end < length text → ((k : ℕ) → k < end → is_visible (get_or text k 0) ≡ true) → get_or text end 0 ≡ 32 → has_bad_byte text ≡ has_bad_byte (drop (end + 1) text)
good_cut [] end lt before at = absurd (omega arith)
good_cut (x ∷ xs) zero lt before at = ap (λ b. is_bad b || has_bad_byte xs) at
good_cut (x ∷ xs) (suc e) lt before at =
    let next : suc (e + 1) ≡ suc e + 1 = omega arith in
    ap (λ b. b || has_bad_byte xs) (visible_good x (before 0 (omega arith)))
    ∙ good_cut xs e (omega arith) (λ k h. before (suc k) (omega arith)) at
    ∙ ap (λ n. has_bad_byte (drop n (x ∷ xs))) next

good_all : (text : List ℕ) → ((k : ℕ) → k < length text → is_visible (get_or text k 0) ≡ true) → has_bad_byte text ≡ false
good_all [] before = refl
good_all (x ∷ xs) before =
    ap (λ b. b || has_bad_byte xs) (visible_good x (before 0 (omega arith)))
    ∙ good_all xs (λ k h. before (suc k) (omega arith))

filled : {X : Type 0} (xs : List X) → 0 < length xs → (length xs == 0) ≡ false
filled xs some = grind (arith, some)

fault_same : (text rest word : List ℕ) (words : List (List ℕ)) → has_bad_byte text ≡ has_bad_byte rest → words_of text ≡ word ∷ words_of rest → 0 < length word → fault_in text ≡ fault_in rest
fault_same text rest word words good cut some =
    ap (λ b. cond b (Some BadByte) (cond (is_misspaced (words_of text)) (Some Spacing) None)) good
    ∙ ap (λ ws. cond (has_bad_byte rest) (Some BadByte) (cond (is_misspaced ws) (Some Spacing) None)) cut
    ∙ ap (λ b. cond (has_bad_byte rest) (Some BadByte) (cond (b || is_misspaced (words_of rest)) (Some Spacing) None)) (filled word some)

pub word_cut : (text : List ℕ) (end : ℕ) → end < length text → ((k : ℕ) → k < end → is_visible (get_or text k 0) ≡ true) → get_or text end 0 ≡ 32 → words_of text ≡ take end text ∷ words_of (drop (end + 1) text)
word_cut text end lt before at = words_cut text end lt (λ k h. visible_no_space (get_or text k 0) (before k h)) at

pub word_last : (text : List ℕ) → ((k : ℕ) → k < length text → is_visible (get_or text k 0) ≡ true) → words_of text ≡ text ∷ []
word_last text before = words_last text (λ k h. visible_no_space (get_or text k 0) (before k h))

pub fault_cut : (text : List ℕ) (end : ℕ) → end < length text → ((k : ℕ) → k < end → is_visible (get_or text k 0) ≡ true) → get_or text end 0 ≡ 32 → 0 < length (take end text) → fault_in text ≡ fault_in (drop (end + 1) text)
fault_cut text end lt before at some = fault_same text (drop (end + 1) text) (take end text) (words_of (drop (end + 1) text)) (good_cut text end lt before at) (word_cut text end lt before at) some

pub fault_last : (text : List ℕ) → ((k : ℕ) → k < length text → is_visible (get_or text k 0) ≡ true) → 0 < length text → fault_in text ≡ None
fault_last text before some =
    ap (λ b. cond b (Some BadByte) (cond (is_misspaced (words_of text)) (Some Spacing) None)) (good_all text before)
    ∙ ap (λ ws. cond (is_misspaced ws) (Some Spacing) None) (word_last text before)
    ∙ ap (λ b. cond (b || false) (Some Spacing) None) (filled text some)

-- a line is refused for its bytes and spaces first
spelled_by : (bad misspaced : Bool) (said : Result Asked Cause) (o : Option Cause) → cond bad (Some BadByte) (cond misspaced (Some Spacing) None) ≡ o
    → cond bad (Err BadByte) (cond misspaced (Err Spacing) said) ≡ elim o [ Some cause ↦ Err cause | None ↦ said ]
spelled_by true misspaced said o e = ap (λ (o : Option Cause). elim o as (λ _. Result Asked Cause) [ Some cause ↦ Err cause | None ↦ said ]) e
spelled_by false true said o e = ap (λ (o : Option Cause). elim o as (λ _. Result Asked Cause) [ Some cause ↦ Err cause | None ↦ said ]) e
spelled_by false false said o e = ap (λ (o : Option Cause). elim o as (λ _. Result Asked Cause) [ Some cause ↦ Err cause | None ↦ said ]) e

pub spelled_bad : (says : List (List ℕ) → Result Asked Cause) (line : List ℕ) (cause : Cause) → fault_in line ≡ Some cause → spelled_line says line ≡ Err cause
spelled_bad says line cause e = spelled_by (has_bad_byte line) (is_misspaced (words_of line)) (says (words_of line)) (Some cause) e

-- a line that passes both tests is judged by its words
pub spelled_good : (says : List (List ℕ) → Result Asked Cause) (line : List ℕ) (r : Result Asked Cause) → fault_in line ≡ None → r ≡ says (words_of line) → spelled_line says line ≡ r
spelled_good says line r good e = spelled_by (has_bad_byte line) (is_misspaced (words_of line)) (says (words_of line)) None good ∙ sym e
