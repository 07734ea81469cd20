-- The pieces of a text, taken off one at a time: lines at line feeds, words at spaces.
use Rattle.std.proofs.Common.{◌≡◌, ℕ, ◌+◌, ◌<◌, ◌≤◌, ◌==◌, ◌≢◌, Bool, true, false, List, [], ◌∷◌, zero, suc, length, take, drop, get_or, refl, sym, ap, ◌∙◌, arith, cond}
use Rattle.std.specs.List.{slice_split, onto_first}
use Rattle.std.proofs.lemmas.List.Splits.{slice_split-cons_yes, slice_split-cons_no}
use Rattle.query_rules.specs.Words.{lines_of, words_of, without_empty_end}

abbrev cuts : ℕ → ℕ → Bool
cuts separator b = b == separator

-- a split has a first part
split_some : (s : ℕ) (xs : List ℕ) → (h : List ℕ) × (t : List (List ℕ)) × (slice_split (cuts s) xs ≡ h ∷ t)
split_some s [] = ([], [], refl)
split_some s (x ∷ xs) = let r = split_some s xs in
    elim (cuts s x) as (λ b. (h : List ℕ) × (t : List (List ℕ)) × (cond b ([] ∷ slice_split (cuts s) xs) (onto_first x (slice_split (cuts s) xs)) ≡ h ∷ t)) [
      | true ↦ ([], slice_split (cuts s) xs, refl)
      | false ↦ (x ∷ r.0, r.1, ap (onto_first x) r.2)
    ]

split_cut : (s : ℕ) (bytes : List ℕ) (end : ℕ) → end < length bytes → ((k : ℕ) → k < end → get_or bytes k 0 ≢ s) → get_or bytes end 0 ≡ s → slice_split (cuts s) bytes ≡ take end bytes ∷ slice_split (cuts s) (drop (end + 1) bytes)
split_cut s [] end lt before at = absurd (omega arith)
split_cut s (x ∷ xs) zero lt before at = slice_split-cons_yes (cuts s) x xs (grind arith)
split_cut s (x ∷ xs) (suc e) lt before at =
    let other : cuts s x ≡ false = grind (arith, before 0 (omega arith)) in
    let step : e + 1 ≡ suc e = omega arith in
    slice_split-cons_no (cuts s) x xs other
    ∙ ap (onto_first x) (split_cut s xs e (omega arith) (λ k h. before (suc k) (omega arith)) at)
    ∙ ap (λ n. (x ∷ take e xs) ∷ slice_split (cuts s) (drop n (x ∷ xs))) (let f : suc (e + 1) ≡ suc e + 1 = omega arith in f)

split_none : (s : ℕ) (bytes : List ℕ) → ((k : ℕ) → k < length bytes → get_or bytes k 0 ≢ s) → slice_split (cuts s) bytes ≡ bytes ∷ []
split_none s [] before = refl
split_none s (x ∷ xs) before =
    let other : cuts s x ≡ false = grind (arith, before 0 (omega arith)) in
    slice_split-cons_no (cuts s) x xs other ∙ ap (onto_first x) (split_none s xs (λ k h. before (suc k) (omega arith)))

end_more : (x : List ℕ) (parts : List (List ℕ)) (h : List ℕ) (t : List (List ℕ)) → parts ≡ h ∷ t → without_empty_end (x ∷ parts) ≡ x ∷ without_empty_end parts
end_more x parts h t e = ap (λ p. without_empty_end (x ∷ p)) e ∙ ap (λ p. x ∷ without_empty_end p) (sym e)

lines_cut : (bytes : List ℕ) (end : ℕ) → end < length bytes → ((k : ℕ) → k < end → get_or bytes k 0 ≢ 10) → get_or bytes end 0 ≡ 10 → lines_of bytes ≡ take end bytes ∷ lines_of (drop (end + 1) bytes)
lines_cut bytes end lt before at =
    let some = split_some 10 (drop (end + 1) bytes) in
    ap without_empty_end (split_cut 10 bytes end lt before at) ∙ end_more (take end bytes) _ some.0 some.1 some.2

lines_last : (bytes : List ℕ) → 0 < length bytes → ((k : ℕ) → k < length bytes → get_or bytes k 0 ≢ 10) → lines_of bytes ≡ bytes ∷ []
lines_last [] some before = absurd (omega arith)
lines_last (x ∷ xs) some before =
    let filled : (length (x ∷ xs) == 0) ≡ false = grind arith in
    ap without_empty_end (split_none 10 (x ∷ xs) before) ∙ ap (λ b. cond b [] ((x ∷ xs) ∷ [])) filled

pub words_cut : (text : List ℕ) (end : ℕ) → end < length text → ((k : ℕ) → k < end → get_or text k 0 ≢ 32) → get_or text end 0 ≡ 32 → words_of text ≡ take end text ∷ words_of (drop (end + 1) text)
words_cut text end lt before at = split_cut 32 text end lt before at

pub words_last : (text : List ℕ) → ((k : ℕ) → k < length text → get_or text k 0 ≢ 32) → words_of text ≡ text ∷ []
words_last text before = split_none 32 text before

byte_is : (a b : ℕ) → (b == a) ≡ true → b ≡ a
byte_is a b e = grind (arith, e)

is_byte : (a b : ℕ) → b ≡ a → (b == a) ≡ true
is_byte a b e = grind (arith, e)

-- as a search for the separator finds it
pub lines_found : (bytes : List ℕ) (end : ℕ) → end < length bytes → ((k : ℕ) → 0 ≤ k → k < end → (get_or bytes k 0 == 10) ≡ true → ⊥) → (get_or bytes end 0 == 10) ≡ true → lines_of bytes ≡ take end bytes ∷ lines_of (drop (end + 1) bytes)
lines_found bytes end lt before at = lines_cut bytes end lt (λ k h e. before k (omega arith) h (is_byte 10 (get_or bytes k 0) e)) (byte_is 10 (get_or bytes end 0) at)

pub lines_unfound : (bytes : List ℕ) → 0 < length bytes → ((k : ℕ) → 0 ≤ k → k < length bytes → (get_or bytes k 0 == 10) ≡ true → ⊥) → lines_of bytes ≡ bytes ∷ []
lines_unfound bytes some before = lines_last bytes some (λ k h e. before k (omega arith) h (is_byte 10 (get_or bytes k 0) e))

pub words_found : (text : List ℕ) (end : ℕ) → end < length text → ((k : ℕ) → 0 ≤ k → k < end → (get_or text k 0 == 32) ≡ true → ⊥) → (get_or text end 0 == 32) ≡ true → words_of text ≡ take end text ∷ words_of (drop (end + 1) text)
words_found text end lt before at = words_cut text end lt (λ k h e. before k (omega arith) h (is_byte 32 (get_or text k 0) e)) (byte_is 32 (get_or text end 0) at)

pub words_unfound : (text : List ℕ) → ((k : ℕ) → 0 ≤ k → k < length text → (get_or text k 0 == 32) ≡ true → ⊥) → words_of text ≡ text ∷ []
words_unfound text before = words_last text (λ k h e. before k (omega arith) h (is_byte 32 (get_or text k 0) e))
