-- A number of up to 128 bits that digits write, read from the left and read again.
use Rattle.std.proofs.Common.{◌≡◌, ℕ, ◌+◌, ◌*◌, ◌≤◌, ◌<◌, ◌^◌, ◌&&◌, true, false, cond, nat_lt, List, [], ◌∷◌, length, Some, None, get_or, arith, refl, ap, ◌∙◌, rules, decimal}
use Rattle.std.specs.Char.{digit_value}
use Rattle.std.specs.Str.{all_ascii_digits}
use Rattle.std.specs.Str.Parse.{digits_value, digits_value_after}
use Rattle.std.proofs.lemmas.Str.Parse.{IsNumeralModel, numerals_by_value, tells_all_ascii_digits}
use Rattle.std.proofs.lemmas.Fmt.{decimal_is_IsNumeral_wide}
use Rattle.log_reader.specs.Reading.{wide_of}

own : IsNumeralModel (λ ds. all_ascii_digits ds ≡ true) (digits_value 10)
own = numerals_by_value _ tells_all_ascii_digits

-- more digits write no smaller number
value_grows : (n : ℕ) (ds : List ℕ) → n ≤ digits_value_after 10 n ds
value_grows n [] = omega arith
value_grows n (d ∷ ds) = let more = value_grows (n * 10 + digit_value d) ds in omega (arith, more)

pub wide_digits : (n : ℕ) → n < 2 ^ 128 → all_ascii_digits (decimal n) ≡ true
wide_digits n small = own.from (decimal n) (decimal_is_IsNumeral_wide n (omega (arith, small))).0.1

-- a sum's word says it
pub wide_again : (n : ℕ) → n < 2 ^ 128 → wide_of (decimal n) ≡ Some n
wide_again n small =
    let numeral = decimal_is_IsNumeral_wide n (omega (arith, small)) in
    let digits : all_ascii_digits (decimal n) ≡ true = own.from (decimal n) numeral.0.1 in
    let value : digits_value 10 (decimal n) ≡ n = own.same (decimal n) numeral.0.1 ∙ numeral.1 in
    let fits : nat_lt n (2 ^ 128) ≡ true = search (rules, small) in
    rw (digits, value, fits) refl

pub wide_bad : (w : List ℕ) → all_ascii_digits w ≡ false → wide_of w ≡ None
wide_bad w bad = rw bad refl

pub wide_large : (w ds : List ℕ) (n : ℕ) → digits_value 10 w ≡ digits_value_after 10 n ds → 2 ^ 128 ≤ n → wide_of w ≡ None
wide_large w ds n e large =
    let grows = value_grows n ds in
    let past : nat_lt (digits_value 10 w) (2 ^ 128) ≡ false = search (rules, e, grows, large) in
    elim (all_ascii_digits w) as (λ b. cond (b && nat_lt (digits_value 10 w) (2 ^ 128)) (Some (digits_value 10 w)) None ≡ None) [
      | true ↦ ap (λ b. cond b (Some (digits_value 10 w)) None) past
      | false ↦ refl
    ]

pub wide_done : (w ds : List ℕ) (n : ℕ) → length ds < 1 → all_ascii_digits w ≡ all_ascii_digits ds → digits_value 10 w ≡ digits_value_after 10 n ds → n < 2 ^ 128 → Some n ≡ wide_of w
wide_done w [] n none all e small =
    let value : digits_value 10 w ≡ n = e in
    let yes : nat_lt n (2 ^ 128) ≡ true = search (rules, small) in
    rw all (rw value (rw yes refl))
wide_done w (d ∷ ds) n none all e small = absurd (omega (arith, none))

pub wide_over : (w ds : List ℕ) (n : ℕ) → 1 ≤ length ds → digits_value 10 w ≡ digits_value_after 10 n ds → 2 ^ 128 ≤ n * 10 + digit_value (get_or ds 0 0) → wide_of w ≡ None
wide_over w [] n some e over = absurd (omega (arith, some))
wide_over w (d ∷ ds) n some e over = wide_large w ds (n * 10 + digit_value d) e over
