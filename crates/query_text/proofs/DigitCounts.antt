-- How many digits a number has, and digits that are written behind a front.
use Rattle.std.proofs.Common.{rules, ◌≡◌, ℕ, ◌+◌, ◌/◌, ◌^◌, ◌<◌, ◌≤◌, List, ◌++◌, length, take, drop, sym, ap, ◌∙◌, arith, decimal, length-append}
use Rattle.std.proofs.lemmas.Fmt.{decimal_digit, decimal_step, length-decimal-le}
use Rattle.std.proofs.lemmas.List.{take-append-drop, length-take-le}
use Rattle.std.proofs.Math.Seq.{take-append-add, take-append_seam}

-- one digit
pub one_digit : (n : ℕ) → n < 10 → length (decimal n) ≡ 1
one_digit n few = ap length (decimal_digit n few)

-- the last digit
digit_more : (n : ℕ) → 10 ≤ n → n < 2 ^ 64 → length (decimal n) ≡ length (decimal (n / 10)) + 1
digit_more n many fits = ap length (decimal_step n many fits) ∙ length-append (decimal (n / 10)) _

pub two_digits : (n : ℕ) → 10 ≤ n → n < 100 → length (decimal n) ≡ 2
two_digits n many few =
    let last = digit_more n many (omega (arith, few)) in
    let front = one_digit (n / 10) (omega (arith, few)) in
    omega (arith, last, front)

pub three_digits : (n : ℕ) → 100 ≤ n → n < 1000 → length (decimal n) ≡ 3
three_digits n many few =
    let last = digit_more n (omega (arith, many)) (omega (arith, few)) in
    let front = two_digits (n / 10) (omega (arith, many)) (omega (arith, few)) in
    omega (arith, last, front)

pub four_digits : (n : ℕ) → 1000 ≤ n → n < 10000 → length (decimal n) ≡ 4
four_digits n many few =
    let last = digit_more n (omega (arith, many)) (omega (arith, few)) in
    let front = three_digits (n / 10) (omega (arith, many)) (omega (arith, few)) in
    omega (arith, last, front)

-- the last four
pub four_more : (n : ℕ) → 10000 ≤ n → n < 2 ^ 64 → length (decimal n) ≡ length (decimal (n / 10000)) + 4
four_more n many fits =
    let a = n / 10 in
    let b = a / 10 in
    let c = b / 10 in
    let one = digit_more n (omega (arith, many)) fits in
    let two = digit_more a (omega (arith, many)) (omega (arith, fits)) in
    let three = digit_more b (omega (arith, many)) (omega (arith, fits)) in
    let four = digit_more c (omega (arith, many)) (omega (arith, fits)) in
    let same : c / 10 ≡ n / 10000 = omega arith in
    let left = ap (λ m. length (decimal m)) same in
    omega (arith, one, two, three, four, left)

pub at_most_twenty : (n : ℕ) → n < 2 ^ 64 → length (decimal n) ≤ 20
at_most_twenty n fits = search (rules, length-decimal-le 20)

-- what is written behind a front of a list, where the front stays
pub behind_front : (old new ds rest : List ℕ) (start end : ℕ) → start ≤ length old → start + length ds ≡ end → take start new ≡ take start old → drop start new ≡ ds ++ rest → take end new ≡ take start old ++ ds
behind_front old new ds rest start end fits ends before written =
    let xs : List ℕ = take start old in
    let long : length xs ≡ start = length-take-le start old fits in
    let whole : new ≡ xs ++ (ds ++ rest) = sym (take-append-drop start new) ∙ ap (λ l. l ++ drop start new) before ∙ ap (λ l. xs ++ l) written in
    let at : end ≡ length xs + length ds = omega (arith, long, ends) in
    ap (take end) whole ∙ ap (λ n. take n (xs ++ (ds ++ rest))) at ∙ take-append-add xs (ds ++ rest) (length ds) ∙ ap (λ l. xs ++ l) (take-append_seam ds rest)
