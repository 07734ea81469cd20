-- What a clock that goes through a list tells.
use Rattle.std.proofs.Common.{◌≡◌, ℕ, ◌+◌, ◌-◌, ◌^◌, ◌<◌, List, [], ◌∷◌, ◌++◌, None, Some, Bool, true, false, nat_lt, if◌then◌else◌, refl, sym, ap, ◌∙◌, arith}
use Rattle.std.proofs.lemmas.Bool.Decides.{nat_tests}
use Rattle.std.proofs.lemmas.List.FromFn.{map-range_with_len_more}
use Rattle.ql_base.specs.Answers.{AddsAnswer, answer_at, first_answers}
use Rattle.ql_base.specs.Causes.{count_after}

pub first_answers-next : (listed : List ℕ) (calls : ℕ) → first_answers listed (calls + 1) ≡ first_answers listed calls ++ answer_at listed calls ∷ []
unfolding first_answers
first_answers-next listed calls = map-range_with_len_more (answer_at listed) 0 calls calls (omega arith)

adds : (before after : Bool) (xs ys : List ℕ) (answer : ℕ) → (after ≡ true → (before ≡ true) × (ys ≡ xs ++ answer ∷ [])) → AddsAnswer (if before then Some xs else None) (if after then Some ys else None) answer
adds before false xs ys answer h = tt
adds true true xs ys answer h = (h refl).1
adds false true xs ys answer h = absurd (let no : false ≡ true = (h refl).0 in cc)

below_of_test : (a b : ℕ) → nat_lt a b ≡ true → a < b
below_of_test a b t = grind (arith, nat_tests)

test_of_below : (a b : ℕ) → a < b → nat_lt a b ≡ true
test_of_below a b h = grind (arith, nat_tests)

-- one more call adds its answer, while the count of calls still counts
pub told_next : (listed : List ℕ) (calls next answer : ℕ) → next ≡ count_after calls → answer ≡ answer_at listed calls
    → AddsAnswer (if nat_lt calls (2 ^ 64 - 1) then Some (first_answers listed calls) else None) (if nat_lt next (2 ^ 64 - 1) then Some (first_answers listed next) else None) answer
told_next listed calls next answer counted is =
    adds _ _ _ _ answer
    (λ t.
    let below : next < 2 ^ 64 - 1 = below_of_test next _ t in
    let same : next ≡ calls + 1 = omega arith in
    (test_of_below calls _ (omega arith), ap (first_answers listed) same ∙ first_answers-next listed calls ∙ ap (λ a. first_answers listed calls ++ a ∷ []) (sym is)))
