-- Lists of queries.
use Rattle.std.proofs.Common.{◌≡◌, ℕ, ◌+◌, ◌-◌, ◌<◌, ◌^◌, min, take, sum_by, arith, length-append, List, [], ◌∷◌, ◌++◌, length, get_or, set, sym, ap, ◌∙◌}
use Rattle.std.proofs.lemmas.List.{get_or_default}
use Rattle.std.proofs.lemmas.List.Sums.{sum_by-set}
use Rattle.std.proofs.Math.Seq.{take-append_seam}
use Rattle.query_rules.specs.declared.query.Query.{Query}
use Rattle.query_rules.specs.Grammar.{with_query}

-- the last list with one query more, as the code sets it
pub query_added : (lists : List (List Query)) (i : ℕ) (old new : List Query) (q : Query) → i ≡ length lists - 1 → i < length lists → old ≡ get_or lists i old → new ≡ old ++ q ∷ [] → set lists i new ≡ with_query lists q
query_added lists i old new q last lt is more =
    let here : old ≡ get_or lists i [] = is ∙ get_or_default lists i old [] lt in
    ap (λ l. set lists i l) (more ∙ ap (λ l. l ++ q ∷ []) here)
    ∙ ap (λ n. set lists n (get_or lists n [] ++ q ∷ [])) last

-- one query more
total_more : (lists : List (List Query)) (q : Query) → 0 < length lists → sum_by length (with_query lists q) ≡ sum_by length lists + 1
total_more lists q some =
    let at : List Query = get_or lists (length lists - 1) [] in
    let sums = sum_by-set (length {A = Query}) lists (length lists - 1) (at ++ q ∷ []) [] (omega (arith, some)) in
    let len = length-append at (q ∷ []) in
    omega (arith, sums, len)

-- as a count that stands still
pub count_more : (lists : List (List Query)) (q : Query) (new : List (List Query)) (count : ℕ) → 0 < length lists → new ≡ with_query lists q → count ≡ min (sum_by length lists) (2 ^ 64 - 1)
    → min (count + 1) (2 ^ 64 - 1) ≡ min (sum_by length new) (2 ^ 64 - 1)
count_more lists q new count some is had =
    let sums : sum_by length new ≡ sum_by length lists + 1 = ap (λ (l : List (List Query)). sum_by length l) is ∙ total_more lists q some in
    omega (arith, sums, had)

-- the first six of some words
pub six_front : (xs ys zs : List (List ℕ)) → length xs ≡ 6 → xs ++ ys ≡ zs → xs ≡ take 6 zs
six_front xs ys zs len e = sym (ap (take 6) (sym e) ∙ ap (λ n. take n (xs ++ ys)) (sym len) ∙ take-append_seam xs ys)
