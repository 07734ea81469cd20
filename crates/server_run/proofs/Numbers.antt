-- How many queries callers have, and how many replies.
use Rattle.std.proofs.Common.{◌≡◌, ℕ, ◌≤◌, List, [], ◌∷◌, length, sum_by, refl, arith, is_some}
use Rattle.std.specs.List.{AllZip}
use Rattle.std.proofs.lemmas.List.Sums.{sum_by-cons, sum_by-le-sum_by, count_by-le-length}
use Rattle.std.proofs.lemmas.Slice.Zip.{AllZip-long}
use Rattle.query_rules.specs.declared.query.Query.{Query}
use Rattle.query_rules.specs.declared.query.Reply.{Reply}
use Rattle.query_rules.specs.History.{AnswersEachOnce, IsKindFor}
use Rattle.query_rules.specs.Ledger.{act_of}
use Rattle.query_rules.specs.Maps.{may_write}
use Rattle.query_rules.specs.Maps.{writes_of}
use Rattle.query_rules.specs.Ledger.{jobs_of}

-- no more of them may write than there are
pub writes_few : (callers : List (List Query)) (most : ℕ) → sum_by length callers ≤ most → sum_by writes_of callers ≤ most
writes_few callers most few = let all = sum_by-le-sum_by writes_of length callers (λ (qs : List Query). count_by-le-length may_write qs) in omega (arith, all, few)

-- and no more ask the ledger
pub jobs_few : (callers : List (List Query)) (most : ℕ) → sum_by length callers ≤ most → sum_by jobs_of callers ≤ most
jobs_few callers most few = let all = sum_by-le-sum_by jobs_of length callers (λ (qs : List Query). count_by-le-length (λ (q : Query). is_some (act_of q)) qs) in omega (arith, all, few)

-- there are as many replies as queries
pub as_many : (callers : List (List Query)) (told : List (List Reply)) → AllZip AnswersEachOnce callers told → sum_by length callers ≡ sum_by length told
as_many [] [] h = refl
as_many [] (rs ∷ told) h = absurd h
as_many (qs ∷ callers) [] h = absurd h
as_many (qs ∷ callers) (rs ∷ told) h =
    let asked = sum_by-cons (length {A = Query}) qs callers in
    let replies = sum_by-cons (length {A = Reply}) rs told in
    let here = AllZip-long IsKindFor qs rs h.0.each in
    let rest = as_many callers told h.1 in
    omega (arith, asked, replies, here, rest)
