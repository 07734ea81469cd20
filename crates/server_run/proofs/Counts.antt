-- How much of the two quotas and of the hall's words the queries that are left need.
use Rattle.std.proofs.Common.{◌≡◌, ℕ, ◌+◌, ◌-◌, ◌≤◌, Bool, true, false, cond, List, [], ◌∷◌, length, take, drop, get_or, count_by, refl, ap, ◌∙◌, sym, subst, arith, is_some, MatchBool}
use Rattle.std.proofs.lemmas.List.Sums.{sum_by-cons}
use Rattle.std.proofs.lemmas.List.{take_rest}
use Rattle.query_rules.specs.declared.query.Query.{Query}
use Rattle.query_rules.specs.declared.query.Query.TheVariants.{Get, Len, Put, Del, Add, Cas, PutLen, Move, Both, TryGet, TryPut, GetBy, PutBy, Give, Take, Audit}
use Rattle.query_rules.specs.declared.query.Said.{Said}
use Rattle.query_rules.specs.declared.query.Said.TheVariants as said
use Rattle.query_rules.specs.declared.query.Reply.{Reply}
use Rattle.query_rules.specs.declared.query.Reply.TheVariants.{Placed, Busy, Late, Job}
use Rattle.query_rules.specs.Maps.{is_write, may_write}
use Rattle.query_rules.specs.Ledger.{act_of}
use Rattle.query_rules.specs.History.{IsKindFor, has_said, is_value, is_count, is_both, asks_ledger}
use Rattle.waiter_chain.specs.declared.view.View.{View as ChainView}
use Rattle.query_cells.specs.Asked.{AddsJob, LedgerParcel, tells_write}
use Rattle.query_rules.specs.Maps.{writes_of}
use Rattle.query_rules.specs.Ledger.{jobs_of}

never : {A : Type 0} → false ≡ true → A
never bad = absurd (let is : false ≡ true = bad in cc)

value_reads : (said : Said) → is_value said ≡ true → is_write said ≡ false
value_reads (said.Found v) kind = refl
value_reads said.Absent kind = refl
value_reads (said.Count n) kind = never kind
value_reads said.New kind = never kind
value_reads (said.Old v) kind = never kind
value_reads said.Full kind = never kind
value_reads (said.Now v) kind = never kind
value_reads said.Over kind = never kind
value_reads said.Yes kind = never kind
value_reads (said.No v) kind = never kind
value_reads (said.NewCount n) kind = never kind
value_reads (said.OldCount v n) kind = never kind
value_reads said.Moved kind = never kind
value_reads (said.Short v) kind = never kind
value_reads said.Same kind = never kind
value_reads (said.Pair v w) kind = never kind

count_reads : (said : Said) → is_count said ≡ true → is_write said ≡ false
count_reads (said.Found v) kind = never kind
count_reads said.Absent kind = never kind
count_reads (said.Count n) kind = refl
count_reads said.New kind = never kind
count_reads (said.Old v) kind = never kind
count_reads said.Full kind = never kind
count_reads (said.Now v) kind = never kind
count_reads said.Over kind = never kind
count_reads said.Yes kind = never kind
count_reads (said.No v) kind = never kind
count_reads (said.NewCount n) kind = never kind
count_reads (said.OldCount v n) kind = never kind
count_reads said.Moved kind = never kind
count_reads (said.Short v) kind = never kind
count_reads said.Same kind = never kind
count_reads (said.Pair v w) kind = never kind

both_reads : (said : Said) → is_both said ≡ true → is_write said ≡ false
both_reads (said.Found v) kind = never kind
both_reads said.Absent kind = never kind
both_reads (said.Count n) kind = never kind
both_reads said.New kind = never kind
both_reads (said.Old v) kind = never kind
both_reads said.Full kind = never kind
both_reads (said.Now v) kind = never kind
both_reads said.Over kind = never kind
both_reads said.Yes kind = never kind
both_reads (said.No v) kind = never kind
both_reads (said.NewCount n) kind = never kind
both_reads (said.OldCount v n) kind = never kind
both_reads said.Moved kind = never kind
both_reads (said.Short v) kind = never kind
both_reads said.Same kind = refl
both_reads (said.Pair v w) kind = refl

-- what is said as a write is said to a query that may write
said_writes : (q : Query) (said : Said) → has_said q said ≡ true → is_write said ≡ true → may_write q ≡ true
said_writes (Get cell key) said kind writes = never (sym (value_reads said kind) ∙ writes)
said_writes (Len cell) said kind writes = never (sym (count_reads said kind) ∙ writes)
said_writes (Put cell key value) said kind writes = refl
said_writes (Del cell key) said kind writes = refl
said_writes (Add cell key delta) said kind writes = refl
said_writes (Cas cell key old new) said kind writes = refl
said_writes (PutLen cell key value) said kind writes = refl
said_writes (Move from to key n) said kind writes = refl
said_writes (Both first second key) said kind writes = never (sym (both_reads said kind) ∙ writes)
said_writes (TryGet cell key) said kind writes = never (sym (value_reads said kind) ∙ writes)
said_writes (TryPut cell key value) said kind writes = refl
said_writes (GetBy cell key deadline) said kind writes = never (sym (value_reads said kind) ∙ writes)
said_writes (PutBy cell key value deadline) said kind writes = refl
said_writes (Give key n) said kind writes = never kind
said_writes (Take key n) said kind writes = never kind
said_writes Audit said kind writes = never kind

tells_kind : (q : Query) (reply : Reply) → IsKindFor q reply → tells_write reply ≡ true → may_write q ≡ true
tells_kind q (Placed place said) kind tells = said_writes q said kind tells
tells_kind q Busy kind tells = never tells
tells_kind q (Late now) kind tells = never tells
tells_kind q (Job at result) kind tells = never tells

-- who asks the ledger has a job for it
job_asks : (q : Query) → asks_ledger q ≡ is_some (act_of q)
job_asks (Get cell key) = refl
job_asks (Len cell) = refl
job_asks (Put cell key value) = refl
job_asks (Del cell key) = refl
job_asks (Add cell key delta) = refl
job_asks (Cas cell key old new) = refl
job_asks (PutLen cell key value) = refl
job_asks (Move from to key n) = refl
job_asks (Both first second key) = refl
job_asks (TryGet cell key) = refl
job_asks (TryPut cell key value) = refl
job_asks (GetBy cell key deadline) = refl
job_asks (PutBy cell key value deadline) = refl
job_asks (Give key n) = refl
job_asks (Take key n) = refl
job_asks Audit = refl

-- the next query's part of a count, and the others'
count_next : (f : Query → Bool) (rest : List Query) (d : Query) (whole : ℕ) → 1 ≤ length rest → count_by f rest ≤ whole → cond (f (get_or rest 0 d)) 1 0 + count_by f (take (length rest - 1) (drop 1 rest)) ≤ whole
count_next f [] d whole some enough = absurd (omega (arith, some))
count_next f (q ∷ qs) d whole some enough =
    let all = sum_by-cons (λ (x : Query). cond (f x) 1 0) q qs in
    let tail = ap (count_by f) (take_rest (q ∷ qs) 1) in
    omega (arith, all, tail, enough)

one_if_true : (b : Bool) (rest whole : ℕ) → cond b 1 0 + rest ≤ whole → b ≡ true → 1 ≤ whole
one_if_true true rest whole enough is = omega (arith, enough)
one_if_true false rest whole enough is = never is

less_one : (b : Bool) (rest old new : ℕ) → cond b 1 0 + rest ≤ old → new ≡ old - cond b 1 0 → rest ≤ new
less_one true rest old new enough fell = omega (arith, enough, fell)
less_one false rest old new enough fell = omega (arith, enough, fell)

-- there is quota for the next query where it may write
pub quota_here : (rest : List Query) (d : Query) (quota : ℕ) → 1 ≤ length rest → writes_of rest ≤ quota → may_write (get_or rest 0 d) ≡ true → 1 ≤ quota
quota_here rest d quota some enough is = one_if_true (may_write (get_or rest 0 d)) _ quota (count_next may_write rest d quota some enough) is

fell_by : (may tells : Bool) (rest old new : ℕ) → (tells ≡ true → may ≡ true) → cond may 1 0 + rest ≤ old → MatchBool tells (new + 1 ≡ old) (new ≡ old) → rest ≤ new
fell_by true true rest old new kind enough fell = omega (arith, enough, fell)
fell_by true false rest old new kind enough fell = omega (arith, enough, fell)
fell_by false true rest old new kind enough fell = never (kind refl)
fell_by false false rest old new kind enough fell = omega (arith, enough, fell)

-- and for those behind it
pub quota_left : (rest : List Query) (d : Query) (reply : Reply) (old new : ℕ) → 1 ≤ length rest → writes_of rest ≤ old → IsKindFor (get_or rest 0 d) reply → MatchBool (tells_write reply) (new + 1 ≡ old) (new ≡ old) → writes_of (take (length rest - 1) (drop 1 rest)) ≤ new
quota_left rest d reply old new some enough kind fell = fell_by (may_write (get_or rest 0 d)) (tells_write reply) _ old new (tells_kind (get_or rest 0 d) reply kind) (count_next may_write rest d old some enough) fell

-- there is room for the next query's job
pub job_here : (rest : List Query) (d : Query) (room : ℕ) → 1 ≤ length rest → jobs_of rest ≤ room → asks_ledger (get_or rest 0 d) ≡ true → 1 ≤ room
job_here rest d room some enough is = one_if_true (is_some (act_of (get_or rest 0 d))) _ room (count_next (λ (q : Query). is_some (act_of q)) rest d room some enough) (sym (job_asks (get_or rest 0 d)) ∙ is)

quota_after : (number index : ℕ) (q : Query) (reply : Reply) (old new : ChainView LedgerParcel) (rest : ℕ) → AddsJob number index q reply old new → cond (is_some (act_of q)) 1 0 + rest ≤ old.quota → rest ≤ new.quota
quota_after number index q (Placed place said) old new rest job enough = let same = ap (λ (v : ChainView LedgerParcel). v.quota) job in omega (arith, same, enough)
quota_after number index q Busy old new rest job enough = let same = ap (λ (v : ChainView LedgerParcel). v.quota) job in omega (arith, same, enough)
quota_after number index q (Late now) old new rest job enough = let same = ap (λ (v : ChainView LedgerParcel). v.quota) job in omega (arith, same, enough)
quota_after number index q (Job at result) old new rest job enough =
    let asks : is_some (act_of q) ≡ true = ap is_some job.1 in
    let fell : new.quota ≡ old.quota - 1 = (let paid = job.2.quota in omega (arith, paid)) in
    less_one true rest old.quota new.quota (subst (λ (b : Bool). cond b 1 0 + rest ≤ old.quota) asks enough) fell

-- and for those behind it
pub jobs_left : (number index : ℕ) (rest : List Query) (d : Query) (reply : Reply) (old new : ChainView LedgerParcel) → 1 ≤ length rest → jobs_of rest ≤ old.quota → AddsJob number index (get_or rest 0 d) reply old new → jobs_of (take (length rest - 1) (drop 1 rest)) ≤ new.quota
jobs_left number index rest d reply old new some enough job = quota_after number index (get_or rest 0 d) reply old new _ job (count_next (λ (q : Query). is_some (act_of q)) rest d old.quota some enough)
