-- The jobs of all callers are one history of the ledger: the one that led from the first ledger to the last.
use Rattle.std.specs.Prelude.{◌≡◌, ℕ, suc, ◌+◌, ◌≤◌, ◌==◌, nat_lt, Bool, true, false, cond, List, [], ◌∷◌, ◌++◌, length, map, take, get_or, Some, Ok, Err, zip, count_by, slice_get}
use Rattle.std.proofs.Common.{refl, sym, ap, ◌∙◌, arith, eq-eqb}
use Rattle.std.specs.declared.option.Option.{Option}
use Rattle.std.proofs.lemmas.Bool.{lt-ltb, eqb-true}
use Rattle.std.proofs.lemmas.List.Sums.{sum_by-append}
use Rattle.std.proofs.lemmas.List.{map-append}
use Rattle.std.specs.List.{AllByRecursion, AllZip}
use Rattle.view_sums.specs.Sums.{total, total-append}
use Rattle.waiter_chain.specs.Goods.{Runs}
use Rattle.waiter_chain.specs.declared.view.Opening.{Opening}
use Rattle.combine_job.specs.declared.parcel.JobAnswer.{JobAnswer}
use Rattle.combine_job.specs.declared.parcel.Kept.{Kept}
use Rattle.combine_job.specs.declared.parcel.Parcel.TheVariants as parcel
use Rattle.combine_job.specs.Parcels.{Related, answer_to, place as counts_at, places}
use Rattle.combine_job.specs.Laws.{value-injective}
use Rattle.combine_job.proofs.Positions.{history-length}
use Rattle.dist_mutex.specs.Owners.{Ends}
use Rattle.query_rules.specs.declared.query.Query.{Query}
use Rattle.query_rules.specs.declared.query.Query.TheVariants as query
use Rattle.query_rules.specs.declared.query.LedgerAct.{LedgerAct}
use Rattle.query_rules.specs.declared.query.LedgerAct.TheVariants.{Give, Take, Audit}
use Rattle.query_rules.specs.declared.query.LedgerTold.{LedgerTold}
use Rattle.query_rules.specs.declared.query.LedgerTrouble.{LedgerTrouble}
use Rattle.query_rules.specs.declared.query.LedgerTold.TheVariants.{Now, Sum}
use Rattle.query_rules.specs.declared.query.LedgerTrouble.TheVariants.{Over, Full, Short}
use Rattle.query_rules.specs.declared.query.Reply.{Reply}
use Rattle.query_rules.specs.declared.query.Reply.TheVariants.{Placed, Busy, Late, Job}
use Rattle.query_rules.specs.Ledger.{Accounts, LedgerResult, no_accounts, act_of, result_of, accounts_of, run_all, RunsAt, is_job_at, IsLegalLedger}
use Rattle.query_rules.specs.History.{AnswersEachOnce, IsKindFor, entries, has_result}
use Rattle.query_rules.proofs.Jobs.{run_all_push}
use Rattle.query_log.specs.declared.job.LedgerEntry.{LedgerEntry}
use Rattle.query_log.specs.declared.job.LedgerJob.{LedgerJob}
use Rattle.query_log.specs.Ledgers.{LedgerView, Means, accounts_in, made_by, entry_of}
use Rattle.query_cells.specs.Asked.{LedgerParcel, LedgerRun, answer_for}
use Rattle.run_laws.specs.Lists.{all_answers, answer_of, answered_as, answers_from}

abbrev rooms : LedgerView → ℕ
rooms ledger = ledger.room

-- acts and results as numbers
abbrev act_code : LedgerAct → ℕ × ℕ × ℕ
act_code (Give key n) = (0, key, n)
act_code (Take key n) = (1, key, n)
act_code Audit = (2, 0, 0)

abbrev act_with : ℕ → ℕ → ℕ → LedgerAct
act_with tag key n = cond (tag == 0) (Give key n) (cond (tag == 1) (Take key n) Audit)

act_again : (act : LedgerAct) → act_with (act_code act).0 (act_code act).1 (act_code act).2 ≡ act
act_again (Give key n) = refl
act_again (Take key n) = refl
act_again Audit = refl

abbrev result_code : LedgerResult → ℕ × ℕ
result_code (Ok (Now n)) = (0, n)
result_code (Ok (Sum n)) = (1, n)
result_code (Err Over) = (2, 0)
result_code (Err Full) = (3, 0)
result_code (Err (Short n)) = (4, n)

abbrev result_with : ℕ → ℕ → LedgerResult
result_with tag n = cond (tag == 0) (Ok (Now n)) (cond (tag == 1) (Ok (Sum n)) (cond (tag == 2) (Err Over) (cond (tag == 3) (Err Full) (Err (Short n)))))

result_again : (result : LedgerResult) → result_with (result_code result).0 (result_code result).1 ≡ result
result_again (Ok (Now n)) = refl
result_again (Ok (Sum n)) = refl
result_again (Err Over) = refl
result_again (Err Full) = refl
result_again (Err (Short n)) = refl

abbrev code : ℕ → LedgerAct → LedgerResult → List ℕ
code at act result = at ∷ (act_code act).0 ∷ (act_code act).1 ∷ (act_code act).2 ∷ (result_code result).0 ∷ (result_code result).1 ∷ []

abbrev all_equal : List ℕ → List ℕ → Bool
all_equal [] [] = true
all_equal [] (y ∷ ys) = false
all_equal (x ∷ xs) [] = false
all_equal (x ∷ xs) (y ∷ ys) = cond (x == y) (all_equal xs ys) false

equal_rest : (b c : Bool) → cond b c false ≡ true → (b ≡ true) × (c ≡ true)
equal_rest true c e = (refl, e)
equal_rest false c e = absurd (let bad : false ≡ true = e in cc)

all_equal_is : (xs ys : List ℕ) → all_equal xs ys ≡ true → xs ≡ ys
all_equal_is [] [] e = refl
all_equal_is [] (y ∷ ys) e = absurd (let bad : false ≡ true = e in cc)
all_equal_is (x ∷ xs) [] e = absurd (let bad : false ≡ true = e in cc)
all_equal_is (x ∷ xs) (y ∷ ys) e =
    let both = equal_rest (x == y) (all_equal xs ys) e in let head : x ≡ y = eqb-true x y both.0 in let tail : xs ≡ ys = all_equal_is xs ys both.1 in ap (λ (z : ℕ). z ∷ xs) head ∙ ap (λ l. y ∷ l) tail

equal_self : (xs : List ℕ) → all_equal xs xs ≡ true
equal_self [] = refl
equal_self (x ∷ xs) = ap (λ (b : Bool). cond b (all_equal xs xs) false) (eq-eqb x x refl) ∙ equal_self xs

-- whether this is a job with this act, and its answer at this position has this result
abbrev tells : ℕ → LedgerAct → LedgerResult → LedgerParcel → LedgerParcel → Bool
tells at act result (parcel.Posted job) (parcel.Answered a) = all_equal (code a.at job.act a.result) (code at act result)
tells at act result x y = false

abbrev is_told : ℕ → LedgerAct → LedgerResult → LedgerRun → Bool
is_told at act result x = tells at act result x.0 x.1

told_is : (at : ℕ) (act : LedgerAct) (result : LedgerResult) (job : LedgerJob) (answer : JobAnswer LedgerTold LedgerTrouble) → is_told at act result (answer_to job answer) ≡ true → (answer.at ≡ at) × (job.act ≡ act) × (answer.result ≡ result)
told_is at act result job answer e =
    let same : code answer.at job.act answer.result ≡ code at act result = all_equal_is (code answer.at job.act answer.result) (code at act result) e in (
      ap (λ (l : List ℕ). get_or l 0 0) same,
      sym (act_again job.act) ∙ ap (λ (l : List ℕ). act_with (get_or l 1 0) (get_or l 2 0) (get_or l 3 0)) same ∙ act_again act,
      sym (result_again answer.result) ∙ ap (λ (l : List ℕ). result_with (get_or l 4 0) (get_or l 5 0)) same ∙ result_again result,
    )

own_told : (number index : ℕ) (act : LedgerAct) (at : ℕ) (result : LedgerResult) → is_told at act result (answer_for number index act at result) ≡ true
own_told number index act at result = equal_self (code at act result)

-- the acts of a history of jobs
abbrev act_in : LedgerParcel → LedgerAct
act_in (parcel.Value kept) = Audit
act_in (parcel.Posted job) = job.act
act_in (parcel.Answered a) = Audit

abbrev History : Type 0
History = List LedgerRun

abbrev acts : History → List LedgerAct
acts [] = []
acts (x ∷ xs) = act_in x.0 ∷ acts xs

acts_long : (h : History) → length (acts h) ≡ length h
acts_long [] = refl
acts_long (x ∷ xs) = ap suc (acts_long xs)

-- the accounts behind one entry more
accounts_push : (rows : ℕ) (entries : List LedgerEntry) (e : LedgerEntry) → made_by rows (entries ++ e ∷ []) ≡ accounts_of rows (made_by rows entries) e.act
accounts_push rows entries e =
    let act : LedgerEntry → LedgerAct = λ x. x.act in
    ap (λ (l : List LedgerAct). run_all rows no_accounts l) (map-append act entries (e ∷ [])) ∙ run_all_push rows no_accounts (map act entries) e.act

-- where one of the history's jobs with its answer is such a one: which job it is, at which place of the history, and that it has the result of its act on the accounts there
abbrev Found : (LedgerRun → Bool) → History → LedgerView → ℕ → Type 0
Found test h ledger first =
    (i : ℕ) × (job : LedgerJob) × (answer : JobAnswer LedgerTold LedgerTrouble) × (test (answer_to job answer) ≡ true) × (answer.at ≡ first + i)
    × (slice_get (acts h) i ≡ Some job.act) × (answer.result ≡ result_of ledger.rows (run_all ledger.rows (accounts_in ledger) (take i (acts h))) job.act)

abbrev hits : (LedgerRun → Bool) → LedgerRun → ℕ
hits test x = cond (test x) 1 0

-- the answer of the first job
found_here : (test : LedgerRun → Bool) (x : LedgerRun) (xs : History) (v u : LedgerParcel) (k : Kept LedgerView) → v ≡ parcel.Value k → Related rooms Means v x.0 x.1 u → test x ≡ true → Found test (x ∷ xs) k.value k.ran
found_here test x xs v u k is t hit =
    let same_k : t.0 ≡ k = value-injective {J = LedgerJob} {O = LedgerTold} {X = LedgerTrouble} t.0 k (sym t.4 ∙ is) in
    let act : act_in x.0 ≡ t.2.act = ap act_in t.6 in
    let at : t.3.at ≡ k.ran = t.8 ∙ ap (λ (z : Kept LedgerView). z.ran) same_k in
    let whole : x ≡ answer_to t.2 t.3 = λ i. (t.6 i, t.7 i) in
    (0, t.2, t.3, ap test (sym whole) ∙ hit, omega (arith, at), ap Some act, t.10.0 ∙ ap (λ (z : Kept LedgerView). result_of z.value.rows (accounts_in z.value) t.2.act) same_k)

-- an answer of the later jobs
found_later : (test : LedgerRun → Bool) (x : LedgerRun) (xs : History) (v u : LedgerParcel) (k : Kept LedgerView) → v ≡ parcel.Value k → (t : Related rooms Means v x.0 x.1 u) → Found test xs t.1.value t.1.ran → Found test (x ∷ xs) k.value k.ran
found_later test x xs v u k is t f =
    let same_k : t.0 ≡ k = value-injective {J = LedgerJob} {O = LedgerTold} {X = LedgerTrouble} t.0 k (sym t.4 ∙ is) in
    let act : act_in x.0 ≡ t.2.act = ap act_in t.6 in
    let ran : t.1.ran ≡ k.ran + 1 = t.9 ∙ ap (λ (z : Kept LedgerView). z.ran + 1) same_k in
    let rows : t.1.value.rows ≡ k.value.rows = ap (λ (z : LedgerView). z.rows) t.10.1 ∙ ap (λ (z : Kept LedgerView). z.value.rows) same_k in
    let left : accounts_in t.1.value ≡ accounts_of k.value.rows (accounts_in k.value) (act_in x.0) =
    ap accounts_in t.10.1 ∙ accounts_push t.0.value.rows t.0.value.entries (entry_of t.2 t.3.result)
    ∙ ap (λ (z : Kept LedgerView). accounts_of z.value.rows (accounts_in z.value) t.2.act) same_k ∙ ap (accounts_of k.value.rows (accounts_in k.value)) (sym act) in (
      suc f.0,
      f.1,
      f.2,
      f.3,
      omega (arith, f.4, ran),
      f.5,
      f.6
          ∙ ap (λ (n : ℕ). result_of n (run_all n (accounts_in t.1.value) (take f.0 (acts xs))) f.1.act) rows
          ∙ ap (λ (a : Accounts). result_of k.value.rows (run_all k.value.rows a (take f.0 (acts xs))) f.1.act) left,
    )

found_first : (test : LedgerRun → Bool) (x : LedgerRun) (xs : History) (v u : LedgerParcel) (k : Kept LedgerView) (b : Bool) → v ≡ parcel.Value k → (t : Related rooms Means v x.0 x.1 u) → test x ≡ b
    → 1 ≤ total (hits test) (x ∷ xs) → (1 ≤ total (hits test) xs → Found test xs t.1.value t.1.ran) → Found test (x ∷ xs) k.value k.ran
found_first test x xs v u k true is t hit some rest = found_here test x xs v u k is t hit
found_first test x xs v u k false is t miss some rest =
    let none : hits test x ≡ 0 = ap {B = ℕ} (λ (b : Bool). cond b 1 0) miss in found_later test x xs v u k is t (rest (omega (arith, some, none)))

find : (test : LedgerRun → Bool) (h : History) (v w : LedgerParcel) (k : Kept LedgerView) → v ≡ parcel.Value k → Runs (Related rooms Means) v h w → 1 ≤ total (hits test) h → Found test h k.value k.ran
find test [] v w k is runs some = absurd (omega (arith, some))
find test (x ∷ xs) v w k is runs some = found_first test x xs v runs.0 k (test x) is runs.1 refl some (find test xs runs.0 w runs.1.1 runs.1.5 runs.2)

-- a history that led from an empty ledger with so many rows, and has exactly these answers
pub record Led (rows : ℕ) (h : History) (later : List LedgerRun) : Type 0 where
  pub start : LedgerParcel
  pub end : LedgerParcel
  pub kept : Kept LedgerView
  pub is : start ≡ parcel.Value kept
  pub none_ran : kept.ran ≡ 0
  pub rows_are : kept.value.rows ≡ rows
  pub empty : accounts_in kept.value ≡ no_accounts
  pub runs : Runs (Related rooms Means) start h end
  pub all : (w : LedgerRun → ℕ) → total w later ≡ total w h

-- each job's reply is that of the history's job at its position
reply_runs : (rows : ℕ) (h : History) (later : List LedgerRun) (number index : ℕ) (q : Query) (act : LedgerAct) (at : ℕ) (result : LedgerResult)
    → Led rows h later → act_of q ≡ Some act → ((w : LedgerRun → ℕ) → w (answer_for number index act at result) ≤ total w later) → RunsAt rows no_accounts (acts h) (q, Job at result)
reply_runs rows h later number index q act at result l asks told =
    let test : LedgerRun → Bool = is_told at act result in
    let hit : hits test (answer_for number index act at result) ≡ 1 = ap {B = ℕ} (λ (b : Bool). cond b 1 0) (own_told number index act at result) in
    let f : Found test h l.kept.value l.kept.ran = find test h l.start l.end l.kept l.is l.runs (omega (arith, hit, told (hits test), l.all (hits test))) in
    let same = told_is at act result f.1 f.2 f.3 in
    let place : f.0 ≡ at = omega (arith, f.4, l.none_ran, same.0) in (
      act,
      asks,
      ap (slice_get (acts h)) (sym place) ∙ f.5 ∙ ap Some same.1,
      sym same.2 ∙ f.6
          ∙ ap (λ (n : ℕ). result_of n (run_all n (accounts_in l.kept.value) (take f.0 (acts h))) f.1.act) l.rows_are
          ∙ ap (λ (a : Accounts). result_of rows (run_all rows a (take f.0 (acts h))) f.1.act) l.empty
          ∙ ap (λ (n : ℕ). result_of rows (run_all rows no_accounts (take n (acts h))) f.1.act) place
          ∙ ap (result_of rows (run_all rows no_accounts (take at (acts h)))) same.1,
    )

-- ---- two lists in a row
all_joined : {A : Type 0} (P : A → Type 0) (xs ys : List A) → AllByRecursion P xs → AllByRecursion P ys → AllByRecursion P (xs ++ ys)
all_joined P [] ys h k = k
all_joined P (x ∷ xs) ys h k = (h.0, all_joined P xs ys h.1 k)

-- ---- the replies of callers, and the answers in the own list of the pass that took all in
never : {A : Type 0} → false ≡ true → A
never bad = absurd (let is : false ≡ true = bad in cc)

-- who was told a result asked for it
act_told : (q : Query) (result : LedgerResult) → has_result q result ≡ true → (act : LedgerAct) × (act_of q ≡ Some act)
act_told (query.Get cell key) result kind = never kind
act_told (query.Len cell) result kind = never kind
act_told (query.Put cell key value) result kind = never kind
act_told (query.Del cell key) result kind = never kind
act_told (query.Add cell key delta) result kind = never kind
act_told (query.Cas cell key old new) result kind = never kind
act_told (query.PutLen cell key value) result kind = never kind
act_told (query.Move from to key n) result kind = never kind
act_told (query.Both first second key) result kind = never kind
act_told (query.TryGet cell key) result kind = never kind
act_told (query.TryPut cell key value) result kind = never kind
act_told (query.GetBy cell key deadline) result kind = never kind
act_told (query.PutBy cell key value deadline) result kind = never kind
act_told (query.Give key n) result kind = (Give key n, refl)
act_told (query.Take key n) result kind = (Take key n, refl)
act_told query.Audit result kind = (Audit, refl)

-- the answer to one job is all that is listed of it
job_listed : (w : LedgerRun → ℕ) (caller index : ℕ) (q : Query) (act : LedgerAct) (at : ℕ) (result : LedgerResult) → act_of q ≡ Some act → total w (answer_of caller index q (Job at result)) ≡ w (answer_for caller index act at result)
job_listed w caller index q act at result asks =
    let one : total w (answer_of caller index q (Job at result)) ≡ w (answer_for caller index act at result) + 0 = ap (λ (a : Option LedgerAct). total w (answered_as caller index at result a)) asks in omega (arith, one)

module _ (rows : ℕ) (h : History) (later : List LedgerRun) (l : Led rows h later) where
  runs_one : (caller index : ℕ) (q : Query) (reply : Reply) → IsKindFor q reply → ((w : LedgerRun → ℕ) → total w (answer_of caller index q reply) ≤ total w later) → RunsAt rows no_accounts (acts h) (q, reply)
  runs_one caller index q (Placed place said) kind all = tt
  runs_one caller index q Busy kind all = tt
  runs_one caller index q (Late now) kind all = tt
  runs_one caller index q (Job at result) kind all =
      let act = act_told q result kind in
      reply_runs rows h later caller index q act.0 at result l act.1 (λ w. (let is = job_listed w caller index q act.0 at result act.1 in let some = all w in omega (arith, is, some)))

  list_runs : (caller index : ℕ) (qs : List Query) (rs : List Reply) → AllZip IsKindFor qs rs → ((w : LedgerRun → ℕ) → total w (answers_from caller index qs rs) ≤ total w later) → AllByRecursion (RunsAt rows no_accounts (acts h)) (zip qs rs)
  list_runs caller index [] [] kinds all = tt
  list_runs caller index [] (r ∷ rs) kinds all = absurd kinds
  list_runs caller index (q ∷ qs) [] kinds all = absurd kinds
  list_runs caller index (q ∷ qs) (r ∷ rs) kinds all =
      let parts : (w : LedgerRun → ℕ) → total w (answer_of caller index q r) + total w (answers_from caller (index + 1) qs rs) ≤ total w later =
      λ w. (let both = total-append w (answer_of caller index q r) (answers_from caller (index + 1) qs rs) in let some = all w in omega (arith, both, some)) in
      (runs_one caller index q r kinds.0 (λ w. (let p = parts w in omega (arith, p))), list_runs caller (index + 1) qs rs kinds.1 (λ w. (let p = parts w in omega (arith, p))))

  all_run : (caller : ℕ) (callers : List (List Query)) (told : List (List Reply)) → AllZip AnswersEachOnce callers told → ((w : LedgerRun → ℕ) → total w (all_answers caller callers told) ≤ total w later)
      → AllByRecursion (RunsAt rows no_accounts (acts h)) (entries callers told)
  all_run caller [] told once all = tt
  all_run caller (qs ∷ callers) [] once all = absurd once
  all_run caller (qs ∷ callers) (rs ∷ told) once all =
      let parts : (w : LedgerRun → ℕ) → total w (answers_from caller 0 qs rs) + total w (all_answers (caller + 1) callers told) ≤ total w later =
      λ w. (let both = total-append w (answers_from caller 0 qs rs) (all_answers (caller + 1) callers told) in let some = all w in omega (arith, both, some)) in
      all_joined (RunsAt rows no_accounts (acts h)) (zip qs rs) (entries callers told)
      (list_runs caller 0 qs rs once.0.each (λ w. (let p = parts w in omega (arith, p))))
      (all_run (caller + 1) callers told once.1 (λ w. (let p = parts w in omega (arith, p))))

-- how many entries have the position k
abbrev positions : ℕ → List (Query × Reply) → ℕ
positions k all = count_by (is_job_at k) all

positions_both : (k : ℕ) (xs ys : List (Query × Reply)) → positions k (xs ++ ys) ≡ positions k xs + positions k ys
positions_both k xs ys = sum_by-append (λ (x : Query × Reply). cond (is_job_at k x) 1 0) xs ys

one_position : (k caller index : ℕ) (q : Query) (reply : Reply) → IsKindFor q reply → places k (answer_of caller index q reply) ≡ positions k ((q, reply) ∷ [])
one_position k caller index q (Placed place said) kind = refl
one_position k caller index q Busy kind = refl
one_position k caller index q (Late now) kind = refl
one_position k caller index q (Job at result) kind =
    let act = act_told q result kind in let is = job_listed (λ (z : LedgerRun). counts_at k z.1) caller index q act.0 at result act.1 in omega (arith, is)

list_positions : (k caller index : ℕ) (qs : List Query) (rs : List Reply) → AllZip IsKindFor qs rs → places k (answers_from caller index qs rs) ≡ positions k (zip qs rs)
list_positions k caller index [] [] kinds = refl
list_positions k caller index [] (r ∷ rs) kinds = absurd kinds
list_positions k caller index (q ∷ qs) [] kinds = absurd kinds
list_positions k caller index (q ∷ qs) (r ∷ rs) kinds =
    let one = one_position k caller index q r kinds.0 in
    let rest = list_positions k caller (index + 1) qs rs kinds.1 in
    let listed = total-append (λ (z : LedgerRun). counts_at k z.1) (answer_of caller index q r) (answers_from caller (index + 1) qs rs) in
    let asked = positions_both k ((q, r) ∷ []) (zip qs rs) in
    omega (arith, one, rest, listed, asked)

all_positions : (k caller : ℕ) (callers : List (List Query)) (told : List (List Reply)) → AllZip AnswersEachOnce callers told → places k (all_answers caller callers told) ≡ positions k (entries callers told)
all_positions k caller [] told once = refl
all_positions k caller (qs ∷ callers) [] once = absurd once
all_positions k caller (qs ∷ callers) (rs ∷ told) once =
    let one = list_positions k caller 0 qs rs once.0.each in
    let rest = all_positions k (caller + 1) callers told once.1 in
    let listed = total-append (λ (z : LedgerRun). counts_at k z.1) (answers_from caller 0 qs rs) (all_answers (caller + 1) callers told) in
    let asked = positions_both k (zip qs rs) (entries callers told) in
    omega (arith, one, rest, listed, asked)

-- where the lock was opened with an empty ledger, and closed by a pass that lists the answers of all callers, these are one history of the ledger
pub ledger_whole : (rows room : ℕ) (o : Opening LedgerParcel) (callers : List (List Query)) (told : List (List Reply)) (own : List LedgerRun) (out : Option (Kept LedgerView))
    → AllZip AnswersEachOnce callers told → own ≡ all_answers 0 callers told
    → o.first.value ≡ parcel.Value record { value = record { rows = rows; room = room; entries = [] }; ran = 0 } → Ends rooms Means o own out → IsLegalLedger rows no_accounts (entries callers told)
ledger_whole rows room o callers told own out once lists first e =
    let h : History = e.1 in let k : Kept LedgerView = record { value = record { rows = rows; room = room; entries = [] }; ran = 0 } in
    let l : Led rows h own = record { start = o.first.value; end = parcel.Value e.0; kept = k; is = first; none_ran = refl; rows_are = refl; empty = refl; runs = e.3; all = e.4 } in
    let long : e.0.ran ≡ 0 + length h = history-length rooms Means h o.first.value (parcel.Value e.0) k e.0 first refl e.3 in
    record {
      jobs = acts h;
      stand = all_run rows h own l 0 callers told once (λ w. (let same : total w own ≡ total w (all_answers 0 callers told) = ap (total w) lists in omega (arith, same)));
      once = λ p low. (
          let here : nat_lt p e.0.ran ≡ true = lt-ltb p e.0.ran (omega (arith, low, long, acts_long h)) in
          let one : places p own ≡ 1 = e.5 p ∙ ap {B = ℕ} (λ (b : Bool). cond b 1 0) here in
          let same : places p own ≡ places p (all_answers 0 callers told) = ap (places p) lists in
          let counted = all_positions p 0 callers told once in
          omega (arith, one, same, counted)
          );
    }
