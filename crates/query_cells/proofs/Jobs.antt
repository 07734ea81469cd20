-- A job that the owner of the ledger's lock ran for itself.
use Rattle.std.proofs.Common.{◌≡◌, ℕ, ◌+◌, ◌≤◌, sym, List, [], ◌∷◌, ◌++◌, ap, ◌∙◌, subst, arith}
use Rattle.waiter_chain.specs.Steps.{SeatState}
use Rattle.waiter_chain.specs.declared.view.Opening.{Opening}
use Rattle.waiter_chain.specs.declared.turn.Turn.{Turn}
use Rattle.combine_job.specs.declared.parcel.JobAnswer.{JobAnswer}
use Rattle.combine_job.specs.declared.parcel.Kept.{Kept}
use Rattle.combine_job.specs.declared.parcel.Parcel.TheVariants.{Value, Posted, Answered}
use Rattle.combine_job.specs.Parcels.{Related}
use Rattle.dist_mutex.specs.Owners.{Owning, WonLock, Spent, RanOne}
use Rattle.dist_mutex.proofs.Combines.{found, own_below, ran_one}
use Rattle.query_rules.specs.declared.query.LedgerTold.{LedgerTold}
use Rattle.query_rules.specs.declared.query.LedgerTrouble.{LedgerTrouble}
use Rattle.query_rules.specs.Ledger.{result_of}
use Rattle.query_log.specs.declared.job.LedgerJob.{LedgerJob}
use Rattle.query_log.specs.Ledgers.{LedgerView, Means, accounts_in}
use Rattle.query_cells.specs.Asked.{LedgerParcel, AnswersJob}

abbrev rooms : LedgerView → ℕ
rooms ledger = ledger.room

ran_on : (job : LedgerJob) (answer : JobAnswer LedgerTold LedgerTrouble) (v w : Kept LedgerView) → Related rooms Means (Value v) (Posted job) (Answered answer) (Value w)
    → (ledger : LedgerView) × (answer.result ≡ result_of ledger.rows (accounts_in ledger) job.act)
ran_on job answer v w t =
    let same_job : t.2 ≡ job = cc in let same_answer : answer ≡ t.3 = cc in let ledger : LedgerView = t.0.value in
    (ledger, ap (λ (x : JobAnswer LedgerTold LedgerTrouble). x.result) same_answer ∙ t.10.0 ∙ ap (λ (x : LedgerJob). result_of ledger.rows (accounts_in ledger) x.act) same_job)

-- the pass took the lock, ran one job and gave the lock up
pub owned_answer : {most : ℕ} (o : Opening LedgerParcel) (slots : ℕ) (m l r n : SeatState LedgerParcel) (early due : ℕ) (before ran : List (LedgerParcel × LedgerParcel)) (t : Turn) (kept later : Kept LedgerView) (job : LedgerJob) (answer : JobAnswer LedgerTold LedgerTrouble)
    → 1 ≤ m.0.quota → WonLock rooms Means o slots m l t kept → (before ≡ []) × (early ≡ 0) → r ≡ l → ran ≡ before ++ (Posted job, Answered answer) ∷ [] → due ≡ early + 1
    → answer.at ≡ kept.ran → Related rooms Means (Value kept) (Posted job) (Answered answer) (Value later) → Spent most due ran r n → AnswersJob job answer m.0 n.0
owned_answer {most} o slots m l r n early due before ran t kept later job answer enough won none same listed more at related spent =
    let f = found rooms Means o slots m l t kept won in
    let is : ran ≡ (Posted job, Answered answer) ∷ [] = listed ∙ ap (λ xs. xs ++ (Posted job, Answered answer) ∷ []) none.0 in
    let one : RanOne m n (Posted job) (Answered answer) = ran_one most due m l n ran (Posted job) (Answered answer) is (omega (arith, more, none.1)) enough (f.2, f.3, f.4, f.5, f.6) (subst (λ (x : SeatState LedgerParcel). Spent most due ran x n) same spent) in
    record {
      own = one.5;
      rises = λ p far. own_below rooms Means o m.0.own m.0.quota kept f.0 p (omega (arith, far, at));
      ran = ran_on job answer kept later related;
      quota = one.4;
    }

-- and after the lock it is an owner that has run nothing
pub owns_fresh : (o : Opening LedgerParcel) (slots : ℕ) (m l : SeatState LedgerParcel) (due : ℕ) (before : List (LedgerParcel × LedgerParcel)) (t : Turn) (kept : Kept LedgerView)
    → WonLock rooms Means o slots m l t kept → (before ≡ []) × (due ≡ 0) → Owning rooms Means slots l due before t kept
owns_fresh o slots m l due before t kept won none =
    subst (λ (x : ℕ × List (LedgerParcel × LedgerParcel)). Owning rooms Means slots l x.0 x.1 t kept) (λ i. (sym none.1 i, sym none.0 i)) (found rooms Means o slots m l t kept won).1
