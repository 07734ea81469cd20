-- What one query leaves of the pass that asks it.
use Rattle.std.specs.Prelude.{◌≡◌, ℕ, ◌+◌, ◌<◌, ◌≤◌, Bool, true, false, List, [], ◌∷◌, ◌++◌, MatchBool, Some}
use Rattle.std.specs.declared.option.Option.{Option}
use Rattle.lock_model.specs.Locks.{Has}
use Rattle.hall.specs.declared.view.Footprint.{Footprint}
use Rattle.hall.specs.declared.view.StepEntry.{StepEntry}
use Rattle.hall.specs.declared.view.View.{View}
use Rattle.query_rules.specs.declared.query.Query.{Query}
use Rattle.query_rules.specs.declared.query.Query.TheVariants.{TryGet, TryPut, GetBy, PutBy}
use Rattle.query_rules.specs.declared.query.LedgerAct.{LedgerAct}
use Rattle.query_rules.specs.declared.query.LedgerTold.{LedgerTold}
use Rattle.query_rules.specs.declared.query.LedgerTrouble.{LedgerTrouble}
use Rattle.query_rules.specs.declared.query.Said.{Said}
use Rattle.query_rules.specs.declared.query.Reply.{Reply}
use Rattle.query_rules.specs.declared.query.Reply.TheVariants.{Placed, Busy, Late, Job}
use Rattle.query_rules.specs.Maps.{is_write}
use Rattle.query_rules.specs.Ledger.{LedgerResult, act_of, result_of}
use Rattle.query_rules.specs.History.{place_of}
use Rattle.query_rules.specs.Licence.{taken_cells, is_strong}
use Rattle.query_log.specs.declared.job.LedgerJob.{LedgerJob}
use Rattle.query_log.specs.Ledgers.{LedgerView, accounts_in}
use Rattle.combine_job.specs.declared.parcel.JobAnswer.{JobAnswer}
use Rattle.combine_job.specs.declared.parcel.Parcel.{Parcel}
use Rattle.combine_job.specs.Parcels.{answer_to, places}
use Rattle.waiter_chain.specs.declared.view.View.{View as ChainView}
use Rattle.shared_mutex.specs.Refused.{AddsReads}
use Rattle.shared_mutex.specs.Tries.{AddsSteps, IsTry}
use Rattle.sync_cell.specs.Gains.{GainedBy, GainedInOrder, refuses_reader, refuses_writer}
use Rattle.sync_cell.specs.Waits.{AskedInTime, AskedTooLate}
use Rattle.map_cargo.specs.declared.entry.Entry.{Entry}
use Rattle.map_cargo.specs.declared.entry.Told.TheVariants.{Wrote, Read, Refused}
use Rattle.map_cargo.specs.declared.entry.Part.{Part}
use Rattle.map_cargo.specs.Licences.{Licensed}

-- a reply that is a write
abbrev pub tells_write : Reply → Bool
tells_write (Placed place said) = is_write said
tells_write Busy = false
tells_write (Late now) = false
tells_write (Job at result) = false

-- a reply that was given under a lock, or by the ledger: nothing was in the way
abbrev pub is_granted : Reply → Bool
is_granted (Placed place said) = true
is_granted Busy = false
is_granted (Late now) = false
is_granted (Job at result) = true

-- a reply of the ledger
abbrev pub is_job : Reply → Bool
is_job (Placed place said) = false
is_job Busy = false
is_job (Late now) = false
is_job (Job at result) = true

-- a reply's own entry
abbrev pub entry_for : ℕ → ℕ → Query → Said → Entry
entry_for number index q said = record { caller = number; index = index; query = q; said = said }

-- What a pass's part has more after a reply: a placed one stands behind all that the pass has seen, a refused one is told without a place, and a job's is the ledger's alone
abbrev pub AddsReply : ℕ → ℕ → Query → Reply → Part → Part → Type 0
AddsReply number index q (Placed place said) p r = (n : ℕ) × (place ≡ place_of n said) × (p.seen ≤ n)
    × MatchBool (is_write said)
    ((r.seen ≡ n + 1) × (r.told ≡ Wrote n (entry_for number index q said) ∷ p.told))
    ((r.seen ≡ n) × (r.told ≡ Read n (entry_for number index q said) ∷ p.told))
AddsReply number index q Busy p r = (r.told ≡ Refused number index q Busy ∷ p.told) × (r.seen ≡ p.seen)
AddsReply number index q (Late now) p r = (r.told ≡ Refused number index q (Late now) ∷ p.told) × (r.seen ≡ p.seen)
AddsReply number index q (Job at result) p r = (r.told ≡ p.told) × (r.seen ≡ p.seen)

-- what the lock of the ledger carries: the ledger, its jobs and their answers
abbrev pub LedgerParcel : Type 0
LedgerParcel = Parcel LedgerView LedgerJob LedgerTold LedgerTrouble

-- a job that ran, with its answer
abbrev pub LedgerRun : Type 0
LedgerRun = LedgerParcel × LedgerParcel

-- the job of this act, by this caller under this index, with what it was told at this position
abbrev pub answer_for : ℕ → ℕ → LedgerAct → ℕ → LedgerResult → LedgerRun
answer_for number index act at result = answer_to (record { caller = number; index = index; act = act }) (record { at = at; result = result })

-- One job more of a pass: it is the last of the pass's own list, with its answer, at a position above all that stood there, it has the result of its act on a ledger, and it is paid for
pub record AnswersJob (job : LedgerJob) (answer : JobAnswer LedgerTold LedgerTrouble) (v w : ChainView LedgerParcel) : Type 0 where
  pub own : w.own ≡ v.own ++ answer_to job answer ∷ []
  pub rises : (p : ℕ) → answer.at ≤ p → places p v.own ≡ 0
  pub ran : (ledger : LedgerView) × (answer.result ≡ result_of ledger.rows (accounts_in ledger) job.act)
  pub quota : w.quota + 1 ≡ v.quota

-- what a reply leaves of the pass of the ledger's lock: a job's answer is the last of its own list, with the job under this number and this index; the others leave the pass
abbrev pub AddsJob : ℕ → ℕ → Query → Reply → ChainView LedgerParcel → ChainView LedgerParcel → Type 0
AddsJob number index q (Placed place said) v w = w ≡ v
AddsJob number index q Busy v w = w ≡ v
AddsJob number index q (Late now) v w = w ≡ v
AddsJob number index q (Job at result) v w =
    (act : LedgerAct) × (act_of q ≡ Some act) × AnswersJob (record { caller = number; index = index; act = act }) (record { at = at; result = result }) v w

-- until when a query waits
abbrev pub deadline_of : Query → ℕ
deadline_of (GetBy cell key deadline) = deadline
deadline_of (PutBy cell key value deadline) = deadline
deadline_of _ = 0

-- a reply that is late tells the clock's last answer, which is the query's deadline or later
abbrev pub IsLateBy : Query → ℕ → Reply → Type 0
IsLateBy q last (Late now) = (deadline_of q ≤ now) × (now ≡ last)
IsLateBy q last (Placed place said) = Unit {0}
IsLateBy q last Busy = Unit {0}
IsLateBy q last (Job at result) = Unit {0}

-- What the clock told a query that waits until this deadline. After each refused try it was asked once, and each of its answers was below the deadline; but the last of a late reply, which is what the reply tells
module _ {T : Type 0} (last : T → ℕ) (answers : T → Option (List ℕ)) (old new : T) where
  abbrev pub AsksUntil : ℕ → Reply → Type 0
  AsksUntil deadline (Late now) = (refusals : ℕ) × AskedTooLate last answers deadline refusals old new now
  AsksUntil deadline (Placed place said) = (refusals : ℕ) × AskedInTime last answers deadline refusals old new
  AsksUntil deadline Busy = ⊥
  AsksUntil deadline (Job at result) = ⊥

  -- and any query: one without a deadline asks the clock nothing
  abbrev pub AsksClock : Query → Reply → Type 0
  AsksClock (GetBy cell key deadline) reply = AsksUntil deadline reply
  AsksClock (PutBy cell key value deadline) reply = AsksUntil deadline reply
  AsksClock _ reply = new ≡ old

-- the pass made steps, and among them are reads of a word of the query's cell, under the pass's number, that allow this reply
abbrev pub WasRefused : Query → Reply → View Part → View Part → Type 0
WasRefused q reply v w = (added : List StepEntry) × (w.steps ≡ added ++ v.steps) × Licensed v.shape v.number added q reply

-- a refused reply was forced by what the call itself read
abbrev pub IsForced : Query → Reply → View Part → View Part → Type 0
IsForced q Busy v w = WasRefused q Busy v w
IsForced q (Late now) v w = WasRefused q (Late now) v w
IsForced q (Placed place said) v w = Unit {0}
IsForced q (Job at result) v w = Unit {0}

-- where a reply was refused, each step that the call made was for the lock of the query's cell, with no mode held there
abbrev pub OnlyTried : Query → Reply → View Part → View Part → Type 0
OnlyTried q reply v w = is_granted reply ≡ false → (cell : ℕ) → Has (taken_cells q) cell → AddsSteps (IsTry v cell) v w

-- a query that tries gained its cell, where it was granted, by tries of which none was refused busy: no step of the call found a word for which it is
abbrev pub GoesByTries : Query → Reply → View Part → View Part → Type 0
GoesByTries (TryGet cell key) reply v w = is_granted reply ≡ true → AddsReads (λ shape number added. GainedBy (λ e. refuses_reader shape.policy e ≡ false) cell number added) v w
GoesByTries (TryPut cell key value) reply v w = is_granted reply ≡ true → AddsReads (λ shape number added. GainedBy (λ e. refuses_writer e ≡ false) cell number added) v w
GoesByTries _ reply v w = Unit {0}

-- of any two cells that a query takes the lower one was gained before the higher one was tried for
abbrev pub TakesInOrder : Query → View Part → View Part → Type 0
TakesInOrder q v w = (low high : ℕ) → Has (taken_cells q) low → Has (taken_cells q) high → low < high → AddsReads (λ shape number added. GainedInOrder low high number added) v w

-- a footprint that a query may leave: at a cell that it takes, and a strong one only where the query is strong
abbrev pub MayTread : Query → Footprint → Type 0
MayTread q m = Has (taken_cells q) m.lock × (m.strong ≡ true → is_strong q ≡ true)

-- the numbers of a pass stay
pub record KeepsNumbers (v w : View Part) : Type 0 where
  pub number : w.number ≡ v.number
  pub span : w.span ≡ v.span
  pub taken : w.taken ≡ v.taken
