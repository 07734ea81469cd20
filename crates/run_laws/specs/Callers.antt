-- What several callers leave of the passes by which they asked.
use Rattle.std.specs.Prelude.{◌≡◌, ℕ, ◌+◌, ◌-◌, ◌/◌, ◌<◌, ◌≤◌, List, [], ◌++◌, length, take, if◌then◌else◌}
use Rattle.std.specs.List.{AllByRecursion, AllZip}
use Rattle.waiter_chain.specs.Chains.{covers}
use Rattle.waiter_chain.specs.declared.view.View.{View as ChainView}
use Rattle.combine_job.specs.Parcels.{places}
use Rattle.dist_mutex.specs.Passes.{SameNumbers}
use Rattle.query_rules.specs.declared.query.Query.{Query}
use Rattle.query_rules.specs.declared.query.Said.{Said}
use Rattle.query_rules.specs.declared.query.Reply.{Reply}
use Rattle.query_rules.specs.declared.query.Reply.TheVariants.{Placed, Busy, Late, Job}
use Rattle.query_rules.specs.Maps.{is_write}
use Rattle.query_rules.specs.History.{AnswersEachOnce, place_of}
use Rattle.query_rules.specs.Numbers.{IsReply}
use Rattle.hall.specs.Numbers.{width}
use Rattle.hall.specs.Treading.{Treads}
use Rattle.hall.specs.declared.view.View.{View}
use Rattle.map_cargo.specs.declared.entry.Part.{Part}
use Rattle.map_cargo.specs.History.{first_part}
use Rattle.query_cells.specs.Asked.{KeepsNumbers, LedgerParcel, LedgerRun}
use Rattle.query_cells.specs.LicenceLaws.{OneMayTread, IsBacked, AllBacked, AllTrod}
use Rattle.run_laws.specs.Lists.{told_from, answers_from, all_told, all_answers}

-- how many writes are seen once this was said behind n
abbrev pub seen_after : ℕ → Said → ℕ
seen_after n said = if is_write said then n + 1 else n

-- the reply lies behind: a placed one has a place for what it says, and that lies within so many writes; a job's position is among those of this list
abbrev pub IsBehind : ℕ → List LedgerRun → Reply → Type 0
IsBehind seen own (Placed place said) = (place ≡ place_of (place / 2) said) × (seen_after (place / 2) said ≤ seen)
IsBehind seen own Busy = Unit {0}
IsBehind seen own (Late now) = Unit {0}
IsBehind seen own (Job at result) = 1 ≤ places at own

-- A caller asked these queries by two passes and has these replies. That took the pass of the hall from v to w, and the pass of the ledger's lock from d to e.
pub record IsAsked (v : View Part) (d : ChainView LedgerParcel) (queries : List Query) (replies : List Reply) (w : View Part) (e : ChainView LedgerParcel) : Type 0 where
  -- both are the passes that they were
  pub kept : KeepsNumbers v w × (w.shape ≡ v.shape)
  pub kept_too : SameNumbers d e
  -- each query has a reply of its kind, in order, with numbers of a machine
  pub once : AnswersEachOnce queries replies
  pub numbers : AllByRecursion IsReply replies
  pub behind : AllByRecursion (IsBehind w.part.seen e.own) replies
  -- the passes tell these replies behind what they had told
  pub tells : w.part.told ≡ told_from v.number 0 queries replies ++ v.part.told
  pub lists : e.own ≡ d.own ++ answers_from v.number 0 queries replies
  -- who was refused has read why, and each footprint that was left is of one of these queries
  pub backed : AllZip (IsBacked w.shape w.steps v.number) queries replies
  pub trod : Treads (OneMayTread queries) v w

-- two passes of this number and no other, which have told nothing
pub record IsFresh (number : ℕ) (v : View Part) (d : ChainView LedgerParcel) : Type 0 where
  pub mine : v.number ≡ number
  pub alone : width v ≡ 1
  pub part : v.part ≡ first_part
  pub trail : v.trail ≡ []
  pub own : d.own ≡ []
  pub covered : 0 < covers number d

-- two passes by which the caller of this number has asked all its queries, and no other has asked any
pub record HasAsked (number : ℕ) (queries : List Query) (replies : List Reply) (w : View Part) (e : ChainView LedgerParcel) : Type 0 where
  pub before : View Part
  pub before_too : ChainView LedgerParcel
  pub fresh : IsFresh number before before_too
  pub asked : IsAsked before before_too queries replies w e

-- a placed reply has a place for what it says: an odd one where that is a write
abbrev pub IsPlaced : Reply → Type 0
IsPlaced (Placed place said) = place ≡ place_of (place / 2) said
IsPlaced Busy = Unit {0}
IsPlaced (Late now) = Unit {0}
IsPlaced (Job at result) = Unit {0}

-- Two passes into which those of the first callers were taken, as many as have replies here.
pub record IsTaken (w : View Part) (e : ChainView LedgerParcel) (callers : List (List Query)) (told : List (List Reply)) : Type 0 where
  -- their numbers are those of these callers
  pub wide : width w ≡ length told
  pub covered : (n : ℕ) → n < length told → 0 < covers n e
  -- each caller's queries have their replies
  pub once : AllZip AnswersEachOnce (take (length told) callers) told
  pub numbers : AllByRecursion (AllByRecursion IsReply) told
  pub placed : AllByRecursion (AllByRecursion IsPlaced) told
  -- the passes tell exactly these replies
  pub tells : w.part.told ≡ all_told 0 callers told
  pub lists : e.own ≡ all_answers 0 callers told
  -- who was refused has read why, and each footprint is of a query of the caller of its number
  pub backed : AllBacked w.shape w.steps 0 callers told
  pub trod : AllTrod callers w.trail

-- how many seats callers need: one also where there is none
abbrev pub seats_for : List (List Query) → ℕ
seats_for callers = 1 + (length callers - 1)

-- Two passes that have all numbers again, and tell exactly this outcome.
pub record IsWhole (w : View Part) (e : ChainView LedgerParcel) (callers : List (List Query)) (told : List (List Reply)) : Type 0 where
  pub wide : width w ≡ seats_for callers
  pub covered : (n : ℕ) → n < seats_for callers → 0 < covers n e
  pub once : AllZip AnswersEachOnce callers told
  pub numbers : AllByRecursion (AllByRecursion IsReply) told
  pub placed : AllByRecursion (AllByRecursion IsPlaced) told
  pub tells : w.part.told ≡ all_told 0 callers told
  pub lists : e.own ≡ all_answers 0 callers told
  pub backed : AllBacked w.shape w.steps 0 callers told
  pub trod : AllTrod callers w.trail
