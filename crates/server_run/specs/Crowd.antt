-- Callers that may begin, and callers that have asked their lists.
use Rattle.std.specs.Prelude.{◌≡◌, ℕ, ◌+◌, ◌≤◌, List, [], ◌∷◌, length, get_or, Vec, vec_capacity}
use Rattle.std.specs.declared.alloc.Global.{Global}
use Rattle.query_rules.specs.declared.query.Query.{Query}
use Rattle.query_rules.specs.declared.query.Reply.{Reply}
use Rattle.query_rules.specs.declared.query.LedgerTold.{LedgerTold}
use Rattle.query_rules.specs.declared.query.LedgerTrouble.{LedgerTrouble}
use Rattle.query_log.specs.declared.job.LedgerJob.{LedgerJob}
use Rattle.query_log.specs.Ledgers.{LedgerView}
use Rattle.hall.specs.Passes.{view, IsPassOf}
use Rattle.hall.specs.declared.cargo.CargoRule.{Ghosts}
use Rattle.hall.specs.declared.hall.Pass.{Pass}
use Rattle.hall.specs.declared.hall.Hall.{Hall}
use Rattle.map_cargo.specs.declared.size.MapCargo.{MapCargo}
use Rattle.map_cargo.specs.declared.entry.Part.{Part}
use Rattle.map_cargo.specs.Steps.{IsIdle}
use Rattle.combine_job.specs.declared.job.Room as room
use Rattle.combine_job.specs.declared.job.Job as job
use Rattle.dist_mutex.specs.declared.mutex.DistMutex.{DistMutex}
use Rattle.dist_mutex.specs.declared.pass.DistPass.{DistPass}
use Rattle.dist_mutex.specs.Passes.{IsAtRest, IsDistPassOf, dist_view}
use Rattle.query_rules.specs.Maps.{writes_of}
use Rattle.query_rules.specs.Ledger.{jobs_of}
use Rattle.run_laws.specs.Callers.{HasAsked, IsFresh}
use Rattle.server_run.specs.declared.caller.Caller.{Caller}

module _ (h : Hall MapCargo Part) (m : DistMutex LedgerView LedgerJob LedgerTold LedgerTrouble) (callers : List (List Query)) where
  -- the caller of this number may begin with these passes and this list: the passes are fresh and idle, their quotas are enough for its queries, and the list has room for the replies
  pub record MayBegin {g : Ghosts MapCargo Part} {r : room.Ghosts LedgerView} {j : job.Ghosts LedgerJob LedgerView LedgerTold LedgerTrouble} (caller : ℕ) (p : Pass MapCargo Part g) (q : DistPass LedgerView LedgerJob LedgerTold LedgerTrouble r j) (list : Vec Reply Global) : Type 0 where
    pub fresh : IsFresh caller (view p) (dist_view q)
    pub same : (dist_view q).number ≡ (view p).number
    pub hall : IsPassOf h p × IsIdle (view p)
    pub dist : IsDistPassOf m q × IsAtRest q
    pub quota : writes_of (get_or callers caller []) ≤ (view p).quota
    pub jobs : jobs_of (get_or callers caller []) ≤ (dist_view q).quota
    pub empty : list.items ≡ []
    pub fits : length (get_or callers caller []) ≤ vec_capacity list

  -- the caller of this number has asked all its queries with these passes, which are idle again, and this list has the replies
  pub record IsDone {g : Ghosts MapCargo Part} {r : room.Ghosts LedgerView} {j : job.Ghosts LedgerJob LedgerView LedgerTold LedgerTrouble} (caller : ℕ) (p : Pass MapCargo Part g) (q : DistPass LedgerView LedgerJob LedgerTold LedgerTrouble r j) (list : Vec Reply Global) : Type 0 where
    pub hall : IsPassOf h p × IsIdle (view p)
    pub dist : IsDistPassOf m q × IsAtRest q
    pub asked : HasAsked caller (get_or callers caller []) list.items (view p) (dist_view q)

  -- the callers with the numbers from this one on may begin
  abbrev pub AllReady : {T : Type 0} → ℕ → List (Caller T) → Type 0
  AllReady caller [] = Unit {0}
  AllReady caller (c ∷ cs) = MayBegin caller c.pass c.dist_pass c.replies × AllReady (caller + 1) cs

  -- the callers with the numbers from this one on have asked
  abbrev pub AllDone : {T : Type 0} → ℕ → List (Caller T) → Type 0
  AllDone caller [] = Unit {0}
  AllDone caller (c ∷ cs) = IsDone caller c.pass c.dist_pass c.replies × AllDone (caller + 1) cs

-- empty lists with room for the replies to the callers with the numbers from this one on
abbrev pub AllRoomy : List (List Query) → ℕ → List (Vec Reply Global) → Type 0
AllRoomy callers caller [] = Unit {0}
AllRoomy callers caller (list ∷ lists) = (list.items ≡ []) × (length (get_or callers caller []) ≤ vec_capacity list) × AllRoomy callers (caller + 1) lists
