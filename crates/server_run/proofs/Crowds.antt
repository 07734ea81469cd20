-- Callers that are ready or done, by parts, and what their lists have room for.
use Rattle.std.proofs.Common.{◌≡◌, ℕ, ◌+◌, ◌≤◌, List, [], ◌∷◌, ◌++◌, length, get_or, Vec, vec_capacity, subst, arith}
use Rattle.std.specs.declared.alloc.Global.{Global}
use Rattle.query_rules.specs.declared.query.Query.{Query}
use Rattle.query_rules.specs.declared.query.Reply.{Reply}
use Rattle.query_rules.specs.declared.query.LedgerTold.{LedgerTold}
use Rattle.query_rules.specs.declared.query.LedgerTrouble.{LedgerTrouble}
use Rattle.query_log.specs.declared.job.LedgerJob.{LedgerJob}
use Rattle.query_log.specs.Ledgers.{LedgerView}
use Rattle.hall.specs.declared.hall.Hall.{Hall}
use Rattle.map_cargo.specs.declared.size.MapCargo.{MapCargo}
use Rattle.map_cargo.specs.declared.entry.Part.{Part}
use Rattle.dist_mutex.specs.declared.mutex.DistMutex.{DistMutex}
use Rattle.server_run.specs.declared.caller.Caller.{Caller}
use Rattle.server_run.specs.Crowd.{AllDone, AllReady, AllRoomy}

module _ {T : Type 0} (h : Hall MapCargo Part) (m : DistMutex LedgerView LedgerJob LedgerTold LedgerTrouble) (callers : List (List Query)) where
  pub ready_cut : (first next : ℕ) (cs ds : List (Caller T)) → next ≡ first + length cs → AllReady h m callers first (cs ++ ds) → AllReady h m callers first cs × AllReady h m callers next ds
  ready_cut first next [] ds at all = let same : first ≡ next = omega (arith, at) in (tt, subst (λ n. AllReady h m callers n ds) same all)
  ready_cut first next (c ∷ cs) ds at all = let rest = ready_cut (first + 1) next cs ds (omega (arith, at)) all.1 in ((all.0, rest.0), rest.1)

  pub done_join : (first next : ℕ) (cs ds : List (Caller T)) → next ≡ first + length cs → AllDone h m callers first cs → AllDone h m callers next ds → AllDone h m callers first (cs ++ ds)
  done_join first next [] ds at done more = let same : next ≡ first = omega (arith, at) in subst (λ n. AllDone h m callers n ds) same more
  done_join first next (c ∷ cs) ds at done more = (done.0, done_join (first + 1) next cs ds (omega (arith, at)) done.1 more)

-- the last list has room for the replies to the last caller
pub roomy_last : (callers : List (List Query)) (first last : ℕ) (lists : List (Vec Reply Global)) (list : Vec Reply Global) → last ≡ first + length lists → AllRoomy callers first (lists ++ list ∷ [])
    → AllRoomy callers first lists × (list.items ≡ []) × (length (get_or callers last []) ≤ vec_capacity list)
roomy_last callers first last [] list at all = let same : first ≡ last = omega (arith, at) in (tt, all.0, subst (λ n. length (get_or callers n []) ≤ vec_capacity list) same all.1)
roomy_last callers first last (l ∷ lists) list at all = let rest = roomy_last callers (first + 1) last lists list (omega (arith, at)) all.2 in ((all.0, all.1, rest.0), rest.1, rest.2)

-- one list more, for the next caller
pub roomy_more : (callers : List (List Query)) (first last : ℕ) (lists : List (Vec Reply Global)) (list : Vec Reply Global) → last ≡ first + length lists → AllRoomy callers first lists → list.items ≡ [] → length (get_or callers last []) ≤ vec_capacity list
    → AllRoomy callers first (lists ++ list ∷ [])
roomy_more callers first last [] list at all none room = let same : last ≡ first = omega (arith, at) in (none, subst (λ n. length (get_or callers n []) ≤ vec_capacity list) same room, tt)
roomy_more callers first last (l ∷ lists) list at all none room = (all.0, all.1, roomy_more callers (first + 1) last lists list (omega (arith, at)) all.2 none room)
