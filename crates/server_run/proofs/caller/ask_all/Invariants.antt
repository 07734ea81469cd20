use Rattle.std.proofs.Common.{◌≡◌, ◌≤◌, ◌+◌, ◌++◌, List, length, vec_capacity}
use Rattle.std.specs.List.{AllByRecursion}
use Rattle.hall.specs.Passes.{view, IsPassOf, cargo_of}
use Rattle.query_rules.specs.declared.query.Query.{Query}
use Rattle.query_rules.specs.Grammar.{TakesBelow}
use Rattle.dist_mutex.specs.Passes.{IsAtRest, IsDistPassOf, dist_view}
use Rattle.map_cargo.specs.Steps.{IsIdle}
use Rattle.query_rules.specs.Maps.{writes_of}
use Rattle.query_rules.specs.Ledger.{jobs_of}
use Rattle.run_laws.specs.Callers.{IsAsked}
use Rattle.server_run.proofs.caller.ask_all.Given as goal

-- the queries so far are asked
abbrev pub invariant-loop-rest : goal.invariant-loop-rest
invariant-loop-rest g l =
    ((done : List Query) × (l.queries ≡ done ++ l.rest) × (l.index ≡ length done) × IsAsked (view l.fn.pass) (dist_view l.fn.dist_pass) done l.replies.items (view l.pass) (dist_view l.dist_pass))
    × (IsPassOf l.hall l.pass × IsIdle (view l.pass))
    × AllByRecursion (TakesBelow (cargo_of l.hall).cells) l.rest
    × (writes_of l.rest ≤ (view l.pass).quota)
    × (jobs_of l.rest ≤ (dist_view l.dist_pass).quota)
    × (length l.replies.items + length l.rest ≤ vec_capacity l.replies)
    × (l.index + length l.rest ≤ 1000000)
    × (IsDistPassOf l.dist l.dist_pass × IsAtRest l.dist_pass)

abbrev pub decreases-loop-rest : goal.decreases-loop-rest
decreases-loop-rest g l = length l.rest
