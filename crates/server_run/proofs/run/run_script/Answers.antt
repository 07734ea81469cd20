use Rattle.std.proofs.Common.{arith, ◌≡◌, List, map, length, sum_by, ap, sym, subst, ◌∙◌}
use Rattle.std.specs.List.{AllByRecursion}
use Rattle.hall.specs.Passes.{view, shape_of}
use Rattle.query_rules.specs.declared.query.Query.{Query}
use Rattle.query_rules.specs.Grammar.{TakesBelow}
use Rattle.query_rules.specs.Maps.{no_entries}
use Rattle.query_rules.specs.History.{IsLegal}
use Rattle.map_cargo.specs.Entries.{as_reply}
use Rattle.dist_mutex.specs.Passes.{opening_of, dist_view}
use Rattle.query_rules.specs.Ledger.{jobs_of}
use Rattle.run_laws.specs.WholeLaws.{whole_is_history}
use Rattle.server_run.proofs.run.run_script.Goals as goal

pub returns-clause-history : goal.returns-clause-history
returns-clause-history g c =
    let rows = c.args.options.now.rows in
    let script = c.args.script.now in
    let hall = c.in_ok-hall.hall in
    let dist = c.in_ok-dist.dist in
    let w = view c.run_callers-told.new.pass in
    let e = dist_view c.run_callers-told.new.dist_pass in
    let whole = c.in_ok-outcome.ensures.whole in
    let is : c.callers-callers.result.now ≡ script.callers = c.callers-callers.ensures.value in
    let made = c.in_ok-hall.ensures.hall in
    let lock = c.in_ok-dist.ensures.lock in
    let asked = ap (λ (l : List (List Query)). length l) is in
    let seats = whole.wide ∙ (let s = made.seats in omega (arith, s, asked)) in
    let legal : IsLegal rows no_entries (map as_reply w.part.told) = subst (λ n. IsLegal n no_entries (map as_reply w.part.told)) made.rows (c.close-closed.ensures.legal seats) in
    let cells : script.cells ≡ (shape_of hall).locks = sym (made.behind.locks ∙ made.cells ∙ c.cells.ensures.value) in
    let taken = subst (λ n. AllByRecursion (AllByRecursion (TakesBelow n)) script.callers) cells c.callers-callers.ensures.script.taken in
    let ends = c.close-ledger.ensures.value (λ n low. whole.covered n (let k = lock.nodes in omega (arith, low, k, asked))) in
    whole_is_history rows (sum_by jobs_of c.callers-callers.result.now) (shape_of hall) (opening_of dist) script.callers c.in_ok-outcome.outcome w e c.close-ledger.result.0
    whole c.run_callers-told.ensures.pass.0.1 taken legal (c.close-closed.ensures.met seats) lock.empty ends
