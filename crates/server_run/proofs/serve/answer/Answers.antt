use Rattle.std.proofs.Common.{arith, List, length, sum_by, ap, sym, subst}
use Rattle.query_rules.specs.declared.query.Query.{Query}
use Rattle.query_rules.specs.Log.{IsOrder}
use Rattle.query_text.specs.declared.packed.PackedSpot.{PackedSpot}
use Rattle.query_text.specs.Packed.{spots_in}
use Rattle.server_run.proofs.Numbers.{as_many}
use Rattle.server_run.proofs.Orders.{kinds_all, log_of}
use Rattle.server_run.proofs.Places.{packable}
use Rattle.server_run.proofs.serve.answer.Goals as goal

pub order_of-order-requires-clause-room : goal.order_of-order-requires-clause-room
order_of-order-requires-clause-room g c =
    let callers = c.args.script.now.callers in
    let many = as_many callers c.in-Ok-run_script.ran.outcome c.in-Ok-run_script.ensures.history.once in
    let same = ap (λ (l : List (List Query)). sum_by (length {A = Query}) l) c.callers.ensures.value in
    omega (arith, many, same, c.count_queries-queries.ensures, c.in-Ok.ensures.capacity)

pub order_of-order-requires-clause-packable : goal.order_of-order-requires-clause-packable
order_of-order-requires-clause-packable g c =
    let callers = c.args.script.now.callers in
    let script = c.requires.script.script in
    packable c.args.options.now.rows callers c.in-Ok-run_script.ran.outcome c.in-Ok-run_script.ensures.history script.crowd script.few

pub write_packed_log-requires-clause-kinds : goal.write_packed_log-requires-clause-kinds
write_packed_log-requires-clause-kinds g c = kinds_all c.args.options.now.rows c.args.script.now.callers c.in-Ok-run_script.ran.outcome c.in-Ok-run_script.ensures.history

pub returns-clause-cut : goal.returns-clause-cut
returns-clause-cut g c = λ is.
    let P : List PackedSpot → Type 0 = λ o. IsOrder c.in-Ok-run_script.ran.outcome (spots_in o) in
    let rows = c.args.options.now.rows in
    let most = c.requires.limits.1 in
    let log = log_of c.args.script.now rows c.in-Ok-run_script.ran.outcome (spots_in c.deref.result.now) c.requires.script (omega (arith, most)) c.in-Ok-run_script.ensures.numbers c.in-Ok-run_script.ensures.history (subst P (sym c.deref.ensures.value) c.order_of-order.ensures) in
    (c.in-Ok-run_script.ran.outcome, _, log, c.in-Ok-run_script.ensures.history, c.in-Ok-run_script.ensures.ended, c.in-Err.ensures.bytes)

pub returns-in-Ok-write_packed_log-clause-written : goal.returns-in-Ok-write_packed_log-clause-written
returns-in-Ok-write_packed_log-clause-written g c =
    let P : List PackedSpot → Type 0 = λ o. IsOrder c.in-Ok-run_script.ran.outcome (spots_in o) in
    let rows = c.args.options.now.rows in
    let most = c.requires.limits.1 in
    let log = log_of c.args.script.now rows c.in-Ok-run_script.ran.outcome (spots_in c.deref.result.now) c.requires.script (omega (arith, most)) c.in-Ok-run_script.ensures.numbers c.in-Ok-run_script.ensures.history (subst P (sym c.deref.ensures.value) c.order_of-order.ensures) in
    (c.in-Ok-run_script.ran.outcome, _, log, c.in-Ok-run_script.ensures.history, c.in-Ok-run_script.ensures.ended, c.in-Ok-write_packed_log.ensures.bytes)
