use Rattle.std.proofs.Common.{arith, ◌∙◌, ◌<◌, List, [], length, get_or, ap, sym}
use Rattle.query_rules.specs.declared.query.Query.{Query}
use Rattle.query_rules.specs.declared.query.Reply.{Reply}
use Rattle.soak_laws.specs.Totals.{told_delta, told_gift}
use Rattle.soak.proofs.Left.{lists_long, list_long, next_fits, next_sum}
use Rattle.soak.proofs.sums.Sums.of.Goals as goal

pub replies-requires : goal.replies-requires
replies-requires c =
    let long = lists_long c.args.script.now.callers c.args.outcome.now c.requires.once in
    let size = ap (length {A = List Query}) c.callers-callers.ensures.value in
    omega (arith, long, size, c.count-caller-end.ensures, c.loop-caller-test.true)

pub add_all-requires-clause-long : goal.add_all-requires-clause-long
add_all-requires-clause-long c =
    let asks = c.queries.ensures ∙ ap (λ (callers : List (List Query)). get_or callers c.loop-caller.caller []) c.callers-callers.ensures.value in
    ap (length {A = Reply}) c.replies.ensures ∙ list_long c.args.script.now.callers c.args.outcome.now c.loop-caller.caller c.requires.once ∙ sym (ap (length {A = Query}) asks)

pub add_all-requires-clause-maps : goal.add_all-requires-clause-maps
add_all-requires-clause-maps c =
    let size = ap (length {A = List Query}) c.callers-callers.ensures.value in
    let near : c.loop-caller.caller < length c.args.script.now.callers = omega (arith, size, c.count-caller-end.ensures, c.loop-caller-test.true) in
    let asks = c.queries.ensures ∙ ap (λ (callers : List (List Query)). get_or callers c.loop-caller.caller []) c.callers-callers.ensures.value in
    next_fits told_delta c.args.script.now.callers c.args.outcome.now c.loop-caller.caller c.loop-caller.sums.maps _ _ c.requires.once near asks c.replies.ensures c.loop-caller.invariant.0 _ c.requires.maps

pub add_all-requires-clause-ledger : goal.add_all-requires-clause-ledger
add_all-requires-clause-ledger c =
    let size = ap (length {A = List Query}) c.callers-callers.ensures.value in
    let near : c.loop-caller.caller < length c.args.script.now.callers = omega (arith, size, c.count-caller-end.ensures, c.loop-caller-test.true) in
    let asks = c.queries.ensures ∙ ap (λ (callers : List (List Query)). get_or callers c.loop-caller.caller []) c.callers-callers.ensures.value in
    next_fits told_gift c.args.script.now.callers c.args.outcome.now c.loop-caller.caller c.loop-caller.sums.ledger _ _ c.requires.once near asks c.replies.ensures c.loop-caller.invariant.1 _ c.requires.ledger

pub loop-caller-preserved : goal.loop-caller-preserved
loop-caller-preserved c =
    let size = ap (length {A = List Query}) c.callers-callers.ensures.value in
    let near : c.loop-caller.caller < length c.args.script.now.callers = omega (arith, size, c.count-caller-end.ensures, c.loop-caller-test.true) in
    let asks = c.queries.ensures ∙ ap (λ (callers : List (List Query)). get_or callers c.loop-caller.caller []) c.callers-callers.ensures.value in (
      next_sum told_delta c.args.script.now.callers c.args.outcome.now c.loop-caller.caller c.loop-caller.sums.maps _ _ c.requires.once near asks c.replies.ensures c.loop-caller.invariant.0 _ c.add_all.ensures.maps,
      next_sum told_gift c.args.script.now.callers c.args.outcome.now c.loop-caller.caller c.loop-caller.sums.ledger _ _ c.requires.once near asks c.replies.ensures c.loop-caller.invariant.1 _ c.add_all.ensures.ledger,
    )
