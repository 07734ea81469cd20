use Rattle.std.proofs.Common.{arith, ◌∙◌, sym, ap, subst, length, List, ℕ}
use Rattle.std.proofs.KnownBytes.{Appends-nil}
use Rattle.std.specs.Io.KnownBytes.{Appends}
use Rattle.ql_base.proofs.Pieces.{taken_none}
use Rattle.query_rules.specs.declared.query.Query.{Query}
use Rattle.query_rules.specs.declared.query.Reply.{Reply}
use Rattle.query_rules.specs.Log.{refused_text}
use Rattle.query_text.proofs.Spots.{lists_long, list_long, list_next, list_exit, refused_none}
use Rattle.query_text.proofs.log.write_refused.Goals as goal

pub returns-then-refused-eq0-clause-bytes : goal.returns-then-refused-eq0-clause-bytes
unfolding refused_text
returns-then-refused-eq0-clause-bytes g c =
    let written = g.K.Sink.written c.args.sink.now in
    let none = refused_none 0 c.args.callers.now c.args.outcome.now (omega (arith, c.requires.counted, c.if-refused-eq0.true)) in
    subst (λ (text : List ℕ). Appends written written text) (sym none) (Appends-nil written)

pub replies-requires : goal.replies-requires
replies-requires g c = let long = lists_long c.args.callers.now c.args.outcome.now c.requires.kinds in omega (arith, long, c.count-caller-end.ensures, c.loop-caller-test.true)

pub write_refused_of-requires : goal.write_refused_of-requires
write_refused_of-requires g c = ap (length {A = Reply}) c.replies.ensures ∙ list_long c.args.callers.now c.args.outcome.now c.loop-caller.caller c.requires.kinds ∙ sym (ap (length {A = Query}) c.queries.ensures)

pub loop-caller-init : goal.loop-caller-init
unfolding refused_text
loop-caller-init g c = (taken_none _ _, omega arith)

pub returns-in_err-write_refused_of-clause-bytes : goal.returns-in_err-write_refused_of-clause-bytes
returns-in_err-write_refused_of-clause-bytes g c =
    list_exit _ _ _ _ c.loop-caller.caller c.args.callers.now c.args.outcome.now c.queries.result.now c.replies.result.now _ c.from_residual.ensures.0 c.requires.kinds (omega (arith, c.count-caller-end.ensures, c.loop-caller-test.true))
    c.queries.ensures c.replies.ensures c.loop-caller.invariant.0 c.in_err-write_refused_of.ensures.bytes

pub loop-caller-preserved : goal.loop-caller-preserved
loop-caller-preserved g c = (
  list_next _ _ _ _ c.loop-caller.caller c.args.callers.now c.args.outcome.now c.queries.result.now c.replies.result.now c.requires.kinds (omega (arith, c.count-caller-end.ensures, c.loop-caller-test.true))
      c.queries.ensures c.replies.ensures c.loop-caller.invariant.0 c.in_ok-write_refused_of.ensures.bytes,
  omega (arith, c.loop-caller.invariant.1, c.in_ok-write_refused_of.ensures.cause.later),
)
