use Rattle.std.proofs.Common.{arith, subst, get_or}
use Rattle.std.specs.Io.KnownBytes.{Appends}
use Rattle.ql_base.specs.Bytes.{AppendsFront}
use Rattle.query_rules.specs.declared.query.Query.{Query}
use Rattle.query_rules.specs.declared.query.Query.TheVariants as query
use Rattle.query_rules.specs.declared.query.Reply.{Reply}
use Rattle.query_rules.specs.Log.{refused_line}
use Rattle.query_text.proofs.Spots.{refused_next, refused_exit}
use Rattle.query_text.proofs.log.write_refused_of.Goals as goal

pub returns-in_err-write_if_refused-clause-bytes : goal.returns-in_err-write_if_refused-clause-bytes
returns-in_err-write_if_refused-clause-bytes g c =
    let d : Query = query.Get 0 0 in
    let cut = subst (λ (r : Reply). AppendsFront (g.K.Sink.written c.loop-index.sink) (g.K.Sink.written c.write_if_refused.new.sink) (refused_line c.args.caller c.loop-index.index (get_or c.args.queries.now c.loop-index.index d) r))
    c.index-replies-index.is c.in_err-write_if_refused.ensures.bytes in
    refused_exit _ _ _ _ c.args.caller c.loop-index.index c.args.queries.now c.args.replies.now d _ _ c.from_residual.ensures.0 (omega arith) (omega arith) c.loop-index.invariant.0 cut

pub loop-index-preserved : goal.loop-index-preserved
loop-index-preserved g c =
    let d : Query = query.Get 0 0 in
    let more = subst (λ (r : Reply). Appends (g.K.Sink.written c.loop-index.sink) (g.K.Sink.written c.write_if_refused.new.sink) (refused_line c.args.caller c.loop-index.index (get_or c.args.queries.now c.loop-index.index d) r))
    c.index-replies-index.is c.in_ok-write_if_refused.ensures.bytes in (
      refused_next _ _ _ _ c.args.caller c.loop-index.index c.args.queries.now c.args.replies.now d _ (omega arith) (omega arith) c.loop-index.invariant.0 more,
      omega (arith, c.loop-index.invariant.1, c.in_ok-write_if_refused.ensures.cause.later),
    )
