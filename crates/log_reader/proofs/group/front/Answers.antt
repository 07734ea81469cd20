use Rattle.std.proofs.Common.{sym, ◌∙◌}
use Rattle.log_reader.specs.Grouping.{front_of}
use Rattle.log_reader.proofs.Groups.{front_more, front_stop, front_end, next_length}
use Rattle.log_reader.proofs.group.front.Goals as goal

pub loop-rest-preserved : goal.loop-rest-preserved
loop-rest-preserved c = (
  rw (c.in_ok-push.ensures.items, c.in_ok-push-2.ensures.items, c.of.ensures) (front_more c.args.caller c.loop-rest.index _ _ _ c.loop-rest.rest.now _ c.in-len1-up.len_at_least (sym c.is_next.ensures ∙ c.if-not-is_next.false) c.loop-rest.invariant.0),
  next_length c.loop-rest.rest.now _ _ c.in-len1-up.len_at_least c.loop-rest.invariant.1,
)

pub returns-then-not-is_next : goal.returns-then-not-is_next
returns-then-not-is_next c =
    let h = front_stop c.args.caller c.loop-rest.index (front_of c.args.caller 0 c.args.lines.now) c.loop-rest.queries.items c.loop-rest.replies.items c.loop-rest.rest.now _ c.in-len1-up.len_at_least (sym c.is_next.ensures ∙ c.if-not-is_next.true) c.loop-rest.invariant.0 in
    record { queries = h.0; replies = h.1; rest = h.2 }

pub returns : goal.returns
returns c =
    let h = front_end c.args.caller c.loop-rest.index (front_of c.args.caller 0 c.args.lines.now) c.loop-rest.queries.items c.loop-rest.replies.items c.loop-rest.rest.now c.in_default.len_below c.loop-rest.invariant.0 in
    record { queries = h.0; replies = h.1; rest = h.2 }
