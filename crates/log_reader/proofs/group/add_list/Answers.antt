use Rattle.log_reader.proofs.Groups.{list_next}
use Rattle.log_reader.proofs.group.add_list.Goals as goal

pub loop-rest-preserved : goal.loop-rest-preserved
loop-rest-preserved c = list_next c.args.callers.now c.args.queries.now c.loop-rest.rest.now c.loop-rest.callers c.add_query.new.self _ c.in-len1-up.len_at_least c.loop-rest.invariant c.in_ok-add_query.ensures.ok
