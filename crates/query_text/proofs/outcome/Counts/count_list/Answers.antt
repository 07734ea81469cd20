use Rattle.std.proofs.Common.{ap, ◌∙◌, ◌+◌}
use Rattle.query_rules.specs.declared.query.Reply.{Reply}
use Rattle.query_rules.specs.declared.query.Total.TheVariants.{Queries}
use Rattle.query_rules.specs.Log.{is_counted}
use Rattle.query_text.specs.Counts.{total_in}
use Rattle.query_text.proofs.Tallies.{count_next, length_next, one_if}
use Rattle.query_text.proofs.outcome.Counts.count_list.Goals as goal

pub loop-rest-preserved : goal.loop-rest-preserved
loop-rest-preserved c = (
  λ t. count_next (is_counted t) c.loop-rest.rest.now _ _ _ _ c.in-len1-up.len_at_least
      (c.count.ensures t ∙ ap (λ (r : Reply). total_in t c.loop-rest.self + one_if (is_counted t r)) c.reply-item.is) (c.loop-rest.invariant.0 t),
  length_next c.loop-rest.rest.now _ _ _ c.in-len1-up.len_at_least (c.count.ensures Queries) c.loop-rest.invariant.1,
)
