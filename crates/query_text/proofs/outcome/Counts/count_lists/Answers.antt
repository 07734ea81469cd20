use Rattle.std.proofs.Common.{Vec, length, count_by, ◌∙◌, ap, ◌+◌}
use Rattle.std.specs.declared.alloc.Global.{Global}
use Rattle.query_rules.specs.declared.query.Reply.{Reply}
use Rattle.query_rules.specs.declared.query.Total.TheVariants.{Queries}
use Rattle.query_rules.specs.Log.{is_counted}
use Rattle.query_text.proofs.Tallies.{lists_next, count_queries}
use Rattle.query_text.proofs.outcome.Counts.count_lists.Goals as goal

pub loop-rest-preserved : goal.loop-rest-preserved
loop-rest-preserved c =
    let is = c.deref.ensures.value ∙ ap (λ (v : Vec Reply Global). v.items) c.list-item.is in (
      λ t. lists_next (count_by (is_counted t)) c.loop-rest.rest.now c.list-item.result c.deref.result.now _ _ _ c.in-len1-up.len_at_least is (c.count_list.ensures t) (c.loop-rest.invariant.0 t),
      lists_next (length {A = Reply}) c.loop-rest.rest.now c.list-item.result c.deref.result.now _ _ _ c.in-len1-up.len_at_least is
          (c.count_list.ensures Queries ∙ ap (λ n. c.loop-rest.self.queries + n) (count_queries c.deref.result.now)) c.loop-rest.invariant.1,
    )
