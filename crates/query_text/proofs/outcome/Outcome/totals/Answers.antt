use Rattle.std.proofs.Common.{arith, ap, length, map, sum_by, ◌∙◌}
use Rattle.query_rules.specs.declared.query.Reply.{Reply}
use Rattle.query_rules.specs.declared.query.Total.TheVariants.{Queries}
use Rattle.query_text.proofs.outcome.Outcome.totals.Goals as goal

pub count_lists-requires : goal.count_lists-requires
count_lists-requires c =
    let none = c.new-totals.ensures Queries in
    let same = ap (λ vs. sum_by (length {A = Reply}) (map (λ v. v.items) vs)) c.deref.ensures.value ∙ ap (λ l. sum_by (length {A = Reply}) l) c.self.view_is in
    omega (arith, none, same, c.requires)
