use Rattle.std.proofs.Common.{◌≡◌, ◌+◌, length, count_by}
use Rattle.query_rules.specs.declared.query.Total.{Total}
use Rattle.query_rules.specs.Log.{is_counted}
use Rattle.query_text.specs.Counts.{total_in}
use Rattle.query_text.proofs.outcome.Counts.count_list.Given as goal

-- the replies so far are counted
abbrev pub invariant-loop-rest : goal.invariant-loop-rest
invariant-loop-rest l =
    ((t : Total) → total_in t l.self + count_by (is_counted t) l.rest ≡ total_in t l.fn.self + count_by (is_counted t) l.replies)
    × (l.self.queries + length l.rest ≡ l.fn.self.queries + length l.replies)

abbrev pub decreases-loop-rest : goal.decreases-loop-rest
decreases-loop-rest l = length l.rest
