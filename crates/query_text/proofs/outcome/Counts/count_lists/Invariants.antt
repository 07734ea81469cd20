use Rattle.std.proofs.Common.{◌≡◌, ◌+◌, length, sum_by, map}
use Rattle.query_rules.specs.declared.query.Total.{Total}
use Rattle.query_rules.specs.Log.{total_of}
use Rattle.query_text.specs.Counts.{total_in}
use Rattle.query_text.proofs.outcome.Counts.count_lists.Given as goal

-- the lists so far are counted
abbrev pub invariant-loop-rest : goal.invariant-loop-rest
invariant-loop-rest l =
    ((t : Total) → total_in t l.self + total_of t (map (λ v. v.items) l.rest) ≡ total_in t l.fn.self + total_of t (map (λ v. v.items) l.lists))
    × (l.self.queries + sum_by length (map (λ v. v.items) l.rest) ≡ l.fn.self.queries + sum_by length (map (λ v. v.items) l.lists))

abbrev pub decreases-loop-rest : goal.decreases-loop-rest
decreases-loop-rest l = length l.rest
