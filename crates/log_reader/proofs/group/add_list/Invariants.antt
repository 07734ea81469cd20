use Rattle.std.proofs.Common.{◌≡◌, ◌++◌, ◌∷◌, [], length, List}
use Rattle.query_rules.specs.declared.query.Query.{Query}
use Rattle.log_reader.proofs.group.add_list.Given as goal

-- the last caller has the queries so far
abbrev pub invariant-loop-rest : goal.invariant-loop-rest
invariant-loop-rest l = (front : List Query) × (front ++ l.rest ≡ l.queries) × (l.callers ≡ l.fn.callers ++ front ∷ [])

abbrev pub decreases-loop-rest : goal.decreases-loop-rest
decreases-loop-rest l = length l.rest
