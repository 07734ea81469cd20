use Rattle.std.proofs.Common.{rules}
use Rattle.std.proofs.lemmas.List.Sorted.{IsNonDecreasingBy-from_sort, answers_always}
use Rattle.log_reader.specs.Grouping.{slot}
use Rattle.log_reader.proofs.checks.sort_lines.Goals as goal

pub returns-clause-sorted : goal.returns-clause-sorted
returns-clause-sorted c = IsNonDecreasingBy-from_sort slot _ (c.sort_unstable_by_key.ensures.sorted slot (answers_always _ _ _ (λ f a r g h. search rules)))
