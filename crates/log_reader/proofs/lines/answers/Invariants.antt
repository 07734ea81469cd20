use Rattle.std.proofs.Common.{◌≡◌, ◌++◌, length}
use Rattle.std.specs.List.{AllByRecursion}
use Rattle.log_reader.specs.Listing.{answers_text, IsWritable}
use Rattle.log_reader.proofs.lines.answers.Given as goal

-- the lines so far are taken
abbrev pub invariant-loop-first : goal.invariant-loop-first
invariant-loop-first l = (l.bytes ≡ answers_text l.lines.items ++ l.rest) × AllByRecursion IsWritable l.lines.items

abbrev pub decreases-loop-first : goal.decreases-loop-first
decreases-loop-first l = length l.rest
