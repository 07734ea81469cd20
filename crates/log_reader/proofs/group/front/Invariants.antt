use Rattle.std.proofs.Common.{◌≤◌, ◌+◌, length}
use Rattle.log_reader.specs.Grouping.{front_of}
use Rattle.log_reader.proofs.Groups.{FrontSoFar}
use Rattle.log_reader.proofs.group.front.Given as goal

-- what is taken and what is left to take are all that is to be taken
abbrev pub invariant-loop-rest : goal.invariant-loop-rest
invariant-loop-rest l = FrontSoFar (front_of l.caller 0 l.lines) l.queries.items l.replies.items (front_of l.caller l.index l.rest) × (l.index + length l.rest ≤ length l.lines)

abbrev pub decreases-loop-rest : goal.decreases-loop-rest
decreases-loop-rest l = length l.rest
