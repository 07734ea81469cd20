use Rattle.std.proofs.Common.{◌-◌, map}
use Rattle.log_reader.specs.Grouping.{groups_of}
use Rattle.log_reader.proofs.Groups.{GroupsSoFar}
use Rattle.log_reader.proofs.group.groups.Given as goal

abbrev pub invariant-loop-caller : goal.invariant-loop-caller
invariant-loop-caller l = GroupsSoFar (groups_of l.count 0 l.lines) l.callers (map (λ v. v.items) l.told.items) (groups_of (l.count - l.caller) l.caller l.rest)
