use Rattle.std.proofs.Common.{◌≡◌, take, sum_by}
use Rattle.query_rules.specs.Maps.{writes_of}
use Rattle.server_run.proofs.room.all_writes.Given as goal

abbrev pub invariant-loop-caller : goal.invariant-loop-caller
invariant-loop-caller l = l.writes ≡ sum_by writes_of (take l.caller l.callers)
