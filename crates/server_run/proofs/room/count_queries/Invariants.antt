use Rattle.std.proofs.Common.{◌≡◌, take, length, sum_by}
use Rattle.server_run.proofs.room.count_queries.Given as goal

abbrev pub invariant-loop-caller : goal.invariant-loop-caller
invariant-loop-caller l = l.queries ≡ sum_by length (take l.caller l.callers)
