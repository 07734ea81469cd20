use Rattle.std.proofs.Common.{◌≡◌, take, length, sum_by}
use Rattle.server_run.proofs.order.count_replies.Given as goal

abbrev pub invariant-loop-caller : goal.invariant-loop-caller
invariant-loop-caller l = l.count ≡ sum_by length (take l.caller l.outcome)
