use Rattle.std.proofs.Common.{◌≡◌, ◌+◌, length}
use Rattle.server_run.specs.Crowd.{AllRoomy}
use Rattle.server_run.proofs.seats.reserve_lists.Given as goal

abbrev pub invariant-loop-caller : goal.invariant-loop-caller
invariant-loop-caller l = AllRoomy l.callers 1 l.lists.items × (l.caller ≡ length l.lists.items + 1)
