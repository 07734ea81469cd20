use Rattle.std.proofs.Common.{rules, arith, ◌≡◌, ◌+◌, ◌<◌, ◌≤◌, [], length, get_or}
use Rattle.std.proofs.lemmas.List.Sums.{sum_by_more_le}
use Rattle.query_rules.specs.Maps.{writes_of}
use Rattle.server_run.proofs.Numbers.{writes_few}
use Rattle.server_run.proofs.room.all_writes.Goals as goal

pub overflow_add-writes : goal.overflow_add-writes
overflow_add-writes c =
    let callers = c.args.callers.now in
    let caller = c.loop-caller.caller in
    let there : caller < length callers = omega (arith, c.loop-caller-test.true, c.count-caller-end.ensures) in
    let more = sum_by_more_le writes_of callers caller [] there in
    let all = writes_few callers 1000000 c.requires.few in
    let here : c.writes-writes.result ≡ writes_of (get_or callers caller []) = c.writes-writes.ensures in
    let small : c.loop-caller.writes + c.writes-writes.result ≤ 1000000 = omega (arith, c.loop-caller.invariant, more, all, here) in
    search rules
