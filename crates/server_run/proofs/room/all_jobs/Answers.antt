use Rattle.std.proofs.Common.{rules, arith, ◌≡◌, ◌+◌, ◌<◌, ◌≤◌, [], length, get_or}
use Rattle.std.proofs.lemmas.List.Sums.{sum_by_more_le}
use Rattle.query_rules.specs.Ledger.{jobs_of}
use Rattle.server_run.proofs.Numbers.{jobs_few}
use Rattle.server_run.proofs.room.all_jobs.Goals as goal

pub overflow_add-jobs : goal.overflow_add-jobs
overflow_add-jobs c =
    let callers = c.args.callers.now in
    let caller = c.loop-caller.caller in
    let there : caller < length callers = omega (arith, c.loop-caller-test.true, c.count-caller-end.ensures) in
    let more = sum_by_more_le jobs_of callers caller [] there in
    let all = jobs_few callers 1000000 c.requires.few in
    let here : c.jobs-jobs.result ≡ jobs_of (get_or callers caller []) = c.jobs-jobs.ensures in
    let small : c.loop-caller.jobs + c.jobs-jobs.result ≤ 1000000 = omega (arith, c.loop-caller.invariant, more, all, here) in
    search rules
