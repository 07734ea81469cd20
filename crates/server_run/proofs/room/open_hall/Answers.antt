use Rattle.std.proofs.Common.{rules, arith, ◌≤◌}
use Rattle.server_run.proofs.Numbers.{writes_few}
use Rattle.server_run.proofs.room.open_hall.Goals as goal

pub invariant_of-cargo : goal.invariant_of-cargo
invariant_of-cargo c =
    let all = writes_few c.args.callers.now 1000000 c.requires.few in
    let few : c.all_writes-writes.result ≤ 1000000 = omega (arith, c.all_writes-writes.ensures, all) in
    search rules

pub make-requires-clause-words : goal.make-requires-clause-words
make-requires-clause-words c κs =
    let all = writes_few c.args.callers.now 1000000 c.requires.few in
    let few : c.all_writes-writes.result ≤ 1000000 = omega (arith, c.all_writes-writes.ensures, all) in
    search rules
