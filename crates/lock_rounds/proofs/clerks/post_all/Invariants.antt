use Rattle.std.proofs.Common.{◌+◌, ◌≤◌}
use Rattle.dist_mutex.specs.Passes.{dist_view}
use Rattle.lock_rounds.specs.Clerks.{HasListed}
use Rattle.lock_rounds.proofs.clerks.post_all.Given as goal

-- a job was posted in each round so far, and paid for
abbrev pub invariant-loop : goal.invariant-loop
invariant-loop g l = record {
  quota : l.rounds ≤ (dist_view l.clerk).quota + l.counter;
  listed : HasListed l.counter l.desk l.fn.clerk l.clerk;
}
