use Rattle.std.proofs.Common.{◌*◌, ◌≤◌}
use Rattle.dist_mutex.specs.Passes.{combine_of}
use Rattle.lock_rounds.specs.Clerks.{HasListed}
use Rattle.lock_rounds.proofs.clerks.own_all.Given as goal

-- no round listed a job, and none ran more jobs of others than the lock's limit allows, or than a u32 tells
abbrev pub invariant-loop : goal.invariant-loop
invariant-loop g l = record {
  listed : HasListed 0 l.desk l.fn.clerk l.clerk;
  few : l.combined ≤ l.counter * combine_of l.desk;
  small : l.combined ≤ l.counter * 4294967295;
}
