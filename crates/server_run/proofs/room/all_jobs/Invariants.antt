use Rattle.std.proofs.Common.{◌≡◌, take, sum_by}
use Rattle.query_rules.specs.Ledger.{jobs_of}
use Rattle.server_run.proofs.room.all_jobs.Given as goal

abbrev pub invariant-loop-caller : goal.invariant-loop-caller
invariant-loop-caller l = l.jobs ≡ sum_by jobs_of (take l.caller l.callers)
