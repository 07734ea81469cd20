use Rattle.std.proofs.Common.{length, ap, arith}
use Rattle.dist_mutex.proofs.tests.settle.Goals as goal

pub await_answer-requires-clause-runs : goal.await_answer-requires-clause-runs
await_answer-requires-clause-runs g c = (c.requires.runs, omega (arith, c.args.clerk.now.runs.counted, ap length c.requires.runs))

pub returns-clause-idle : goal.returns-clause-idle
returns-clause-idle g c = let w = c.requires.waits in ((c.await_answer.ensures.answered w.0 w.1).1.idle, c.await_answer.ensures.runs.0)
