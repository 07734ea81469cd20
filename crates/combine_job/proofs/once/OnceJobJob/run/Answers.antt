use Rattle.std.proofs.Common.{refl}
use Rattle.combine_job.proofs.once.OnceJobJob.run.Goals as goal

pub returns-clause-room : goal.returns-clause-room
returns-clause-room g c = c.requires.ready.1 c.args.value.now c.run.result c.run.new.arg2 c.requires.room record { shown = _; shows = refl; left = _; met = c.run.ensures; leaves = refl }
