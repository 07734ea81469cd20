use Rattle.std.proofs.Common.{refl}
use Rattle.combine_job.proofs.combining.run_once.Goals as goal

pub returns-clause-related : goal.returns-clause-related
returns-clause-related g c = let e = c.run_kept-answer.ensures in
    (c.args.kept, c.run_kept-answer.new.kept, c.args.job, c.run_kept-answer.result, refl, refl, refl, refl, e.position, e.counted, e.meaning, e.room)

pub returns-clause-answer : goal.returns-clause-answer
returns-clause-answer g c = (c.run_kept-answer.result, c.run_kept-answer.new.kept, refl, refl)
