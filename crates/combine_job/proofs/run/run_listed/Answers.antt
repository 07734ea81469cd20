use Rattle.std.proofs.Common.{refl, sym}
use Rattle.combine_job.proofs.run.run_listed.Goals as goal

pub into_answer-requires : goal.into_answer-requires
into_answer-requires g c = (c.run_kept.result, refl)

pub returns-clause-related : goal.returns-clause-related
returns-clause-related g c = let e = c.run_kept.ensures in
    (c.args.kept.now, c.run_kept.new.kept, c.into_job.result, c.run_kept.result, refl, refl, c.into_job.ensures, sym c.into_answer.ensures, e.position, e.counted, e.meaning, e.room)
