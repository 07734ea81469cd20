use Rattle.std.proofs.Common.{refl, sym, ◌∙◌, subst}
use Rattle.combine_job.proofs.Posting.{posted_inside}
use Rattle.combine_job.proofs.run.run_taken.Goals as goal

pub run_kept-requires-clause-ready : goal.run_kept-requires-clause-ready
run_kept-requires-clause-ready g c = let r = c.requires.ready in subst g.J.Job.is_ready (posted_inside r.0 c.into_job.result (sym r.1 ∙ c.into_job.ensures)) r.2

pub into_answer-requires : goal.into_answer-requires
into_answer-requires g c = (c.run_kept.result, refl)

pub returns-clause-related : goal.returns-clause-related
returns-clause-related g c = let e = c.run_kept.ensures in
    (c.args.kept.now, c.run_kept.new.kept, c.into_job.result, c.run_kept.result, refl, refl, c.into_job.ensures, sym c.into_answer.ensures, e.position, e.counted, e.meaning, e.room)
