use Rattle.std.proofs.Common.{ap, ◌∙◌}
use Rattle.combine_job.proofs.tests.wait_with.Goals as goal

pub returns-clause-waits : goal.returns-clause-waits
returns-clause-waits g c = let a = c.in-Waiting.ensures.answer.1 in
    (a.1.1.0, ap (λ z. z.0.stage) a.2 ∙ ap (λ z. z.0.stage) a.1.1.2, ap (λ z. z.1) a.2 ∙ ap (λ z. z.1) a.1.1.2)
