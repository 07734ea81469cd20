use Rattle.std.proofs.Common.{ℕ, Some, sym, ap, ◌∙◌}
use Rattle.waiter_chain.specs.declared.view.Stage.TheVariants.{Behind}
use Rattle.combine_job.proofs.tests.still_waits.Goals as goal

pub poll-requires-clause-behind : goal.poll-requires-clause-behind
poll-requires-clause-behind g c = let w = c.requires.waits in (Some w.0, w.1, w.2)

pub returns-clause-waits : goal.returns-clause-waits
returns-clause-waits g c = let w = c.requires.waits in let p = (c.in-Still.ensures.answer (Some w.0) w.1).1 in
    (w.0, ap (λ z. z.0.stage) p ∙ w.1 ∙ ap (λ (b : ℕ). Behind b (Some w.0)) (sym c.poll.ensures.own.2), ap (λ z. z.1) p ∙ w.2)
