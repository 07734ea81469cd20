use Rattle.std.proofs.Common.{ℕ, Some, sym, ap, ◌∙◌}
use Rattle.waiter_chain.specs.declared.view.Stage.TheVariants.{Behind}
use Rattle.combine_job.specs.declared.parcel.Parcel.TheVariants.{Posted}
use Rattle.dist_mutex.proofs.tests.link_late.Goals as goal

pub link-requires-clause-behind : goal.link-requires-clause-behind
link-requires-clause-behind g c = let w = c.requires.waits in (Some (Posted w.0), w.1, w.2)

pub returns-clause-waits : goal.returns-clause-waits
returns-clause-waits g c = let w = c.requires.waits in let l = c.link.ensures.linked in
    (w.0, ap (λ z. z.0.stage) l ∙ w.1 ∙ ap (λ (b : ℕ). Behind b (Some (Posted w.0))) (sym c.link.ensures.own.2), ap (λ z. z.1) l ∙ w.2)
