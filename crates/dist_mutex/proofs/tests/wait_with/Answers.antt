use Rattle.std.proofs.Common.{◌≡◌, [], Some, sym, ap, ◌∙◌}
use Rattle.waiter_chain.specs.declared.view.Stage.TheVariants.{Behind}
use Rattle.waiter_chain.proofs.Turns.{same_first}
use Rattle.combine_job.specs.declared.parcel.Parcel.TheVariants.{Posted}
use Rattle.combine_job.proofs.Posting.{inside}
use Rattle.dist_mutex.proofs.tests.wait_with.Goals as goal

pub returns-clause-waits : goal.returns-clause-waits
returns-clause-waits g c =
    let x = c.in-Waiting.ensures.answer.1 in let y = x.1.1 in
    let same : y.0 ≡ Posted c.args.job = inside y.0 (Posted c.args.job) (same_first _ _ (Some y.0) (Some (Posted c.args.job)) [] [] (sym y.1)) in
    (ap (λ z. z.0.stage) x.2 ∙ ap (λ z. z.0.stage) y.2 ∙ ap (λ z. Behind c.post.new.pass.behind (Some z)) same, ap (λ z. z.1) x.2 ∙ ap (λ z. z.1) y.2)
