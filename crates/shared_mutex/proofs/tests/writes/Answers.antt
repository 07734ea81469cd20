use Rattle.std.proofs.Common.{◌≡◌, ℕ, subst}
use Rattle.hall.specs.Passes.{view}
use Rattle.hall.specs.Views.{standing}
use Rattle.hall.specs.declared.view.Standing.TheVariants.{Away}
use Rattle.shared_mutex.proofs.tests.writes.Goals as goal

pub returns-in-Ok : goal.returns-in-Ok
returns-in-Ok c = (
  c.unlock.ensures.pass,
  subst (λ (l : ℕ). standing (view c.unlock.new.pass) l ≡ Away) c.in-Ok.ensures.step.0 c.unlock.ensures.away,
  c.unlock.ensures.clear (c.in-Ok.ensures.clear c.requires.pass.0.2),
)
