use Rattle.std.proofs.Common.{refl, ap, slice_index_or}
use Rattle.hall.specs.Passes.{view}
use Rattle.hall.specs.Views.{mode_of}
use Rattle.hall.specs.declared.view.StepKind.TheVariants.{Load}
use Rattle.hall.specs.declared.view.Standing.TheVariants.{Away}
use Rattle.shared_mutex.specs.TryLaws.{looked_once}
use Rattle.sync_cell.proofs.tests.look_as_upgrader.Goals as goal

pub returns-clause-modes : goal.returns-clause-modes
returns-clause-modes c = let looked = looked_once (view c.args.pass.now) (view c.load.new.pass) Load _ _ refl c.load.ensures.step.0 in λ k. ap (λ l. mode_of (slice_index_or l k Away)) looked.standings
