use Rattle.run_laws.specs.WholeLaws.{show_one_history}
use Rattle.run_laws.proofs.joined_passes_show_one_history.Goals as goal

pub returns : goal.returns
returns c = show_one_history
