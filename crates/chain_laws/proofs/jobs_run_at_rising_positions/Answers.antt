use Rattle.chain_laws.proofs.Ordered.{run_in_order}
use Rattle.chain_laws.proofs.jobs_run_at_rising_positions.Goals as goal

pub returns : goal.returns
returns g c = run_in_order g.V.Room.rooms g.J.Job.means
