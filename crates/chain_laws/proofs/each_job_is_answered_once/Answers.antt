use Rattle.chain_laws.proofs.Answered.{answers_once}
use Rattle.chain_laws.proofs.each_job_is_answered_once.Goals as goal

pub returns : goal.returns
returns g c = answers_once g.V.Room.rooms g.J.Job.means g.J.Job.is_ready
