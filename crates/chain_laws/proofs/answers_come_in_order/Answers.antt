use Rattle.chain_laws.proofs.Ordered.{answers_in_order}
use Rattle.chain_laws.proofs.answers_come_in_order.Goals as goal

pub returns : goal.returns
returns g c = answers_in_order g.V.Room.rooms g.J.Job.means g.J.Job.is_ready
