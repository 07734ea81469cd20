use Rattle.waiter_chain.proofs.Hands.{won_turn, won_ends}
use Rattle.combine_job.specs.Parcels.{Related, Ruled}
use Rattle.combine_job.proofs.tests.own.Goals as goal

pub returns-clause-turn : goal.returns-clause-turn
returns-clause-turn g c = won_turn (Ruled g.V.Room.rooms g.J.Job.means g.J.Job.is_ready c.args.chain.now.table.shared.key) _ _ c.args.pass.now.seat.me _ _ c.in-Ok.ensures.answer.0

pub returns-clause-ends : goal.returns-clause-ends
returns-clause-ends g c = won_ends (Related g.V.Room.rooms g.J.Job.means) (Ruled g.V.Room.rooms g.J.Job.means g.J.Job.is_ready c.args.chain.now.table.shared.key) _ _ c.args.pass.now.seat.me _ _ c.in-Ok.ensures.answer.0
