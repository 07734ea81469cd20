use Rattle.std.proofs.Common.{sym, subst}
use Rattle.waiter_chain.specs.Calls.{MayEnd}
use Rattle.combine_job.specs.Parcels.{Related}
use Rattle.dist_mutex.proofs.Unlocking.{soon_stops}
use Rattle.dist_mutex.proofs.mutex.DistMutex.stop.Goals as goal

pub hand_on-requires-clause-ends : goal.hand_on-requires-clause-ends
hand_on-requires-clause-ends g c = let f = c.in-Ok.ensures.found in
    subst (λ z. MayEnd (Related g.V.Room.rooms g.J.Job.means) z.count z.log.items c.find_job.new.pass.pass.seat.me) (sym f.0) f.1.1

pub returns-in-Err-clause-stopped : goal.returns-in-Err-clause-stopped
returns-in-Err-clause-stopped g c = soon_stops c.args.pass.now.runs.count c.args.pass.now.runs.log.items c.args.turn c.args.pass.now.pass.seat.me c.find_job.new.pass.pass.seat.me _ c.in-Err.ensures.found.1
