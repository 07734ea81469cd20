use Rattle.std.proofs.Common.{refl, sym, subst}
use Rattle.waiter_chain.specs.Calls.{HasTurn, MayEnd}
use Rattle.combine_job.specs.Parcels.{Related, Ruled}
use Rattle.combine_job.proofs.Finding.{found}
use Rattle.dist_mutex.proofs.Unlocking.{went_moved}
use Rattle.dist_mutex.proofs.mutex.DistMutex.take_job.Goals as goal

pub returns-then-link-ne0-clause-taken : goal.returns-then-link-ne0-clause-taken
returns-then-link-ne0-clause-taken g c =
    let runs = c.args.pass.now.runs in let m = c.args.pass.now.pass.seat.me in let l = c.link_of-link in let ne = c.if-link-ne0.true in
    (refl, (refl, ne, found (Related g.V.Room.rooms g.J.Job.means) (Ruled g.V.Room.rooms g.J.Job.means g.J.Job.is_ready c.args.self.now.chain.table.shared.key) c.args.self.now.chain.table.shared.table_id.slots runs.count runs.log.items c.args.turn m l.new.pass.seat.me l.result c.requires.turn.0 c.requires.ends c.requires.turn.1 ne l.ensures.link, went_moved m l.new.pass.seat.me _ _ _ (l.ensures.link.1 ne).4))

pub hand_on-requires-clause-turn : goal.hand_on-requires-clause-turn
hand_on-requires-clause-turn g c =
    (subst (HasTurn c.args.self.now.chain.table.shared.table_id.slots c.args.turn) (sym (c.link_of-link.ensures.link.0 c.if-link-ne0.false)) c.requires.turn.0, c.requires.turn.1)

pub hand_on-requires-clause-ends : goal.hand_on-requires-clause-ends
hand_on-requires-clause-ends g c =
    subst (MayEnd (Related g.V.Room.rooms g.J.Job.means) c.args.pass.now.runs.count c.args.pass.now.runs.log.items) (sym (c.link_of-link.ensures.link.0 c.if-link-ne0.false)) c.requires.ends
