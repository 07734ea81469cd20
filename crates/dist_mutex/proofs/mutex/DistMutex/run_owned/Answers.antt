use Rattle.std.proofs.Common.{arith, sym, subst}
use Rattle.dist_mutex.specs.Owners.{Owning}
use Rattle.dist_mutex.proofs.Finds.{owns_more}
use Rattle.dist_mutex.proofs.mutex.DistMutex.run_owned.Goals as goal

pub run_listed-requires-clause-few : goal.run_listed-requires-clause-few
run_listed-requires-clause-few g c = omega (arith, c.requires.quota, c.requires.owner.small)

pub returns-clause-owner : goal.returns-clause-owner
returns-clause-owner g c =
    let slots = c.args.self.now.chain.table.shared.table_id.slots in let m = c.args.pass.now.pass.seat.me in
    subst (λ ran. Owning g.V.Room.rooms g.J.Job.means slots m c.run_listed.new.runs.count ran c.args.owner.now.turn c.run_listed.new.kept) (sym c.run_listed.ensures.listed)
    (owns_more g.V.Room.rooms g.J.Job.means g.J.Job.is_ready c.args.self.now.chain.table.shared.key slots m c.args.pass.now.runs.count c.run_listed.new.runs.count c.args.pass.now.runs.log.items c.args.owner.now.turn c.args.owner.now.kept c.run_listed.new.kept _ _ c.run_listed.ensures.due c.requires.owner c.run_listed.ensures.related)
