use Rattle.std.proofs.Common.{ℕ, ◌-◌, [], ◌∷◌, sym, ◌∙◌, subst}
use Rattle.std.proofs.lemmas.Result.{err_from_is_err_and}
use Rattle.waiter_chain.specs.Calls.{MayEnd}
use Rattle.combine_job.specs.Parcels.{Related, Ruled}
use Rattle.dist_mutex.specs.Unlocks.{Went, TookJob, NotLinked, serves}
use Rattle.dist_mutex.proofs.Unlocking.{soon_early, hands_unlinked, ran_round}
use Rattle.dist_mutex.proofs.mutex.DistMutex.combine_next.Goals as goal

pub returns-in_err-turn-clause-round : goal.returns-in_err-turn-clause-round
returns-in_err-turn-clause-round g c =
    let p = err_from_is_err_and c.from_residual.result c.from_residual.ensures.1 in
    rw (p.1, p.2) (soon_early c.args.pass.now.runs.count c.args.pass.now.runs.log.items c.args.turn c.args.pass.now.pass.seat.me c.find_job.new.pass.pass.seat.me c.in_err-turn.field-0.0 c.in_err-turn.ensures.found.1)

pub take_job-requires-clause-ends : goal.take_job-requires-clause-ends
take_job-requires-clause-ends g c = let f = c.in_ok-turn.ensures.found in
    subst (λ z. MayEnd (Related g.V.Room.rooms g.J.Job.means) z.count z.log.items c.find_job.new.pass.pass.seat.me) (sym f.0) f.1.1

pub returns-in_err-turn-2-clause-round : goal.returns-in_err-turn-2-clause-round
returns-in_err-turn-2-clause-round g c =
    let p = err_from_is_err_and c.from_residual-in_err-turn-2.result c.from_residual-in_err-turn-2.ensures.1 in
    let f = c.in_ok-turn.ensures.found in let u = c.in_ok-turn.turn in let x = c.in_err-turn-2.field-0.0 in
    let l = c.find_job.new.pass.pass.seat.me in let n = c.take_job.new.pass.pass.seat.me in
    rw (p.1, p.2)
    (hands_unlinked (Related g.V.Room.rooms g.J.Job.means) c.args.self.now.chain.table.shared.table_id.slots c.args.pass.now.runs.count c.args.pass.now.runs.log.items c.args.turn u x c.args.pass.now.pass.seat.me l n f.1
    (subst (λ z. NotLinked z.count z.log.items u l n x) f.0 c.in_err-turn-2.ensures.taken.1))

pub returns-clause-round : goal.returns-clause-round
returns-clause-round g c =
    let relates = Related g.V.Room.rooms g.J.Job.means in let rule = Ruled g.V.Room.rooms g.J.Job.means g.J.Job.is_ready c.args.self.now.chain.table.shared.key in let slots : ℕ = c.args.self.now.chain.table.shared.table_id.slots in
    let f = c.in_ok-turn.ensures.found in let k = c.in_ok-turn-2.ensures.taken in let r = c.run_job.ensures in
    let u = c.in_ok-turn.turn in let v = c.in_ok-turn-2.turn in let link = c.in_ok-turn-2.link in
    let l = c.find_job.new.pass.pass.seat.me in let j = c.take_job.new.pass.pass.seat.me in let n = c.run_job.new.pass.pass.seat.me in
    ran_round relates rule slots c.args.pass.now.runs.count c.args.pass.now.runs.log.items c.args.turn u v c.run_job.result link c.args.pass.now.pass.seat.me l j n f.1
    (subst (λ z. TookJob relates rule slots z.count z.log.items u l j v link) f.0 k.1) r.turn.0 r.turn.1 r.turn.2 r.turn.3 r.ends
    (subst (λ z. Went z.count z.log.items (serves j.0.number (v.first - 2) ∷ []) j n) (k.0 ∙ f.0) r.went)
