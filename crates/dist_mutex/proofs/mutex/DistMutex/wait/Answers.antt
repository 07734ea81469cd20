use Rattle.std.proofs.Common.{ℕ, suc, ◌+◌, ◌*◌, None, ap, ◌∙◌, sym, subst}
use Rattle.waiter_chain.specs.Steps.{SeatState, entry, stays}
use Rattle.waiter_chain.specs.declared.turn.Turn.{Turn}
use Rattle.waiter_chain.specs.declared.view.StepKind.TheVariants.{LoadStatus}
use Rattle.dist_mutex.specs.Owners.{LockedBy}
use Rattle.dist_mutex.proofs.Waits.{polled-more, polled_behind}
use Rattle.dist_mutex.proofs.mutex.DistMutex.wait.Goals as goal

pub poll-requires-clause-behind : goal.poll-requires-clause-behind
poll-requires-clause-behind g c = let i = c.loop.invariant in let b = polled_behind _ _ i.6.0 c.args.pass.now.pass.seat.me c.loop.pass.pass.seat.me i.5 c.requires.behind i.6.1 in (None, b.0, b.1)

pub loop-preserved : goal.loop-preserved
loop-preserved g c =
    let i = c.loop.invariant in let o = c.poll.ensures.own in let b = polled_behind _ _ i.6.0 c.args.pass.now.pass.seat.me c.loop.pass.pass.seat.me i.5 c.requires.behind i.6.1 in let a = c.in-Still.ensures.answer None b.0 in let k : ℕ = i.6.0 in
    (tt, tt, o.0 ∙ i.2, o.1 ∙ i.3, i.4, o.2 ∙ i.5, (suc k, a.1 ∙ ap (λ z. stays z (entry z.0 LoadStatus (1 + 2 * z.0.number) c.in-Still.word)) i.6.1 ∙ polled-more 1 c.args.pass.now.pass.seat.me k c.in-Still.word a.0))

pub take-requires-clause-won : goal.take-requires-clause-won
take-requires-clause-won g c =
    let i = c.loop.invariant in let b = polled_behind _ _ i.6.0 c.args.pass.now.pass.seat.me c.loop.pass.pass.seat.me i.5 c.requires.behind i.6.1 in
    (c.loop.pass.pass.seat.me, _, (c.in-Owner.ensures.answer None b.0).0)

pub returns-in-Owner-clause-owner : goal.returns-in-Owner-clause-owner
returns-in-Owner-clause-owner g c =
    let i = c.loop.invariant in let m = c.args.pass.now.pass.seat.me in let l = c.loop.pass.pass.seat.me in
    let b = polled_behind _ _ i.6.0 m l i.5 c.requires.behind i.6.1 in let n = c.take.new.pass.pass.seat.me in
    let o = c.args.self.now.chain.table.shared.key in let slots = c.args.self.now.chain.table.shared.table_id.slots in
    (i.6.0, subst (λ (z : SeatState _ × Turn). LockedBy g.V.Room.rooms g.J.Job.means o slots z.0 n (entry z.0.0 LoadStatus (1 + 2 * z.0.0.number) (z.1.end + 4)) c.take.result.turn c.take.result.kept) (λ t. (i.6.1 t, sym c.take.ensures.turn t)) (c.take.ensures.locked l _ (c.in-Owner.ensures.answer None b.0).0))

pub unreachable-requires : goal.unreachable-requires
unreachable-requires g c =
    let i = c.loop.invariant in let b = polled_behind _ _ i.6.0 c.args.pass.now.pass.seat.me c.loop.pass.pass.seat.me i.5 c.requires.behind i.6.1 in c.in-Done.ensures.answer None b.0
