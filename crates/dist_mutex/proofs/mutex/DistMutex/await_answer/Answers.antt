use Rattle.std.proofs.Common.{◌≡◌, ℕ, suc, ◌+◌, ◌*◌, [], ◌∷◌, Some, sym, ap, ◌∙◌, subst}
use Rattle.waiter_chain.specs.Goods.{Part, part}
use Rattle.waiter_chain.specs.Steps.{SoundAnswer, entry, stays}
use Rattle.waiter_chain.specs.declared.view.StepKind.TheVariants.{LoadStatus}
use Rattle.waiter_chain.specs.declared.view.Stage.TheVariants.{Behind}
use Rattle.combine_job.specs.declared.parcel.Parcel.TheVariants.{Posted}
use Rattle.combine_job.specs.Parcels.{Ruled}
use Rattle.dist_mutex.proofs.Waits.{polled-more}
use Rattle.dist_mutex.proofs.Answering.{back_posted, waited_done, waited_owner}
use Rattle.dist_mutex.proofs.mutex.DistMutex.await_answer.Goals as goal

pub poll-requires-clause-behind : goal.poll-requires-clause-behind
poll-requires-clause-behind g c =
    let i = c.loop.invariant in let m = c.args.pass.now.pass.seat.me in let l = c.loop.pass.pass.seat.me in
    let stage : l.0.stage ≡ Behind c.loop.pass.pass.behind (Some (Posted c.requires.behind.0)) = ap (λ z. z.0.stage) i.6.1 ∙ c.requires.behind.1 ∙ ap (λ (x : ℕ). Behind x (Some (Posted c.requires.behind.0))) (sym i.5) in let empty : l.1 ≡ [] = ap (λ z. z.1) i.6.1 ∙ c.requires.behind.2 in
    (Some (Posted c.requires.behind.0), stage, empty)

pub loop-preserved : goal.loop-preserved
loop-preserved g c =
    let i = c.loop.invariant in let m = c.args.pass.now.pass.seat.me in let l = c.loop.pass.pass.seat.me in
    let stage : l.0.stage ≡ Behind c.loop.pass.pass.behind (Some (Posted c.requires.behind.0)) = ap (λ z. z.0.stage) i.6.1 ∙ c.requires.behind.1 ∙ ap (λ (x : ℕ). Behind x (Some (Posted c.requires.behind.0))) (sym i.5) in let empty : l.1 ≡ [] = ap (λ z. z.1) i.6.1 ∙ c.requires.behind.2 in
    let o = c.poll.ensures.own in let a = c.in-Still.ensures.answer (Some (Posted c.requires.behind.0)) stage in let k : ℕ = i.6.0 in
    (tt, tt, o.0 ∙ i.2, o.1 ∙ i.3, i.4, o.2 ∙ i.5, (suc k, a.1 ∙ ap (λ z. stays z (entry z.0 LoadStatus (1 + 2 * z.0.number) c.in-Still.word)) i.6.1 ∙ polled-more 2 m k c.in-Still.word a.0))

pub run_back-requires-clause-posted : goal.run_back-requires-clause-posted
run_back-requires-clause-posted g c =
    let i = c.loop.invariant in let m = c.args.pass.now.pass.seat.me in let l = c.loop.pass.pass.seat.me in
    let stage : l.0.stage ≡ Behind c.loop.pass.pass.behind (Some (Posted c.requires.behind.0)) = ap (λ z. z.0.stage) i.6.1 ∙ c.requires.behind.1 ∙ ap (λ (x : ℕ). Behind x (Some (Posted c.requires.behind.0))) (sym i.5) in let empty : l.1 ≡ [] = ap (λ z. z.1) i.6.1 ∙ c.requires.behind.2 in
    let a = c.in-Owner.ensures.answer (Some (Posted c.requires.behind.0)) stage in
    (c.requires.behind.0, back_posted g.V.Room.rooms g.J.Job.means g.J.Job.is_ready c.args.self.now.chain.table.shared.key c.args.self.now.chain.table.shared.table_id.slots c.in-Owner.turn l c.poll.new.pass.seat.me _ c.requires.behind.0 empty a.1 a.2 a.3)

pub returns-in-Owner-clause-answered : goal.returns-in-Owner-clause-answered
returns-in-Owner-clause-answered g c job mine =
    let i = c.loop.invariant in let m = c.args.pass.now.pass.seat.me in let l = c.loop.pass.pass.seat.me in
    let stage : l.0.stage ≡ Behind c.loop.pass.pass.behind (Some (Posted job)) = ap (λ z. z.0.stage) i.6.1 ∙ mine ∙ ap (λ (x : ℕ). Behind x (Some (Posted job))) (sym i.5) in let empty : l.1 ≡ [] = ap (λ z. z.1) i.6.1 ∙ c.requires.behind.2 in
    let t = c.in-Owner.turn in let n = c.poll.new.pass.seat.me in let a = c.in-Owner.ensures.answer (Some (Posted job)) stage in
    let r = c.run_back.ensures.answered job (back_posted g.V.Room.rooms g.J.Job.means g.J.Job.is_ready c.args.self.now.chain.table.shared.key c.args.self.now.chain.table.shared.table_id.slots t l n _ job empty a.1 a.2 a.3) in
    waited_owner g.V.Room.rooms g.J.Job.means g.J.Job.is_ready c.args.self.now.chain.table.shared.key c.args.self.now.chain.combine c.args.pass.now.pass.behind i.6.0 t job c.run_back.result r.0 m l n c.run_back.new.pass.pass.seat.me i.6.1 (a.0 ∙ i.5) a.1 a.3 r.1 r.2

pub collect-requires-clause-done : goal.collect-requires-clause-done
collect-requires-clause-done g c =
    let i = c.loop.invariant in let m = c.args.pass.now.pass.seat.me in let l = c.loop.pass.pass.seat.me in
    let stage : l.0.stage ≡ Behind c.loop.pass.pass.behind (Some (Posted c.requires.behind.0)) = ap (λ z. z.0.stage) i.6.1 ∙ c.requires.behind.1 ∙ ap (λ (x : ℕ). Behind x (Some (Posted c.requires.behind.0))) (sym i.5) in let empty : l.1 ≡ [] = ap (λ z. z.1) i.6.1 ∙ c.requires.behind.2 in
    let p = c.in-Done.ensures.answer (Some (Posted c.requires.behind.0)) stage in let number = ap (λ z. z.0.number) p.1 in (
      Posted c.requires.behind.0,
      p.0,
      ap (λ z. z.0.stage) p.1,
      ap (λ z. z.1) p.1 ∙ (λ i. (2 + 2 * l.0.number, Some p.0) ∷ empty i) ∙ ap (λ (x : ℕ). (2 + 2 * x, Some p.0) ∷ []) (sym number),
      subst (λ (y : Part _). SoundAnswer (Ruled g.V.Room.rooms g.J.Job.means g.J.Job.is_ready c.args.self.now.chain.table.shared.key) y (Posted c.requires.behind.0) p.0) (ap (λ z. part z.0.number z.0.quota z.0.own) (sym p.1)) p.2,
    )

pub returns-in-Done-clause-answered : goal.returns-in-Done-clause-answered
returns-in-Done-clause-answered g c job mine =
    let i = c.loop.invariant in let m = c.args.pass.now.pass.seat.me in let l = c.loop.pass.pass.seat.me in
    let stage : l.0.stage ≡ Behind c.loop.pass.pass.behind (Some (Posted job)) = ap (λ z. z.0.stage) i.6.1 ∙ mine ∙ ap (λ (x : ℕ). Behind x (Some (Posted job))) (sym i.5) in let empty : l.1 ≡ [] = ap (λ z. z.1) i.6.1 ∙ c.requires.behind.2 in
    let p = c.in-Done.ensures.answer (Some (Posted job)) stage in let q = c.collect.ensures.collected in
    waited_done g.V.Room.rooms g.J.Job.means g.J.Job.is_ready c.args.self.now.chain.table.shared.key c.args.self.now.chain.combine c.args.pass.now.pass.behind i.6.0 job c.collect.result p.0 q.0 m l c.poll.new.pass.seat.me c.collect.new.pass.seat.me i.6.1 p.1 p.2 q.1 q.2
