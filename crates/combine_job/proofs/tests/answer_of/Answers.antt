use Rattle.std.proofs.Common.{◌≡◌, ℕ, ◌+◌, ◌*◌, [], ◌∷◌, Some, sym, ap, ◌∙◌, subst}
use Rattle.waiter_chain.specs.Goods.{Part, part}
use Rattle.waiter_chain.specs.Steps.{SoundAnswer}
use Rattle.combine_job.specs.Parcels.{Ruled}
use Rattle.combine_job.proofs.tests.answer_of.Goals as goal

pub poll-requires-clause-behind : goal.poll-requires-clause-behind
poll-requires-clause-behind g c = let w = c.requires.waits in (Some w.0, w.1, w.2)

pub collect-requires-clause-done : goal.collect-requires-clause-done
collect-requires-clause-done g c = let w = c.requires.waits in let m = c.args.pass.now.seat.me in
    let p = c.in-Done.ensures.answer (Some w.0) w.1 in let number = ap (λ z. z.0.number) p.1 in (
      w.0,
      p.0,
      ap (λ z. z.0.stage) p.1,
      ap (λ z. z.1) p.1 ∙ (λ i. (2 + 2 * m.0.number, Some p.0) ∷ w.2 i) ∙ ap (λ (x : ℕ). (2 + 2 * x, Some p.0) ∷ []) (sym number),
      subst (λ (y : Part _). SoundAnswer (Ruled g.V.Room.rooms g.J.Job.means g.J.Job.is_ready c.args.chain.now.table.shared.key) y w.0 p.0) (ap (λ z. part z.0.number z.0.quota z.0.own) (sym p.1)) p.2,
    )

pub returns-clause-idle : goal.returns-clause-idle
returns-clause-idle g c = let e = c.collect.ensures.collected.2 in (ap (λ z. z.0.stage) e, ap (λ z. z.1) e)
