use Rattle.std.proofs.Common.{◌≡◌, ℕ, ◌+◌, List, sym, ◌∙◌, subst, arith}
use Rattle.waiter_chain.specs.Calls.{MayEnd}
use Rattle.combine_job.specs.Parcels.{Related}
use Rattle.dist_mutex.specs.Unlocks.{Closes}
use Rattle.dist_mutex.proofs.Unlocking.{Going, goes_on, unlocked}
use Rattle.dist_mutex.proofs.mutex.DistMutex.release.Goals as goal

pub returns-in-Err-clause-released : goal.returns-in-Err-clause-released
returns-in-Err-clause-released g c =
    let i = c.loop-combined.invariant in let p = c.loop-combined.pass in let k = c.loop-combined.combined in let e = c.in-Err.ensures.round in let limit : ℕ = c.args.self.now.chain.combine in
    unlocked limit c.args.pass.now.runs.count c.args.pass.now.runs.log.items c.args.turn k p.runs.count p.runs.log.items c.loop-combined.turn c.in-Err.next c.args.pass.now.pass.seat.me p.pass.seat.me c.combine_next.new.pass.pass.seat.me e.1.0 i.5
    (omega (arith, i.2, c.combine-limit.ensures)) e.1.1 (e.1.2 limit k (omega (arith, c.loop-combined-test.true, c.combine-limit.ensures)))

pub loop-combined-preserved : goal.loop-combined-preserved
loop-combined-preserved g c =
    let i = c.loop-combined.invariant in let p = c.loop-combined.pass in let k = c.loop-combined.combined in let o = c.combine_next.ensures.own in let z = c.combine_next.ensures.runs in let r = c.in-Ok.ensures.round in
    let relates = Related g.V.Room.rooms g.J.Job.means in let m = c.args.pass.now.pass.seat.me in let n = c.combine_next.new.pass.pass.seat.me in let own = c.args.pass.now.runs in
    let more = goes_on relates c.args.self.now.chain.table.shared.table_id.slots own.count own.log.items c.args.turn k p.runs.count p.runs.log.items c.loop-combined.turn c.in-Ok.later m p.pass.seat.me n i.5 r in (
      o.0 ∙ i.0,
      o.1 ∙ i.1,
      omega (arith, c.loop-combined-test.true),
      r.0,
      subst (λ (y : ℕ × List _). MayEnd relates y.0 y.1 n) (λ j. (sym z.1 j, sym z.0 j)) r.1,
      subst (λ (y : ℕ × List _). Going own.count own.log.items c.args.turn (k + 1) y.0 y.1 c.in-Ok.later m n) (λ j. (sym z.1 j, sym z.0 j)) more,
    )

pub returns-clause-released : goal.returns-clause-released
returns-clause-released g c =
    let i = c.loop-combined.invariant in let p = c.loop-combined.pass in let k = c.loop-combined.combined in let s = c.stop-next.ensures.stopped in let limit : ℕ = c.args.self.now.chain.combine in
    let same : limit ≡ k = omega (arith, i.2, c.loop-combined-test.false, c.combine-limit.ensures) in
    unlocked limit c.args.pass.now.runs.count c.args.pass.now.runs.log.items c.args.turn k p.runs.count p.runs.log.items c.loop-combined.turn c.stop-next.result c.args.pass.now.pass.seat.me p.pass.seat.me c.stop-next.new.pass.pass.seat.me s.1.0 i.5
    (omega (arith, same)) s.1.1 (subst (λ (j : ℕ). Closes p.pass.seat.me.0.number limit j c.loop-combined.turn s.1.0 c.stop-next.result) same (s.1.2 limit))
