use Rattle.std.proofs.Common.{arith, ap, ◌∙◌}
use Rattle.waiter_chain.proofs.Entering.{clears-now, readies-now}
use Rattle.waiter_chain.proofs.Passes.{readied_told}
use Rattle.waiter_chain.proofs.chain.Chain.ready.Goals as goal

pub store-requires : goal.store-requires
store-requires g c = let p = c.args.pass.now in let o = c.args.self.now.table.shared.key in
    (c.requires.own, omega (arith, c.args.self.now.sized.0, c.args.self.now.sized.1, p.low, ap (λ z. z.slots) c.requires.own), clears-now (g.P.Freight.rule o) o.nodes c.args.with_job _ _ p.seat.me _ c.requires.start p.same.3 (omega (arith, p.same.0)))

pub store-requires-2 : goal.store-requires-2
store-requires-2 g c = let p = c.args.pass.now in let o = c.args.self.now.table.shared.key in let e = c.store.ensures.2 c.args.with_job c.requires.start in
    (c.store.ensures.0 ∙ c.requires.own, omega (arith, c.args.self.now.sized.0, c.args.self.now.sized.1, p.low, ap (λ z. z.slots) c.requires.own), readies-now (g.P.Freight.rule o) o.nodes c.args.with_job _ _ c.store.new.seat.me _ _ (ap (λ z. z.0.stage) e) (omega (arith, p.same.0, ap (λ z. z.0.number) e)) c.entering-kind.ensures)

pub returns-clause-readied : goal.returns-clause-readied
returns-clause-readied g c = let p = c.args.pass.now in let e = c.store.ensures.2 c.args.with_job c.requires.start in
    readied_told c.args.with_job _ _ _ p.seat.me c.store.new.seat.me _ (omega (arith, p.same.0)) (omega (arith, p.same.0)) c.entering-kind.ensures e (c.store-2.ensures.2 c.args.with_job (ap (λ z. z.0.stage) e))
