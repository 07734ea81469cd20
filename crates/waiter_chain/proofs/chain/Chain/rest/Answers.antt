use Rattle.std.proofs.Common.{ℕ, ◌+◌, ◌*◌, arith, ap, sym}
use Rattle.waiter_chain.proofs.Helps.{rests-now}
use Rattle.waiter_chain.proofs.chain.Chain.rest.Goals as goal

pub store-requires : goal.store-requires
store-requires g c = let p = c.args.pass.now in let o = c.args.self.now.table.shared.key in let d = c.requires.done in
    (c.requires.own, omega (arith, c.args.self.now.sized.0, c.args.self.now.sized.1, p.low, ap (λ z. z.slots) c.requires.own), rests-now (g.P.Freight.rule o) o.nodes (g.P.Freight.collects o) _ _ p.seat.me d.0 d.1 _ _ d.2 d.3 (ap (λ (n : ℕ). 1 + 2 * n) (sym p.same.0)))
