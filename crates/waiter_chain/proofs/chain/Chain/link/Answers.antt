use Rattle.std.proofs.Common.{ℕ, ◌+◌, ◌*◌, arith, ap, sym}
use Rattle.waiter_chain.proofs.Links.{links}
use Rattle.waiter_chain.proofs.chain.Chain.link.Goals as goal

pub store-requires : goal.store-requires
store-requires g c = let p = c.args.pass.now in let o = c.args.self.now.table.shared.key in let b = c.requires.behind in
    (c.requires.own, omega (arith, c.args.self.now.sized.0, c.args.self.now.sized.1, p.low, ap (λ z. z.slots) c.requires.own), links (g.P.Freight.rule o) o.nodes _ _ p.seat.me _ _ b.0 b.1 (ap (λ (n : ℕ). 2 + 2 * n) (sym p.same.0)))
