use Rattle.std.proofs.Common.{arith, ap}
use Rattle.waiter_chain.proofs.Helps.{holds-slot}
use Rattle.waiter_chain.proofs.chain.Chain.hold.Goals as goal

pub load-requires : goal.load-requires
load-requires g c = let p = c.args.pass.now in let o = c.args.self.now.table.shared.key in
    (c.requires.own, omega (arith, c.args.self.now.sized.0, c.args.self.now.sized.1, p.low, ap (λ z. z.slots) c.requires.own), holds-slot (g.P.Freight.rule o) o.nodes _ _ p.seat.me _ c.requires.idle.0 p.same.3)
