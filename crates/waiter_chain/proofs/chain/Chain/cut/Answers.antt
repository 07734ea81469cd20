use Rattle.std.proofs.Common.{◌+◌, arith, ◌∙◌, sym}
use Rattle.waiter_chain.proofs.Numbers.{covers-cut, splits}
use Rattle.waiter_chain.specs.Chains.{covers}
use Rattle.waiter_chain.proofs.chain.Chain.cut.Goals as goal

pub split_seat-seat-requires : goal.split_seat-seat-requires
split_seat-seat-requires g c = let p = c.args.pass.now in let a = c.requires.amount in let f = c.requires.fits in let o = c.args.self.now.table.shared.key in
    (c.requires.own, omega (arith, c.args.self.now.sized.0), splits (g.P.Freight.rule o) o.nodes (g.P.Freight.cuts o) _ p.seat.me.0 g.M.Amount.nodes g.M.Amount.quota p.same.3 (omega (arith, a.0, f.0)) (omega (arith, a.0, f.1, p.same.1)) (omega (arith, a.1, f.2, p.same.2)))

pub returns-clause-covers : goal.returns-clause-covers
returns-clause-covers g c n = let p = c.args.pass.now in let a = c.requires.amount in let f = c.requires.fits in let e = c.split_seat-seat.ensures in
    covers-cut n g.M.Amount.nodes g.M.Amount.quota p.seat.me.0 p.same.3 (omega (arith, a.0, f.0)) (omega (arith, a.0, f.1, p.same.1)) ∙ (λ i. covers n (sym e.2 i).0 + covers n (sym e.4 i).0)
