use Rattle.std.proofs.Common.{arith, ap, ◌∙◌}
use Rattle.waiter_chain.proofs.Numbers.{covers-joined, joins}
use Rattle.waiter_chain.proofs.Frees.{counts}
use Rattle.waiter_chain.specs.Chains.{covers}
use Rattle.waiter_chain.proofs.chain.Chain.merge.Goals as goal

pub join_seat-requires : goal.join_seat-requires
join_seat-requires g c = let p = c.args.pass.now in let o = c.args.self.now.table.shared.key in
    (c.requires.own.0, c.requires.own.1, c.requires.idle.1.1, omega (arith, c.args.self.now.sized.0), joins (g.P.Freight.rule o) o.nodes (g.P.Freight.merges o) _ p.seat.me.0 _ c.args.other.me.0 p.same.3 c.requires.live.0 c.requires.idle.0.0 c.requires.idle.1.0)

pub load-requires : goal.load-requires
load-requires g c = let p = c.args.pass.now in let o = c.args.self.now.table.shared.key in let e = c.join_seat.ensures in
    (e.0 ∙ c.requires.own.0, omega (arith, c.args.self.now.sized.0), counts (g.P.Freight.rule o) o.nodes _ _ c.join_seat.new.seat.me _ (ap (λ z. z.0.gone) e.2 ∙ p.same.3))

pub returns-clause-covers : goal.returns-clause-covers
returns-clause-covers g c n = let p = c.args.pass.now in
    (λ i. covers n (c.load.ensures.2.0 i).0) ∙ (λ i. covers n (c.join_seat.ensures.2 i).0) ∙ covers-joined n p.seat.me.0 c.args.other.me.0 p.same.3 c.requires.live.0
