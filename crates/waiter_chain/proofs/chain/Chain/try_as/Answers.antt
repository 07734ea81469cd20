use Rattle.std.proofs.Common.{arith}
use Rattle.waiter_chain.proofs.Tries.{tries}
use Rattle.waiter_chain.proofs.chain.Chain.try_as.Goals as goal

pub compare_exchange-word-requires : goal.compare_exchange-word-requires
compare_exchange-word-requires g c = let o = c.args.self.now.table.shared.key in
    (c.requires.own, omega (arith, c.args.self.now.sized.0), tries (g.P.Freight.rule o) o.nodes g.M.Known.known c.requires.known _ _ _ c.requires.idle c.args.pass.now.same.3)
