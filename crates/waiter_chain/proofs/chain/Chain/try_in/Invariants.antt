use Rattle.waiter_chain.proofs.chain.Chain.try_in.Given as goal

abbrev pub ghosts-try_as : goal.ghosts-try_as
ghosts-try_as g a = record { known = g.P.Freight.rule a.self.now.table.shared.key }
