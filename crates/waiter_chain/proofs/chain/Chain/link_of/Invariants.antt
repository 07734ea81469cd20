use Rattle.waiter_chain.proofs.chain.Chain.link_of.Given as goal

abbrev pub ghosts-link_as : goal.ghosts-link_as
ghosts-link_as g a = record { known = g.P.Freight.rule a.self.now.table.shared.key }
