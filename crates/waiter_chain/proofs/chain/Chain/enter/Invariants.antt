use Rattle.waiter_chain.proofs.chain.Chain.enter.Given as goal

abbrev pub ghosts-enter_as : goal.ghosts-enter_as
ghosts-enter_as g a = record { known = g.P.Freight.rule a.self.now.table.shared.key }

abbrev pub ghosts-post_as : goal.ghosts-post_as
ghosts-post_as g a = record { known = g.P.Freight.rule a.self.now.table.shared.key }
