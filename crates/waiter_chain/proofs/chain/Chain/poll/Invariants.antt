use Rattle.waiter_chain.proofs.chain.Chain.poll.Given as goal

abbrev pub ghosts-poll_as : goal.ghosts-poll_as
ghosts-poll_as g a = record { known = g.P.Freight.rule a.self.now.table.shared.key }
