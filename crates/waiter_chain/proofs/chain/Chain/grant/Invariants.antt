use Rattle.waiter_chain.proofs.chain.Chain.grant.Given as goal

abbrev pub ghosts-grant_as : goal.ghosts-grant_as
ghosts-grant_as g a = record { ran = a.runs.now.log.items; count = a.runs.now.count }
