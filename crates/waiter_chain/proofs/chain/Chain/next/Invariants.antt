use Rattle.waiter_chain.proofs.chain.Chain.next.Given as goal

abbrev pub ghosts-free_as : goal.ghosts-free_as
ghosts-free_as g a = record { ran = a.runs.now.log.items; count = a.runs.now.count }
