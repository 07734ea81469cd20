use Rattle.waiter_chain.proofs.chain.Chain.step_over.Given as goal

abbrev pub ghosts-serve_as : goal.ghosts-serve_as
ghosts-serve_as g a = record { ran = a.runs.now.log.items; count = a.runs.now.count }
