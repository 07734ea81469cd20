use Rattle.acquire_many.proofs.one.try_to_take.Goals as goal

pub returns-in-Ok-try_lock-clause-clear : goal.returns-in-Ok-try_lock-clause-clear
returns-in-Ok-try_lock-clause-clear g c = c.try_lock.ensures.clear c.requires.clear
