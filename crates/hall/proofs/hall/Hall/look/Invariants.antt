use Rattle.hall.proofs.hall.Hall.look.Given as goal

abbrev pub ghosts-look_for : goal.ghosts-look_for
ghosts-look_for g a = record { lock = a.lock }
