use Rattle.sync_cell.proofs.tests.a_paused_writer_under_write_priority.Goals as goal

pub rlock_until-requires-clause-clear : goal.rlock_until-requires-clause-clear
rlock_until-requires-clause-clear g c κs = c.no_writer.ensures.clear c.no_reader.ensures.clear
