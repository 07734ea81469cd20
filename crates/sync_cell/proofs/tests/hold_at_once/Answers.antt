use Rattle.std.proofs.Common.{◌∙◌}
use Rattle.hall.specs.Passes.{view}
use Rattle.sync_cell.specs.WithinLaws.{gained_to_write}
use Rattle.sync_cell.proofs.tests.hold_at_once.Goals as goal

pub returns-clause-others : goal.returns-clause-others
returns-clause-others g c = λ k ne. c.wlock_until.ensures.elsewhere k ne ∙ c.requires.idle.0 k

pub returns-clause-gained : goal.returns-clause-gained
returns-clause-gained g c = let s = c.in-Ok.ensures.step in gained_to_write (view c.args.pass.now) 0 s.0 s.1 (view c.wlock_until.new.pass) s.2
