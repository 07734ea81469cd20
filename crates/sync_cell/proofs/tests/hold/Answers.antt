use Rattle.std.proofs.Common.{◌∙◌}
use Rattle.hall.specs.Passes.{view}
use Rattle.sync_cell.specs.WithinLaws.{gained_to_write}
use Rattle.sync_cell.proofs.tests.hold.Goals as goal

pub returns-clause-gained : goal.returns-clause-gained
returns-clause-gained g c = let s = c.wlock.ensures.step in gained_to_write (view c.args.pass.now) 0 s.0 s.1 (view c.wlock.new.pass) s.2

pub returns-clause-others : goal.returns-clause-others
returns-clause-others g c = λ k ne. c.wlock.ensures.elsewhere k ne ∙ c.requires.idle.0 k
