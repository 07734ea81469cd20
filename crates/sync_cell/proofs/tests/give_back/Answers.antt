use Rattle.std.proofs.Common.{◌∙◌, ap}
use Rattle.hall.specs.Passes.{view}
use Rattle.map_cargo.specs.Gaining.{everywhere}
use Rattle.sync_cell.proofs.tests.give_back.Goals as goal

pub returns-clause-idle : goal.returns-clause-idle
returns-clause-idle c = let left = c.unlock_write.ensures in
    (everywhere (view c.unlock_write.new.pass) c.args.ptr.guard.lock left.away (λ k ne. left.elsewhere k ne ∙ c.requires.others k ne), ap (λ v. v.part.stored) left.step.1 ∙ c.requires.rested)
