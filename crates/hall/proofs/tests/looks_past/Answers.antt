use Rattle.std.proofs.Common.{arith, false}
use Rattle.hall.specs.Passes.{view}
use Rattle.hall.specs.SlotLaws.{looked_past}
use Rattle.hall.proofs.tests.looks_past.Goals as goal

pub returns-clause-announced : goal.returns-clause-announced
returns-clause-announced g c =
    looked_past (view c.args.pass.now) (view c.look-found.new.pass) c.args.lock c.args.slot c.args.hand false (omega (arith, c.requires.pass.2, c.requires.lock)) c.requires.announced c.look-found.result c.if-found-lock.false c.look-found.ensures.step.0
