use Rattle.std.proofs.Common.{arith, false}
use Rattle.hall.specs.Passes.{view}
use Rattle.hall.specs.SlotLaws.{looked_past}
use Rattle.shared_mutex.proofs.reader_in_a_slot.passes.Goals as goal

pub returns-clause-announced : goal.returns-clause-announced
returns-clause-announced g c =
    let wide = c.requires.pass.0.2 in let some_lock = c.requires.pass.1 in
    looked_past (view c.args.pass.now) (view c.look-found.new.pass) 0 c.args.slot 1 false (omega arith) c.requires.announced c.look-found.result c.if-found-eq1.false c.look-found.ensures.step.0
