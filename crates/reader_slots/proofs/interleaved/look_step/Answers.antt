use Rattle.std.proofs.Common.{arith, false, sym, ◌∙◌}
use Rattle.hall.specs.Passes.{view}
use Rattle.hall.specs.SlotLaws.{looked_on, looked_past}
use Rattle.reader_slots.proofs.interleaved.look_step.Goals as goal

pub returns-then-found-eq1-clause-stands : goal.returns-then-found-eq1-clause-stands
returns-then-found-eq1-clause-stands g c =
    let wide = c.requires.pass.0.2 in let one = c.requires.lock in
    looked_on (view c.args.pass.now) (view c.look-found.new.pass) 0 c.args.slot c.args.hand false (omega arith) c.requires.pass.1 c.look-found.result c.if-found-eq1.true c.look-found.ensures.step.0 ∙ sym c.announcing-stays.ensures

pub returns-else-found-eq1-clause-stands : goal.returns-else-found-eq1-clause-stands
returns-else-found-eq1-clause-stands g c =
    let wide = c.requires.pass.0.2 in let one = c.requires.lock in
    looked_past (view c.args.pass.now) (view c.look-found.new.pass) 0 c.args.slot c.args.hand false (omega arith) c.requires.pass.1 c.look-found.result c.if-found-eq1.false c.look-found.ensures.step.0 ∙ sym c.announcing-goes_on.ensures
