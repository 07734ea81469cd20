use Rattle.hall.specs.Passes.{view}
use Rattle.reader_slots.proofs.leave_deferred.Goals as goal

pub returns-clause-step : goal.returns-clause-step
returns-clause-step g c = let gone = c.leave_slot.ensures.gone c.if-leave_slot.false in (view c.leave_slot.new.pass, gone.0, gone.1, gone.2, (c.lower.result, c.lower.ensures.step))
