use Rattle.hall.specs.Passes.{view}
use Rattle.reader_slots.proofs.withdraw.Goals as goal

pub returns-clause-step : goal.returns-clause-step
returns-clause-step g c = let gone = c.withdraw_slot.ensures.gone c.if-withdraw_slot.false in (view c.withdraw_slot.new.pass, gone.0, gone.1, gone.2, (c.lower.result, c.lower.ensures.step))
