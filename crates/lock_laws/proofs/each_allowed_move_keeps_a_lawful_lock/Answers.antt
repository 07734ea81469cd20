use Rattle.lock_model.specs.Moves.{after_event-lawful}
use Rattle.lock_laws.proofs.each_allowed_move_keeps_a_lawful_lock.Goals as goal

pub returns : goal.returns
returns c = after_event-lawful
