use Rattle.hall.specs.Passes.{view, shape_of, cargo_of}
use Rattle.query_cells.proofs.LeavingTwo.{both_idle, both_lead_back, both_left_so, guards_settled}
use Rattle.query_cells.proofs.two.leave_two.Goals as goal

pub unlock_many-requires-clause-settled : goal.unlock_many-requires-clause-settled
unlock_many-requires-clause-settled c = λ _. let h = c.requires.held in guards_settled (shape_of c.args.hall.now) h.0 h.1 h.2 c.args.guards (view c.args.pass.now) h.3

pub returns-clause-idle : goal.returns-clause-idle
returns-clause-idle c = let h = c.requires.held in both_idle (cargo_of c.args.hall.now) (shape_of c.args.hall.now) h.0 h.1 h.2 c.args.guards (view c.args.pass.now) (view c.unlock_many.new.pass) c.requires.pass.1 h.3 c.unlock_many.ensures.gave c.requires.rested

pub returns-clause-left : goal.returns-clause-left
returns-clause-left c = let h = c.requires.held in both_left_so (cargo_of c.args.hall.now) (shape_of c.args.hall.now) h.0 h.1 h.2 c.args.guards (view c.args.pass.now) (view c.unlock_many.new.pass) c.requires.pass.1 h.3 c.unlock_many.ensures.gave

pub returns-clause-back : goal.returns-clause-back
returns-clause-back c = let h = c.requires.held in both_lead_back (cargo_of c.args.hall.now) (shape_of c.args.hall.now) h.0 h.1 h.2 c.args.guards (view c.args.pass.now) (view c.unlock_many.new.pass) c.requires.pass.1 h.3 c.unlock_many.ensures.gave
