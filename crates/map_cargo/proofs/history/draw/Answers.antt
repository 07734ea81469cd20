use Rattle.hall.specs.Passes.{view, cargo_of}
use Rattle.map_cargo.specs.StepLaws.{drawn_steps}
use Rattle.map_cargo.proofs.history.draw.Goals as goal

pub returns-clause-steps : goal.returns-clause-steps
returns-clause-steps c =
    let drawn = c.draw_number-number.ensures in let stays = drawn.pass.1 in
    drawn_steps (view c.args.pass.now) (view c.draw_number-number.new.pass) (view c.log_row.new.pass) (cargo_of c.args.hall.now) c.draw_number-number.result c.args.entry.now stays.number stays.shape drawn.step c.log_row.ensures.steps

pub returns-clause-moment : goal.returns-clause-moment
returns-clause-moment c = (view c.draw_number-number.new.pass, c.draw_number-number.ensures.moment)
