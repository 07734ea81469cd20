use Rattle.std.proofs.Common.{arith, false, ap, ◌∙◌}
use Rattle.hall.specs.Passes.{view}
use Rattle.hall.specs.SlotLaws.{looked_on, picked_one}
use Rattle.shared_mutex.proofs.reader_in_a_slot.picks.Goals as goal

pub returns-clause-announced : goal.returns-clause-announced
returns-clause-announced g c =
    let wide = c.requires.pass.0.2 in let some_lock = c.requires.pass.1 in
    let stays = looked_on (view c.args.pass.now) (view c.look-found.new.pass) 0 c.args.slot 0 false (omega arith) c.requires.announced c.look-found.result c.if-found-ne1.false c.look-found.ensures.step.0 in
    picked_one (view c.look-found.new.pass) (view c.pick.new.pass) 0 c.args.slot 0 false (omega arith) stays (c.pick.ensures.picked c.if-not-pick.false).0
