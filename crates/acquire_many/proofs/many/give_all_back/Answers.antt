use Rattle.std.proofs.Common.{◌≡◌, ◌<◌, Option, None, slice_index_or, length, arith, rules}
use Rattle.std.proofs.lemmas.List.{get_or_default}
use Rattle.hall.specs.Passes.{view, shape_of}
use Rattle.acquire_many.specs.Wants.{Hold}
use Rattle.acquire_many.proofs.Taking.{gave_at, gave_none, still_held}
use Rattle.acquire_many.proofs.many.give_all_back.Goals as goal

pub loop-position-init : goal.loop-position-init
loop-position-init g c = record { pass = c.requires.pass; clear = λ clear. clear; gave = gave_none g.C.CargoRule c.args.holds.now (view c.args.pass.now); steps = omega arith }

-- what stands at the position is read with no default past the end
pub give_at-requires-clause-held : goal.give_at-requires-clause-held
give_at-requires-clause-held g c = λ _ _.
    let holds = c.args.holds.now in let n = c.loop-position.position in let near : n < length holds = search rules in let o : Option Hold = slice_index_or holds n c.index-holds-position.result in
    still_held g.C.CargoRule holds (view c.args.pass.now) n (shape_of c.args.hall.now) (view c.loop-position.pass) c.requires.fits c.requires.settled c.loop-position.invariant.gave o (get_or_default holds n None c.index-holds-position.result near)

pub loop-position-preserved : goal.loop-position-preserved
loop-position-preserved g c =
    let u = view c.loop-position.pass in
    let holds = c.args.holds.now in let n = c.loop-position.position in let near : n < length holds = search rules in let o : Option Hold = slice_index_or holds n c.index-holds-position.result in
    let here : slice_index_or holds n None ≡ o = get_or_default holds n None c.index-holds-position.result near in
    let held = still_held g.C.CargoRule holds (view c.args.pass.now) n (shape_of c.args.hall.now) u c.requires.fits c.requires.settled c.loop-position.invariant.gave o here in record {
      pass = c.give_at.ensures.pass;
      clear = λ clear. c.give_at.ensures.clear (c.loop-position.invariant.clear clear);
      gave = gave_at g.C.CargoRule holds (view c.args.pass.now) n (shape_of c.args.hall.now) u (view c.give_at.new.pass) c.loop-position.invariant.pass.2 c.requires.fits c.loop-position.invariant.gave o here held c.give_at.ensures.step;
      steps = omega (arith, c.give_at.ensures.steps, c.loop-position.invariant.steps);
    }
