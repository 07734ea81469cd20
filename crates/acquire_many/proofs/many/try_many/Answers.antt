use Rattle.std.proofs.Common.{length, ◌+◌, ◌*◌, List, Option, arith, rules, subst, sym, ◌∙◌, length-set}
use Rattle.hall.specs.Passes.{view, shape_of}
use Rattle.acquire_many.specs.Guards.{Fit}
use Rattle.acquire_many.specs.Met.{Takes}
use Rattle.acquire_many.specs.MetLaws.{takes_learns, takes_treads}
use Rattle.acquire_many.specs.Took.{TookAll}
use Rattle.acquire_many.specs.Wants.{Hold, lock_at}
use Rattle.acquire_many.proofs.Taking.{fit_all, took_all, took_by, took_none}
use Rattle.acquire_many.proofs.GivingUp.{fit_below, gave_up, settled_below}
use Rattle.acquire_many.proofs.Counting.{below, below_few, below_next, steps_all, steps_next}
use Rattle.acquire_many.proofs.many.try_many.Goals as goal

pub loop-position-init : goal.loop-position-init
loop-position-init g c = record { pass = c.requires.pass; clear = c.requires.clear; room = c.no_holds-holds.ensures.room; took = took_none g.C.CargoRule (Takes g.C.CargoRule) c.args.wants.now (shape_of c.args.hall.now) (view c.args.pass.now) c.no_holds-holds.result c.no_holds-holds.ensures.none; steps = omega arith }

pub loop-position-preserved : goal.loop-position-preserved
loop-position-preserved g c =
    let so_far = c.loop-position.invariant in let least = c.in-Some-next_want.ensures in let k = c.in-Some-next_want.position in record {
      pass = search rules;
      clear = search rules;
      room = length-set _ _ _ ∙ so_far.room;
      took = took_by g.C.CargoRule (Takes g.C.CargoRule) c.args.wants.now (shape_of c.args.hall.now) (view c.args.pass.now) c.loop-position.from k c.loop-position.holds (view c.loop-position.pass) (view c.try_to_take.new.pass) c.in_default.ensures least so_far.took c.in-Ok.how c.in-Ok.ensures.mode
          (takes_treads g.C.CargoRule) (takes_learns g.C.CargoRule) (omega (arith, so_far.room, c.requires.few, least.0)) (c.requires.away k least.0) c.in-Ok.ensures.step c.in-Ok.ensures.fits c.in-Ok.ensures.elsewhere;
      steps = steps_next (2 * (shape_of c.args.hall.now).slots + 6) (below c.args.wants.now c.loop-position.from) _ (length (view c.args.pass.now).steps) (length (view c.loop-position.pass).steps) (length (view c.try_to_take.new.pass).steps)
          (below_next c.args.wants.now c.loop-position.from _ k least.0 least.1 (omega arith)) so_far.steps c.in-Ok.ensures.steps;
    }

pub returns-clause-took : goal.returns-clause-took
returns-clause-took g c = subst (λ (l : List (Option Hold)). TookAll g.C.CargoRule (Takes g.C.CargoRule) c.args.wants.now (view c.args.pass.now) l (view c.loop-position.pass)) (sym c.guards_of.ensures)
    (took_all g.C.CargoRule (Takes g.C.CargoRule) c.args.wants.now (shape_of c.args.hall.now) (view c.args.pass.now) c.loop-position.from c.loop-position.holds (view c.loop-position.pass) c.in_default-next_want.ensures c.loop-position.invariant.took)

pub returns-clause-fits : goal.returns-clause-fits
returns-clause-fits g c =
    subst (λ (l : List (Option Hold)). Fit (shape_of c.args.hall.now) (view c.loop-position.pass) l) (sym c.guards_of.ensures)
    (fit_all g.C.CargoRule (Takes g.C.CargoRule) c.args.wants.now (shape_of c.args.hall.now) (view c.args.pass.now) c.loop-position.from c.loop-position.holds (view c.loop-position.pass) c.loop-position.invariant.took c.in_default.ensures)

pub give_all_back-requires-clause-fits : goal.give_all_back-requires-clause-fits
give_all_back-requires-clause-fits g c = λ _ _. let e = c.in-Err.ensures in
    fit_below g.C.CargoRule c.args.wants.now (shape_of c.args.hall.now) (view c.args.pass.now) (view c.loop-position.pass) (view c.try_to_take.new.pass) c.loop-position.from c.in-Some-next_want.position c.loop-position.holds c.in-Err.fault
    c.in-Some-next_want.ensures c.loop-position.invariant.took e.step e.elsewhere c.in_default.ensures

pub give_all_back-requires-clause-settled : goal.give_all_back-requires-clause-settled
give_all_back-requires-clause-settled g c = λ _ _. let e = c.in-Err.ensures in
    settled_below g.C.CargoRule c.args.wants.now (shape_of c.args.hall.now) (view c.args.pass.now) (view c.loop-position.pass) (view c.try_to_take.new.pass) c.loop-position.from c.in-Some-next_want.position c.loop-position.holds c.in-Err.fault
    c.in-Some-next_want.ensures c.loop-position.invariant.took e.step e.elsewhere

pub returns-in-Err-clause-took : goal.returns-in-Err-clause-took
returns-in-Err-clause-took g c = let e = c.in-Err.ensures in
    gave_up g.C.CargoRule c.args.wants.now (shape_of c.args.hall.now) (view c.args.pass.now) (view c.loop-position.pass) (view c.try_to_take.new.pass) c.loop-position.from c.in-Some-next_want.position c.loop-position.holds c.in-Err.fault
    c.in-Some-next_want.ensures c.loop-position.invariant.took e.step e.elsewhere (view c.give_all_back.new.pass) c.give_all_back.ensures.gave c.requires.away e.fits c.requires.few

pub returns-clause-steps : goal.returns-clause-steps
returns-clause-steps g c =
    let each = 2 * (shape_of c.args.hall.now).slots + 6 in let v = view c.args.pass.now in let w = view c.loop-position.pass in
    let all = steps_all each (below c.args.wants.now c.loop-position.from) (length c.args.wants.now) (length v.steps) (length w.steps) (below_few c.args.wants.now c.loop-position.from) c.loop-position.invariant.steps in omega (arith, all)

pub returns-in-Err-clause-steps : goal.returns-in-Err-clause-steps
returns-in-Err-clause-steps g c =
    let each = 2 * (shape_of c.args.hall.now).slots + 6 in let v = view c.args.pass.now in let u = view c.loop-position.pass in let z = view c.try_to_take.new.pass in let k = c.in-Some-next_want.position in let least = c.in-Some-next_want.ensures in
    let wants = c.args.wants.now in let to = lock_at wants k + 1 in
    let more = below_next wants c.loop-position.from to k least.0 least.1 (omega arith) in
    let tried = steps_next each (below wants c.loop-position.from) (length wants) (length v.steps) (length u.steps) (length z.steps) (omega (arith, more, below_few wants to)) c.loop-position.invariant.steps c.in-Err.ensures.steps in
    omega (arith, tried, c.give_all_back.ensures.steps)

pub returns-in-Err-clause-clear : goal.returns-in-Err-clause-clear
returns-in-Err-clause-clear g c = c.give_all_back.ensures.clear c.try_to_take.ensures.clear
