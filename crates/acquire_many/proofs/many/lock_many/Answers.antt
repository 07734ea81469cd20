use Rattle.std.proofs.Common.{List, Option, arith, rules, subst, sym, ◌∙◌, length-set}
use Rattle.hall.specs.Passes.{view, shape_of}
use Rattle.acquire_many.specs.Guards.{Fit}
use Rattle.acquire_many.specs.Met.{MeetsPatiently}
use Rattle.acquire_many.specs.MetLaws.{meets_learns, meets_treads}
use Rattle.acquire_many.specs.Took.{TookAll}
use Rattle.acquire_many.specs.Wants.{Hold}
use Rattle.acquire_many.proofs.Taking.{fit_all, took_all, took_by, took_none}
use Rattle.acquire_many.proofs.many.lock_many.Goals as goal

pub loop-position-init : goal.loop-position-init
loop-position-init g c = record { pass = c.requires.pass; clear = c.requires.clear; room = c.no_holds-holds.ensures.room; took = took_none g.C.CargoRule (MeetsPatiently g.C.CargoRule) c.args.wants.now (shape_of c.args.hall.now) (view c.args.pass.now) c.no_holds-holds.result c.no_holds-holds.ensures.none }

pub loop-position-preserved : goal.loop-position-preserved
loop-position-preserved g c =
    let so_far = c.loop-position.invariant in let least = c.in-Some-next_want.ensures in let k = c.in-Some-next_want.position in record {
      pass = search rules;
      clear = search rules;
      room = length-set _ _ _ ∙ so_far.room;
      took = took_by g.C.CargoRule (MeetsPatiently g.C.CargoRule) c.args.wants.now (shape_of c.args.hall.now) (view c.args.pass.now) c.loop-position.from k c.loop-position.holds (view c.loop-position.pass) (view c.take-how.new.pass) c.in_default.ensures least so_far.took c.take-how.result c.take-how.ensures.mode
          (λ x y hold away met. meets_treads g.C.CargoRule x y hold away met.1) (λ x y hold away met. meets_learns g.C.CargoRule x y hold away met.1) (omega (arith, so_far.room, c.requires.few, least.0)) (c.requires.away k least.0) c.take-how.ensures.step c.take-how.ensures.fits c.take-how.ensures.elsewhere;
    }

pub returns-clause-took : goal.returns-clause-took
returns-clause-took g c = subst (λ (l : List (Option Hold)). TookAll g.C.CargoRule (MeetsPatiently g.C.CargoRule) c.args.wants.now (view c.args.pass.now) l (view c.loop-position.pass)) (sym c.guards_of.ensures)
    (took_all g.C.CargoRule (MeetsPatiently g.C.CargoRule) c.args.wants.now (shape_of c.args.hall.now) (view c.args.pass.now) c.loop-position.from c.loop-position.holds (view c.loop-position.pass) c.in_default-next_want.ensures c.loop-position.invariant.took)

pub returns-clause-fits : goal.returns-clause-fits
returns-clause-fits g c =
    subst (λ (l : List (Option Hold)). Fit (shape_of c.args.hall.now) (view c.loop-position.pass) l) (sym c.guards_of.ensures)
    (fit_all g.C.CargoRule (MeetsPatiently g.C.CargoRule) c.args.wants.now (shape_of c.args.hall.now) (view c.args.pass.now) c.loop-position.from c.loop-position.holds (view c.loop-position.pass) c.loop-position.invariant.took c.in_default.ensures)
