use Rattle.std.proofs.Common.{◌<◌, subst}
use Rattle.hall.specs.Passes.{view}
use Rattle.hall.specs.declared.view.Shape.{Shape}
use Rattle.map_cargo.proofs.Telling.{is_refusal, load_alike, refuses, two_seats}
use Rattle.map_cargo.proofs.refusing.refuse_by.Goals as goal

pub load_noted-requires-clause-note : goal.load_noted-requires-clause-note
load_noted-requires-clause-note g c κs within = let v = view c.args.pass.now in let may = c.requires.may in
    refuses _ _ v.number c.args.index c.args.query.now c.args.reply.now _ _ c.requires.told (is_refusal v.shape v.number v.steps c.args.query.now c.args.reply.now may.licence)

pub returns-clause-others : goal.returns-clause-others
returns-clause-others g c = let v = view c.args.pass.now in let may = c.requires.may in
    subst (λ (s : Shape). 1 < s.seats) c.requires.pass.1 (two_seats _ v (view c.load_noted.new.pass) c.args.cell _ _ c.load_noted.ensures.step.5 c.args.query.now c.args.reply.now may.near may.licence)

pub returns-clause-pass : goal.returns-clause-pass
returns-clause-pass g c =
    let step = c.load_noted.ensures.step in
    (c.load_noted.ensures.pass.0, load_alike (view c.args.pass.now) (view c.load_noted.new.pass) c.args.cell _ step.1 (c.requires.may.away c.args.cell c.requires.cell) step.3)
