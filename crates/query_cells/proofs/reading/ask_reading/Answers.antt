use Rattle.std.proofs.Common.{◌∙◌, ap, subst, sym}
use Rattle.hall.specs.declared.view.Shape.{Shape}
use Rattle.hall.specs.Passes.{view, cargo_of}
use Rattle.hall.specs.Treading.{IsWeakAt, treads_none, treads_then}
use Rattle.query_rules.specs.declared.query.Reply.{Reply}
use Rattle.hall.specs.Views.{pending}
use Rattle.query_cells.specs.Answers.{cell_of}
use Rattle.query_cells.specs.Asked.{AsksClock, IsLateBy}
use Rattle.query_cells.proofs.Refusing.{is_forced, may_refuse}
use Rattle.query_cells.proofs.Replies.{nothing_gained, tells_after}
use Rattle.query_cells.proofs.Single.{read_of_one, refused_untried, tries_then_quiet}
use Rattle.query_cells.proofs.Trails.{reads_tread}
use Rattle.query_cells.proofs.Tries.{one_in_order, refused_tried}
use Rattle.query_cells.proofs.reading.ask_reading.Goals as goal

pub hold_to_read-requires-clause-clear : goal.hold_to_read-requires-clause-clear
hold_to_read-requires-clause-clear g c κs within = λ k. ap pending (c.requires.idle.0 k)

pub returns-in-Ok-clause-tells : goal.returns-in-Ok-clause-tells
returns-in-Ok-clause-tells g c =
    let v = view c.args.pass.now in let u = view c.hold_to_read.new.pass in let w = view c.answer_read.new.pass in let q = c.args.query.now in
    tells_after (cargo_of c.args.hall.now) v u w c.args.index q c.answer_read.result (nothing_gained (cell_of q) v u c.in-Ok.ensures.taken.1.gained) c.answer_read.ensures.tells

pub returns-in-Ok-clause-trail : goal.returns-in-Ok-clause-trail
returns-in-Ok-clause-trail g c =
    let v = view c.args.pass.now in let u = view c.hold_to_read.new.pass in let w = view c.answer_read.new.pass in let q = c.args.query.now in let cell = cell_of q in
    reads_tread q cell v w (read_of_one q c.requires.asks).takes (treads_then (IsWeakAt cell) v u w c.in-Ok.ensures.trail c.answer_read.ensures.trail)

pub returns-in-Ok-clause-order : goal.returns-in-Ok-clause-order
returns-in-Ok-clause-order g c = let q = c.args.query.now in one_in_order q (cell_of q) (view c.args.pass.now) (view c.answer_read.new.pass) (read_of_one q c.requires.asks).takes

pub returns-in-Ok-clause-tries : goal.returns-in-Ok-clause-tries
returns-in-Ok-clause-tries g c =
    let v = view c.args.pass.now in let u = view c.hold_to_read.new.pass in let w = view c.answer_read.new.pass in let reply = c.answer_read.result in
    tries_then_quiet c.args.query.now reply v u w (c.in-Ok.ensures.tries reply) c.answer_read.ensures.quiet

pub returns-in-Ok-clause-clock : goal.returns-in-Ok-clause-clock
returns-in-Ok-clause-clock g c = let told = c.answer_read.ensures in c.in-Ok.ensures.clock c.answer_read.result told.granted told.tells.of_maps

pub refuse-requires-clause-may : goal.refuse-requires-clause-may
refuse-requires-clause-may g c =
    let v = view c.args.pass.now in let u = view c.hold_to_read.new.pass in let e = c.in-Err.ensures in let q = c.args.query.now in
    may_refuse v u q (cell_of q) _ c.in-Err.reply (read_of_one q c.requires.asks).names (e.pass.1 ∙ sym c.requires.pass.0.1) (ap (λ (s : Shape). s.locks) e.pass.1) c.requires.cell.1 e.taken e.refused.1

pub returns-in-Err-clause-forced : goal.returns-in-Err-clause-forced
returns-in-Err-clause-forced g c =
    let v = view c.args.pass.now in let u = view c.hold_to_read.new.pass in let e = c.in-Err.ensures in
    is_forced v u (view c.refuse.new.pass) c.args.query.now c.in-Err.reply c.refuse.result c.refuse.ensures.reply e.refused.1 c.refuse.ensures.load

pub returns-in-Err-clause-tells : goal.returns-in-Err-clause-tells
returns-in-Err-clause-tells g c =
    let v = view c.args.pass.now in let u = view c.hold_to_read.new.pass in
    tells_after (cargo_of c.args.hall.now) v u (view c.refuse.new.pass) c.args.index c.args.query.now c.refuse.result c.in-Err.ensures.taken.nothing c.refuse.ensures.tells

pub returns-in-Err-clause-trail : goal.returns-in-Err-clause-trail
returns-in-Err-clause-trail g c =
    let v = view c.args.pass.now in let u = view c.hold_to_read.new.pass in let w = view c.refuse.new.pass in let q = c.args.query.now in let may = IsWeakAt (cell_of q) in
    reads_tread q (cell_of q) v w (read_of_one q c.requires.asks).takes (treads_then may v u w c.in-Err.ensures.trail (treads_none may u w c.refuse.ensures.tells.number c.refuse.ensures.trail))

pub returns-in-Err-clause-order : goal.returns-in-Err-clause-order
returns-in-Err-clause-order g c = let q = c.args.query.now in one_in_order q (cell_of q) (view c.args.pass.now) (view c.refuse.new.pass) (read_of_one q c.requires.asks).takes

pub returns-in-Err-clause-refused : goal.returns-in-Err-clause-refused
returns-in-Err-clause-refused g c =
    let q = c.args.query.now in let o = read_of_one q c.requires.asks in
    refused_tried (view c.args.pass.now) (view c.hold_to_read.new.pass) (view c.refuse.new.pass) q (cell_of q) c.refuse.result o.names o.takes c.in-Err.ensures.taken c.refuse.ensures.load

pub returns-in-Err-clause-tries : goal.returns-in-Err-clause-tries
returns-in-Err-clause-tries g c = refused_untried c.args.query.now c.in-Err.reply c.refuse.result (view c.args.pass.now) (view c.refuse.new.pass) c.refuse.ensures.reply c.in-Err.ensures.refused.0

pub returns-in-Err-clause-late : goal.returns-in-Err-clause-late
returns-in-Err-clause-late g c = subst (λ (r : Reply). IsLateBy c.args.query.now (g.T.Clock.last c.hold_to_read.new.clock) r) (sym c.refuse.ensures.reply) c.in-Err.ensures.late

pub returns-in-Err-clause-clock : goal.returns-in-Err-clause-clock
returns-in-Err-clause-clock g c = subst (λ (r : Reply). AsksClock g.T.Clock.last g.T.Clock.answers c.args.clock.now c.hold_to_read.new.clock c.args.query.now r) (sym c.refuse.ensures.reply) c.in-Err.ensures.clock
