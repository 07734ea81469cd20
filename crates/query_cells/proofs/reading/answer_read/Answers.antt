use Rattle.std.proofs.Common.{◌∙◌, ap, sym}
use Rattle.hall.specs.Cargo.{shared_mode}
use Rattle.hall.specs.Passes.{view, cargo_of}
use Rattle.hall.specs.Treading.{IsWeakAt, treads_then}
use Rattle.hall.specs.Views.{standing, mode_of}
use Rattle.map_cargo.specs.declared.entry.Part.{Part}
use Rattle.map_cargo.specs.Sharing.{shared_by}
use Rattle.query_cells.specs.Answers.{cell_of}
use Rattle.query_cells.proofs.Cells.{nothing_read}
use Rattle.query_cells.proofs.Quiet.{quiet_then}
use Rattle.query_cells.proofs.Replies.{tells_after, tells_then}
use Rattle.query_cells.proofs.Single.{holds_in, idle_here, is_some, may_read, mode_here, only_then, read_mode, read_of_one, stands_then}
use Rattle.query_cells.proofs.Trails.{alike_treads, weak_here}
use Rattle.query_cells.proofs.reading.answer_read.Goals as goal

pub look-said-requires-clause-held : goal.look-said-requires-clause-held
look-said-requires-clause-held c =
    let v = view c.args.pass.now in let q = c.args.query.now in
    is_some (mode_of (standing v (cell_of q))) (mode_here v c.args.ptr.guard.lock (cell_of q) shared_mode c.requires.at (ap mode_of c.requires.fits.1 ∙ shared_by c.args.ptr.guard.form))

pub tell_read-reply-requires-clause-may : goal.tell_read-reply-requires-clause-may
tell_read-reply-requires-clause-may c =
    let v = view c.args.pass.now in let u = view c.look-said.new.pass in let q = c.args.query.now in let e = c.look-said.ensures in
    may_read (cargo_of c.args.hall.now) v u c.args.index q c.look-said.result (read_of_one q c.requires.asks) c.requires.cell.0 e.pass.1 e.part
    (is_some (mode_of (standing v (cell_of q))) (mode_here v c.args.ptr.guard.lock (cell_of q) shared_mode c.requires.at (ap mode_of c.requires.fits.1 ∙ shared_by c.args.ptr.guard.form))) e.says e.reads

pub tell_read-reply-requires-clause-holds : goal.tell_read-reply-requires-clause-holds
tell_read-reply-requires-clause-holds c =
    let v = view c.args.pass.now in let u = view c.look-said.new.pass in let q = c.args.query.now in let lock = c.args.ptr.guard.lock in
    holds_in u q c.look-said.result (read_of_one q c.requires.asks)
    (mode_here u lock (cell_of q) shared_mode c.requires.at (ap mode_of (stands_then v u lock _ c.look-said.ensures.pass.1.standings c.requires.fits.1) ∙ shared_by c.args.ptr.guard.form) ∙ sym (read_mode q c.look-said.result c.requires.asks))

pub tell_read-reply-requires-clause-rested : goal.tell_read-reply-requires-clause-rested
tell_read-reply-requires-clause-rested c = ap (λ (p : Part). p.stored) c.look-said.ensures.part ∙ c.requires.rested

pub leave_reading-requires-clause-fits : goal.leave_reading-requires-clause-fits
leave_reading-requires-clause-fits c =
    let v = view c.args.pass.now in let u = view c.look-said.new.pass in let x = view c.tell_read-reply.new.pass in let lock = c.args.ptr.guard.lock in let fits = c.requires.fits in
    (fits.0, stands_then u x lock _ c.tell_read-reply.ensures.pass.1.standings (stands_then v u lock _ c.look-said.ensures.pass.1.standings fits.1), fits.2)

pub returns-clause-idle : goal.returns-clause-idle
returns-clause-idle c =
    let v = view c.args.pass.now in let u = view c.look-said.new.pass in let x = view c.tell_read-reply.new.pass in let w = view c.leave_reading.new.pass in let cell = cell_of c.args.query.now in let left = c.leave_reading.ensures in
    idle_here x w c.args.ptr.guard.lock cell c.requires.at left.away left.elsewhere
    (only_then u x cell c.tell_read-reply.ensures.pass.1.standings (only_then v u cell c.look-said.ensures.pass.1.standings c.requires.only))
    (ap (λ (p : Part). p.stored) left.left.part ∙ c.tell_read-reply.ensures.follows.rested)

pub returns-clause-tells : goal.returns-clause-tells
returns-clause-tells c =
    let v = view c.args.pass.now in let u = view c.look-said.new.pass in let x = view c.tell_read-reply.new.pass in let w = view c.leave_reading.new.pass in let m = cargo_of c.args.hall.now in let q = c.args.query.now in let reply = c.tell_read-reply.result in
    tells_after m v u w c.args.index q reply (nothing_read v u c.look-said.ensures.pass.1 c.look-said.ensures.part)
    (tells_then m u x w c.args.index q reply c.tell_read-reply.ensures.tells c.leave_reading.ensures.left c.leave_reading.ensures.back)

pub returns-clause-trail : goal.returns-clause-trail
returns-clause-trail c =
    let v = view c.args.pass.now in let u = view c.look-said.new.pass in let x = view c.tell_read-reply.new.pass in let w = view c.leave_reading.new.pass in let cell = cell_of c.args.query.now in let may = IsWeakAt cell in
    treads_then may v u w (alike_treads may v u c.look-said.ensures.pass.1)
    (treads_then may u x w (alike_treads may u x c.tell_read-reply.ensures.pass.1) (weak_here x w c.args.ptr.guard.lock cell c.requires.at c.leave_reading.ensures.trail))

pub returns-clause-quiet : goal.returns-clause-quiet
returns-clause-quiet c =
    let v = view c.args.pass.now in let u = view c.look-said.new.pass in let x = view c.tell_read-reply.new.pass in let w = view c.leave_reading.new.pass in
    quiet_then v u w c.look-said.ensures.quiet (quiet_then u x w c.tell_read-reply.ensures.quiet c.leave_reading.ensures.quiet)
