use Rattle.std.proofs.Common.{sym, ◌∙◌}
use Rattle.hall.specs.Passes.{view, cargo_of}
use Rattle.query_cells.proofs.Replies.{may_place}
use Rattle.query_cells.proofs.telling.tell.Goals as goal

pub tell_read-requires-clause-may : goal.tell_read-requires-clause-may
tell_read-requires-clause-may c = may_place (cargo_of c.args.hall.now) (view c.args.pass.now) c.args.index c.args.query.now c.args.said c.requires.may (sym c.is_write.ensures ∙ c.if-is_write.false)
