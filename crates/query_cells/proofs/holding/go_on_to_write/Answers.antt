use Rattle.hall.specs.Passes.{view}
use Rattle.sync_cell.specs.TrailLaws.{rises_treads}
use Rattle.query_cells.proofs.Taking.{rose_at_last, unchanged_tells}
use Rattle.query_cells.proofs.holding.go_on_to_write.Goals as goal

pub returns-clause-nothing : goal.returns-clause-nothing
returns-clause-nothing g c =
    let s = c.move_from_upgrade_to_write.ensures.step in let v = view c.args.pass.now in let w = view c.move_from_upgrade_to_write.new.pass in
    unchanged_tells v w (rose_at_last _ v c.args.ptr.guard.lock s.0 s.1 w s.2)

pub returns-clause-trail : goal.returns-clause-trail
returns-clause-trail g c = let s = c.move_from_upgrade_to_write.ensures.step in rises_treads _ (view c.args.pass.now) (view c.move_from_upgrade_to_write.new.pass) c.args.ptr.guard.lock s.0 s.1 s.2
