use Rattle.std.proofs.Common.{refl, subst, sym}
use Rattle.hall.specs.Passes.{view}
use Rattle.query_rules.specs.declared.query.Query.{Query}
use Rattle.query_rules.specs.declared.query.Reply.TheVariants.{Late}
use Rattle.query_cells.specs.Asked.{WasRefused}
use Rattle.query_cells.proofs.writing.hold_to_write.Goals as goal

pub returns-in-Err-clause-refused : goal.returns-in-Err-clause-refused
returns-in-Err-clause-refused g c =
    let e = c.in-Err.ensures in
    (refl, subst (λ (q : Query). WasRefused q (Late c.in-Err.now) (view c.args.pass.now) (view c.write_until.new.pass)) (sym c.in-PutBy.is) (e.reads.0, e.reads.1, (e.late.0, e.reads.2)))
