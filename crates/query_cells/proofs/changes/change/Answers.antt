use Rattle.std.proofs.Common.{subst, sym}
use Rattle.hall.specs.Passes.{view}
use Rattle.query_rules.specs.declared.query.Query.{Query}
use Rattle.query_rules.specs.declared.query.Said.TheVariants.{Yes}
use Rattle.query_cells.specs.Answers.{Leaves, cell_of}
use Rattle.query_cells.proofs.changes.change.Goals as goal

pub returns-in-Cas-clause-leaves : goal.returns-in-Cas-clause-leaves
returns-in-Cas-clause-leaves c =
    subst (λ (q : Query). Leaves (cell_of q) (view c.args.pass.now) (view c.swap.new.pass) q Yes) (sym c.in-Cas.is) (c.swap.ensures.leaves c.in-Cas.old)
