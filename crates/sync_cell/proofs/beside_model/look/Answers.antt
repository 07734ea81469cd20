use Rattle.std.proofs.Common.{ap, sym, subst, refl, slice_index_or, ◌∙◌}
use Rattle.hall.specs.declared.view.StepKind.TheVariants as kinds
use Rattle.hall.specs.declared.view.Standing.TheVariants.{Away}
use Rattle.hall.specs.Passes.{view}
use Rattle.hall.specs.SlotLaws.{none_pending_looked}
use Rattle.shared_mutex.specs.TryLaws.{looked_once}
use Rattle.sync_cell.specs.Beside.{IsSettledFor}
use Rattle.sync_cell.proofs.beside_model.look.Goals as goal

pub returns-clause-role : goal.returns-clause-role
returns-clause-role c =
    let v = view c.args.pass.now in let w = view c.load.new.pass in let is = c.load.ensures.step.0 in let was = c.requires.role.0 in let looked = looked_once v w kinds.Load _ _ refl is in
    (c.load.ensures.pass, none_pending_looked v w 0 c.load.result kinds.Load is was.1, ap (λ l. slice_index_or l 0 Away) looked.standings ∙ was.2, was.3)

pub returns-clause-settled : goal.returns-clause-settled
returns-clause-settled c = subst (λ p. IsSettledFor c.args.stand.role p) (sym (ap (λ v. v.part) c.load.ensures.step.0)) c.requires.role.1
