use Rattle.std.specs.Prelude.{false, true}
use Rattle.std.proofs.Common.{ap, refl, ◌∙◌}
use Rattle.hall.specs.declared.view.StepKind.TheVariants as kinds
use Rattle.hall.specs.declared.view.View.{View}
use Rattle.hall.specs.Passes.{view}
use Rattle.hall.specs.Views.{after_look, entry_of}
use Rattle.apply_deferred.specs.SweepLaws.{sweep_goes}
use Rattle.map_cargo.specs.declared.entry.Part.{Part}
use Rattle.map_cargo.specs.Gaining.{gained_by, gained_from}
use Rattle.map_cargo.specs.StepLaws.{more_one, more_then}
use Rattle.map_cargo.proofs.tests.exclusive.Goals as goal

pub returns-clause-gained : goal.returns-clause-gained
returns-clause-gained g c =
    let s = c.in-Ok.ensures.step.1 in let is = s.1.2.0 in let u : View Part = s.0 in let z : View Part = s.2 in
    let v : View Part = view c.args.pass.now in let look : View Part = after_look v kinds.Load c.args.cell s.1.0 in
    let goes = sweep_goes _ c.args.cell v.shape.slots s.3 u z s.4 in
    gained_from c.args.cell z _ _ (goes.part ∙ ap (λ (y : View Part). y.part) is) (goes.number ∙ ap (λ (y : View Part). y.number) is) (goes.quota ∙ ap (λ (y : View Part). y.quota) is) (goes.span ∙ ap (λ (y : View Part). y.span) is) (goes.taken ∙ ap (λ (y : View Part). y.taken) is)
    (more_then v u z (more_then v look u (more_one v look (entry_of v kinds.Load c.args.cell s.1.0 false) refl) (more_one look u (entry_of look kinds.Announce c.args.cell s.1.0 true) (ap (λ (y : View Part). y.steps) is))) (record { added = goes.added; stand = goes.steps }))
    (gained_by _ _ _ _ _ _ s.5.0)

pub returns-clause-others : goal.returns-clause-others
returns-clause-others g c = λ k ne. c.in-Ok.ensures.elsewhere k ne ∙ c.requires.idle.0 k
