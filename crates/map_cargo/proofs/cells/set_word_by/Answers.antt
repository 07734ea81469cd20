use Rattle.std.proofs.Common.{true, ◌∙◌, rules}
use Rattle.std.proofs.Math.ListN.{get_or-map}
use Rattle.hall.specs.Passes.{view}
use Rattle.hall.specs.Views.{mode_of}
use Rattle.hall.specs.declared.view.Standing.TheVariants.{Away}
use Rattle.map_cargo.proofs.Notes.{stores}
use Rattle.hall.specs.declared.view.StepKind.TheVariants.{StoreCargo}
use Rattle.map_cargo.specs.StepLaws.{noted_alike}
use Rattle.map_cargo.proofs.cells.set_word_by.Goals as goal

pub store_cargo-requires-clause-note : goal.store_cargo-requires-clause-note
store_cargo-requires-clause-note g c κs within = stores _ _ c.args.cell c.args.index _ c.args.value _ _ _ _ _ (search rules) c.requires.cell.1 c.requires.index.1 c.requires.value c.requires.index.2 c.requires.cell.0 c.requires.index.0 (get_or-map mode_of _ c.args.cell Away ∙ c.requires.held)

pub returns-clause-pass : goal.returns-clause-pass
returns-clause-pass g c =
    let step = c.store_cargo.ensures.step in
    (c.store_cargo.ensures.pass.0, noted_alike (view c.args.pass.now) (view c.store_cargo.new.pass) StoreCargo _ c.args.value true step.2 step.4)
