use Rattle.std.proofs.Common.{false, ◌∙◌, sym, rules}
use Rattle.std.proofs.Math.ListN.{get_or-map}
use Rattle.hall.specs.Passes.{view}
use Rattle.hall.specs.Views.{mode_of}
use Rattle.hall.specs.declared.view.Standing.TheVariants.{Away}
use Rattle.map_cargo.proofs.Notes.{reads}
use Rattle.hall.specs.declared.view.StepKind.TheVariants.{LoadCargo}
use Rattle.map_cargo.specs.StepLaws.{noted_alike}
use Rattle.map_cargo.proofs.cells.word_by.Goals as goal

pub load_cargo-requires-clause-note : goal.load_cargo-requires-clause-note
load_cargo-requires-clause-note g c κs within = reads _ _ c.args.cell c.args.index _ _ _ _ _ (search rules) c.requires.cell.1 c.requires.index.1 c.requires.index.2 c.requires.cell.0 c.requires.index.0 (λ e. c.requires.held (sym (get_or-map mode_of _ c.args.cell Away) ∙ e))

pub returns-clause-pass : goal.returns-clause-pass
returns-clause-pass g c =
    let step = c.load_cargo.ensures.step in
    (c.load_cargo.ensures.pass.0, noted_alike (view c.args.pass.now) (view c.load_cargo.new.pass) LoadCargo _ c.load_cargo.result false step.1 step.3)
