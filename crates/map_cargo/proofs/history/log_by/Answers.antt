use Rattle.std.proofs.Common.{true, sym, rules}
use Rattle.hall.specs.Passes.{view}
use Rattle.map_cargo.proofs.Drawing.{logs}
use Rattle.hall.specs.declared.view.StepKind.TheVariants.{StoreCargo}
use Rattle.map_cargo.specs.StepLaws.{noted_alike}
use Rattle.map_cargo.proofs.history.log_by.Goals as goal

pub store_cargo-requires-clause-note : goal.store_cargo-requires-clause-note
store_cargo-requires-clause-note g c κs within = logs _ _ _ _ c.args.number c.args.index _ c.args.entry.now _ (search rules) c.requires.index.1 c.requires.index.0 (sym c.requires.number.1) c.requires.index.2 c.requires.entry c.requires.value

pub returns-clause-pass : goal.returns-clause-pass
returns-clause-pass g c =
    let step = c.store_cargo.ensures.step in
    (c.store_cargo.ensures.pass.0, noted_alike (view c.args.pass.now) (view c.store_cargo.new.pass) StoreCargo _ c.args.value true step.2 step.4)
