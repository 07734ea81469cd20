use Rattle.std.proofs.Common.{true, ℕ, ◌+◌, ◌%◌, ◌∙◌, sym, subst, rules}
use Rattle.std.proofs.Math.ListN.{get_or-map}
use Rattle.hall.specs.Passes.{view, cargo_of}
use Rattle.hall.specs.Moves.{CargoMoment}
use Rattle.hall.specs.declared.view.View.{View}
use Rattle.map_cargo.specs.contracts.words.MapCargoCargoRule.TheImpl.{ghosts}
use Rattle.map_cargo.specs.declared.size.MapCargo.{MapCargo}
use Rattle.map_cargo.specs.declared.entry.Part.{Part}
use Rattle.map_cargo.specs.History.{IsPlainThen}
use Rattle.hall.specs.Views.{mode_of}
use Rattle.hall.specs.declared.view.Standing.TheVariants.{Away}
use Rattle.map_cargo.proofs.Drawing.{draws}
use Rattle.hall.specs.declared.view.StepKind.TheVariants.{AddCargo}
use Rattle.map_cargo.specs.StepLaws.{noted_stays}
use Rattle.map_cargo.proofs.history.draw_by.Goals as goal

pub add_cargo-requires-clause-note : goal.add_cargo-requires-clause-note
add_cargo-requires-clause-note g c κs within = let may = c.requires.may in draws _ _ _ _ c.args.entry.now _ _ (search rules) c.requires.entry.0 c.requires.entry.1 c.requires.quota may.near (λ cell has. get_or-map mode_of _ cell Away ∙ may.holds cell has) may.said may.writes may.rested

pub returns-clause-pass : goal.returns-clause-pass
returns-clause-pass g c =
    let step = c.add_cargo.ensures.step in
    (c.add_cargo.ensures.pass.0, noted_stays (view c.args.pass.now) (view c.add_cargo.new.pass) AddCargo _ c.add_cargo.result 1 true step.1 step.3)

pub returns-clause-moment : goal.returns-clause-moment
returns-clause-moment g c =
    let k : MapCargo = cargo_of c.args.hall.now in let v : View Part = view c.args.pass.now in let w : View Part = view c.add_cargo.new.pass in let n : ℕ = c.add_cargo.result in
    let s = c.add_cargo.ensures.step in record {
      words = s.0;
      moment = subst (λ (p : ℕ). CargoMoment ghosts v w p n ((n + 1) % 18446744073709551616) s.0) (search rules) s.4;
      plain = subst (λ (z : MapCargo). IsPlainThen z s.0 n c.args.entry.now) (sym c.requires.entry.1) (subst (IsPlainThen _ s.0 n) (sym c.requires.entry.0) s.2.2);
    }
