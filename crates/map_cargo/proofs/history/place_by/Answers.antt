use Rattle.std.proofs.Common.{false, ℕ, ◌∙◌, sym, subst, rules}
use Rattle.std.proofs.Math.ListN.{get_or-map}
use Rattle.hall.specs.Passes.{view}
use Rattle.hall.specs.Moves.{CargoMoment}
use Rattle.hall.specs.declared.view.View.{View}
use Rattle.map_cargo.specs.contracts.words.MapCargoCargoRule.TheImpl.{ghosts}
use Rattle.map_cargo.specs.declared.size.MapCargo.{MapCargo}
use Rattle.map_cargo.specs.declared.entry.Part.{Part}
use Rattle.map_cargo.specs.History.{IsPlainThen}
use Rattle.hall.specs.Views.{mode_of}
use Rattle.hall.specs.declared.view.Standing.TheVariants.{Away}
use Rattle.map_cargo.proofs.Drawing.{places}
use Rattle.hall.specs.declared.view.StepKind.TheVariants.{LoadCargo}
use Rattle.map_cargo.specs.StepLaws.{noted_alike}
use Rattle.map_cargo.proofs.history.place_by.Goals as goal

pub load_cargo-requires-clause-note : goal.load_cargo-requires-clause-note
load_cargo-requires-clause-note g c κs within = let may = c.requires.may in places _ _ _ _ c.args.entry.now _ _ (search rules) c.requires.entry.0 c.requires.entry.1 may.near (λ cell has e. may.holds cell has (sym (get_or-map mode_of _ cell Away) ∙ e)) may.said may.reads

pub returns-clause-pass : goal.returns-clause-pass
returns-clause-pass g c =
    let step = c.load_cargo.ensures.step in
    (c.load_cargo.ensures.pass.0, noted_alike (view c.args.pass.now) (view c.load_cargo.new.pass) LoadCargo _ c.load_cargo.result false step.1 step.3)

pub returns-clause-moment : goal.returns-clause-moment
returns-clause-moment g c =
    let v : View Part = view c.args.pass.now in let w : View Part = view c.load_cargo.new.pass in let n : ℕ = c.load_cargo.result in
    let s = c.load_cargo.ensures.step in record {
      words = s.0;
      moment = subst (λ (p : ℕ). CargoMoment ghosts v w p n n s.0) (search rules) s.4;
      plain = subst (λ (z : MapCargo). IsPlainThen z s.0 n c.args.entry.now) (sym c.requires.entry.1) (subst (IsPlainThen _ s.0 n) (sym c.requires.entry.0) s.2.3);
    }
