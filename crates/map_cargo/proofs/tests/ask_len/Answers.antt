use Rattle.std.proofs.Common.{◌≡◌, ◌<◌, ℕ, sym, refl, ap, ◌∙◌, subst, ⊎_elim, slice_index_or, Some, None}
use Rattle.hall.specs.Cargo.{shared_mode}
use Rattle.hall.specs.Passes.{view, cargo_of}
use Rattle.hall.specs.Views.{standing, mode_of}
use Rattle.hall.specs.declared.view.Standing.TheVariants.{Away}
use Rattle.query_rules.specs.declared.query.Said.TheVariants.{Count}
use Rattle.map_cargo.specs.declared.entry.Entry.{Entry}
use Rattle.map_cargo.specs.declared.entry.Part.{Part}
use Rattle.map_cargo.specs.History.{plain_of}
use Rattle.map_cargo.specs.Steps.{MayPlace}
use Rattle.map_cargo.proofs.tests.ask_len.Goals as goal

pub place_read-requires-clause-may : goal.place_read-requires-clause-may
place_read-requires-clause-may g c =
    let k : ℕ = c.args.cell in let x = c.shared-guard.ensures in let counted = c.len.ensures.counted _ x.gained.settled in
    let here : mode_of (standing (view c.len.new.pass) k) ≡ shared_mode = ap (λ l. mode_of (slice_index_or l k Away)) c.len.ensures.pass.1.standings ∙ x.mode in
    subst (λ (e : Entry). MayPlace (cargo_of c.args.hall.now) (view c.len.new.pass) e) (sym c.entry_of-entry.ensures) record {
      near = λ j has. ⊎_elim (λ e. subst (λ (i : ℕ). i < (cargo_of c.args.hall.now).cells) (sym e) c.requires.cell.0) (λ bad. absurd bad) has;
      holds = λ j has none. ⊎_elim (λ e. let bad : shared_mode ≡ None = sym here ∙ subst (λ (i : ℕ). mode_of (standing (view c.len.new.pass) i) ≡ None) e none in cc) (λ bad. absurd bad) has;
      said = ap (λ (q : Part). Some (Count (plain_of q k).count)) c.len.ensures.part ∙ ap (λ (n : ℕ). Some (Count n)) (sym counted);
      reads = refl;
    }
