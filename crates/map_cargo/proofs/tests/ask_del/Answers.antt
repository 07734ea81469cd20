use Rattle.std.proofs.Common.{ℕ, List, sym, refl, ap, ◌∙◌, cond, eq-eqb}
use Rattle.hall.specs.Passes.{view}
use Rattle.query_rules.specs.Maps.{without, written}
use Rattle.map_cargo.specs.declared.entry.Entry.{Entry}
use Rattle.map_cargo.specs.declared.entry.Made.{Made}
use Rattle.map_cargo.specs.declared.entry.Part.{Part}
use Rattle.map_cargo.specs.Cells.{lookup}
use Rattle.map_cargo.specs.History.{plain_of}
use Rattle.map_cargo.specs.Openings.{map_made, unmade}
use Rattle.map_cargo.specs.Steps.{Reworded}
use Rattle.hall.specs.declared.view.Standing.{Standing}
use Rattle.hall.specs.declared.view.Standing.TheVariants.{Away}
use Rattle.map_cargo.specs.Gaining.{still_settled}
use Rattle.std.specs.Prelude.{slice_index_or}
use Rattle.map_cargo.proofs.Meaning.{settled_by_draw}
use Rattle.map_cargo.proofs.tests.ask_del.Goals as goal

pub leave-requires-clause-settled : goal.leave-requires-clause-settled
leave-requires-clause-settled g c =
    let x = c.exclusive-guard.ensures in still_settled _ c.args.cell _ _ _ _ _ x.held.0 (c.in_default.ensures.del _ x.gained.settled).1 c.place_read.ensures.placed.0 x.gained.settled

pub leave-requires-2-clause-others : goal.leave-requires-2-clause-others
leave-requires-2-clause-others g c =
    let x = c.exclusive-guard.ensures in
    λ k ne. ap (λ (l : List Standing). slice_index_or l k Away) (c.draw.ensures.pass.1.standings ∙ c.in-Some.ensures.pass.1.standings) ∙ x.others k (λ same. ne (same ∙ sym x.held.0))

pub leave-requires-2-clause-settled : goal.leave-requires-2-clause-settled
leave-requires-2-clause-settled g c =
    let x = c.exclusive-guard.ensures in
    let cell : ℕ = c.args.cell in
    let key : ℕ = c.args.key in
    let p : Part = (view c.exclusive-guard.new.pass).part in
    let q : Part = (view c.del.new.pass).part in
    let r : Part = (view c.draw.new.pass).part in
    let wrote : Reworded cell p q = c.in-Some.ensures.part in
    let t = c.in-Some.ensures.del (plain_of p cell) x.gained.settled in
    settled_by_draw c.exclusive-guard.result.lock cell c.in-Ok.field-0 q r c.entry_of-entry-2.result (without (plain_of p cell) key) x.held.0 c.in-Ok.ensures.drawn.0 t.1
    (ap (λ (e : Entry). written (plain_of q) e.query cell) c.entry_of-entry-2.ensures
    ∙ ap (λ b. cond b (without (plain_of q cell) key) (plain_of q cell)) (eq-eqb cell cell refl)
    ∙ ap (λ (l : List (ℕ × Made)). without (map_made (lookup unmade l cell) cell) key) wrote.made)
