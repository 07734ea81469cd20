use Rattle.std.proofs.Common.{rules, ℕ, List, refl, ap, ◌∙◌, cond, eq-eqb}
use Rattle.hall.specs.Passes.{view}
use Rattle.query_rules.specs.Maps.{with_value, written}
use Rattle.map_cargo.specs.declared.entry.Entry.{Entry}
use Rattle.map_cargo.specs.declared.entry.Made.{Made}
use Rattle.map_cargo.specs.declared.entry.Part.{Part}
use Rattle.map_cargo.specs.Cells.{Means, lookup}
use Rattle.map_cargo.specs.History.{words_of, plain_of}
use Rattle.map_cargo.specs.Openings.{map_made, unmade}
use Rattle.map_cargo.specs.Steps.{Reworded}
use Rattle.map_cargo.specs.Gaining.{still_settled}
use Rattle.map_cargo.proofs.Meaning.{settled_by_draw}
use Rattle.map_cargo.proofs.tests.ask_put.Goals.{in-Ok-Some, in-Ok-None}
use Rattle.map_cargo.proofs.tests.ask_put.Goals as goal

pub leave-requires-clause-settled : goal.leave-requires-clause-settled
leave-requires-clause-settled g c =
    let x = c.exclusive-guard.ensures in still_settled _ c.args.cell _ _ _ _ _ x.held.0 (c.in-Err.ensures.put _ x.gained.settled).3 c.place_read.ensures.placed.0 x.gained.settled

pub leave-requires-2-clause-settled : goal.leave-requires-2-clause-settled
leave-requires-2-clause-settled g c =
    let x = c.exclusive-guard.ensures in
    let cell : ℕ = c.args.cell in
    let key : ℕ = c.args.key in
    let value : ℕ = c.args.value in
    let p : Part = (view c.exclusive-guard.new.pass).part in
    let q : Part = (view c.put.new.pass).part in
    let r : Part = (view c.draw.new.pass).part in
    let wrote : Reworded cell p q = c.put.ensures.part in
    let t = c.put.ensures.put (plain_of p cell) x.gained.settled in
    let means : Means (words_of q cell) (with_value (plain_of p cell) key value) = elim c.match-put-2.branch [ in-Ok-Some w ↦ search rules | in-Ok-None w ↦ search rules ] in
    settled_by_draw c.exclusive-guard.result.lock cell c.in-Ok.field-0 q r c.entry_of-entry-2.result (with_value (plain_of p cell) key value) x.held.0 c.in-Ok.ensures.drawn.0 means
    (ap (λ (e : Entry). written (plain_of q) e.query cell) c.entry_of-entry-2.ensures
    ∙ ap (λ b. cond b (with_value (plain_of q cell) key value) (plain_of q cell)) (eq-eqb cell cell refl)
    ∙ ap (λ (l : List (ℕ × Made)). with_value (map_made (lookup unmade l cell) cell) key value) wrote.made)
