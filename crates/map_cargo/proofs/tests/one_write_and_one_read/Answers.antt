use Rattle.std.proofs.Common.{ℕ, List, ap, ◌∙◌}
use Rattle.hall.specs.Passes.{view}
use Rattle.query_rules.specs.Maps.{with_value, written}
use Rattle.map_cargo.specs.declared.entry.Entry.{Entry}
use Rattle.map_cargo.specs.declared.entry.Made.{Made}
use Rattle.map_cargo.specs.declared.entry.Part.{Part}
use Rattle.map_cargo.specs.Cells.{lookup}
use Rattle.map_cargo.specs.History.{plain_of}
use Rattle.map_cargo.specs.Openings.{map_made, unmade}
use Rattle.map_cargo.specs.Steps.{Reworded}
use Rattle.map_cargo.proofs.Meaning.{settled_by_draw}
use Rattle.map_cargo.proofs.tests.one_write_and_one_read.Goals as goal

pub leave-requires-clause-settled : goal.leave-requires-clause-settled
leave-requires-clause-settled g c =
    let x = c.exclusive-guard.ensures in
    let p : Part = (view c.exclusive-guard.new.pass).part in
    let q : Part = (view c.put.new.pass).part in
    let r : Part = (view c.draw.new.pass).part in
    let wrote : Reworded 0 p q = c.in-Ok-None.ensures.part in
    let t = c.in-Ok-None.ensures.put (plain_of p 0) x.gained.settled in
    settled_by_draw c.exclusive-guard.result.lock 0 c.in-Ok-draw.number q r c.entry_of-entry.result (with_value (plain_of p 0) 7 5) x.held.0 c.in-Ok-draw.ensures.drawn.0 t.2
    (ap (λ (e : Entry). written (plain_of q) e.query 0) c.entry_of-entry.ensures ∙ ap (λ (l : List (ℕ × Made)). with_value (map_made (lookup unmade l 0) 0) 7 5) wrote.made)
