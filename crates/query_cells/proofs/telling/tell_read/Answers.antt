use Rattle.std.proofs.Common.{◌≡◌, ℕ, subst}
use Rattle.hall.specs.Passes.{view, cargo_of}
use Rattle.map_cargo.specs.Steps.{placed}
use Rattle.query_cells.specs.Asked.{entry_for}
use Rattle.query_cells.proofs.Replies.{read_told}
use Rattle.map_cargo.specs.Cells.{number_place}
use Rattle.query_cells.proofs.Quiet.{quiet_placed}
use Rattle.query_cells.proofs.telling.tell_read.Goals as goal

pub returns-clause-tells : goal.returns-clause-tells
returns-clause-tells c =
    let v = view c.args.pass.now in let w = view c.place_read-reads_after.new.pass in let n = c.place_read-reads_after.result in let e = c.place_read-reads_after.ensures in
    read_told (cargo_of c.args.hall.now) v w c.args.index c.args.query.now c.args.said n c.requires.may c.requires.holds e.pass.1
    (subst (λ (k : ℕ). w.part ≡ placed v.part n (entry_for k c.args.index c.args.query.now c.args.said)) c.number.ensures.value e.placed.0) e.placed.1 e.step

pub returns-clause-quiet : goal.returns-clause-quiet
returns-clause-quiet c =
    quiet_placed (view c.args.pass.now) (view c.place_read-reads_after.new.pass) (number_place (cargo_of c.args.hall.now)) c.place_read-reads_after.result c.place_read-reads_after.ensures.step
