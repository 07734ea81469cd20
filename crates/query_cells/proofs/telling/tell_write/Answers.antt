use Rattle.std.proofs.Common.{◌≡◌, ℕ, ◌∷◌, ◌++◌, subst, true}
use Rattle.hall.specs.declared.view.StepKind.TheVariants.{AddCargo}
use Rattle.hall.specs.Passes.{view, cargo_of}
use Rattle.map_cargo.specs.Cells.{number_place}
use Rattle.map_cargo.specs.Steps.{Drew, cargo_step, row_stores}
use Rattle.query_cells.specs.Asked.{entry_for}
use Rattle.query_cells.proofs.Replies.{write_told}
use Rattle.query_cells.proofs.Quiet.{quiet_drawn}
use Rattle.query_cells.proofs.telling.tell_write.Goals as goal

pub returns-clause-tells : goal.returns-clause-tells
returns-clause-tells c =
    let v = view c.args.pass.now in let w = view c.draw.new.pass in let n = c.in-Ok.number in let e = c.in-Ok.ensures in let m = cargo_of c.args.hall.now in
    write_told m v w c.args.index c.args.query.now c.args.said n c.requires.may e.pass.1
    (subst (λ (k : ℕ). Drew 8 v.part w.part n (entry_for k c.args.index c.args.query.now c.args.said)) c.number.ensures.value e.drawn.0) e.drawn.1 c.requires.mode
    (subst (λ (k : ℕ). w.steps ≡ row_stores v m n (entry_for k c.args.index c.args.query.now c.args.said) 8 ++ (cargo_step v AddCargo (number_place m) n true ∷ v.steps)) c.number.ensures.value e.steps)

pub returns-clause-quiet : goal.returns-clause-quiet
returns-clause-quiet c =
    quiet_drawn (view c.args.pass.now) (view c.draw.new.pass) (cargo_of c.args.hall.now) c.in-Ok.number _ c.in-Ok.ensures.steps
