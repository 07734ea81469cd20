use Rattle.std.proofs.Common.{◌≡◌, ℕ, Bool, ◌∙◌, ap, sym, subst, cond}
use Rattle.hall.specs.declared.guards.Announced.{Announced}
use Rattle.hall.specs.declared.view.Shape.{Shape}
use Rattle.hall.specs.declared.view.Standing.TheVariants.{Announcing}
use Rattle.hall.specs.Passes.{view, shape_of}
use Rattle.hall.specs.Views.{standing}
use Rattle.apply_deferred.specs.Sweeping.{Sweeps}
use Rattle.acquire_many.proofs.waits.announce_and_sweep.Goals as goal

pub returns-clause-step : goal.returns-clause-step
returns-clause-step g c =
    let starts = c.in_ok-announced.ensures.step in let swept = c.scan.ensures in let v = view c.args.pass.now in let a = view c.announce.new.pass in let w = view c.scan.new.pass in
    let slots : (shape_of c.args.hall.now).slots ≡ v.shape.slots = ap (λ (z : Shape). z.slots) (sym c.requires.pass.1) in
    let sweep : Sweeps g.C.CargoRule c.args.lock v.shape.slots c.scan.result a w = subst (λ (n : ℕ). Sweeps g.C.CargoRule c.args.lock n c.scan.result a w) slots (subst (λ (j : ℕ). Sweeps g.C.CargoRule j (shape_of c.args.hall.now).slots c.scan.result a w) starts.0 swept.sweep) in
    (ap (λ (z : Announced). z.lock) swept.announced ∙ starts.0, ap (λ (z : Announced). z.swept) swept.announced, ap (λ (z : Announced). z.from_upgrade) swept.announced ∙ starts.2, (a, starts.3, (c.scan.result, sweep)))

pub returns-clause-stands : goal.returns-clause-stands
returns-clause-stands g c =
    let starts = c.in_ok-announced.ensures.step in let slots : ℕ = (shape_of c.args.hall.now).slots in let w = view c.scan.new.pass in
    let fits = subst (λ (z : Announced). standing w z.lock ≡ Announcing (cond z.swept slots 0) 0 z.from_upgrade) c.scan.ensures.announced c.scan.ensures.fits.1 in
    ap (λ (j : ℕ). standing w j) (sym starts.0) ∙ fits ∙ ap (λ (b : Bool). Announcing slots 0 b) starts.2
