use Rattle.std.proofs.Common.{◌≡◌, ℕ, ◌+◌, Bool, true, false, refl, subst, inr}
use Rattle.hall.specs.Passes.{view}
use Rattle.hall.specs.Slotting.{LooksAtSlot}
use Rattle.apply_deferred.specs.Sweeping.{SweepsSlot}
use Rattle.apply_deferred.proofs.sweep_slot.Goals as goal

pub returns-clause-sweep : goal.returns-clause-sweep
returns-clause-sweep g c =
    let first : LooksAtSlot g.C.CargoRule (view c.args.pass.now) c.args.lock c.args.slot (c.args.lock + 1) (view c.look-found.new.pass) =
    subst (λ (n : ℕ). LooksAtSlot g.C.CargoRule (view c.args.pass.now) c.args.lock c.args.slot n (view c.look-found.new.pass)) c.if-found-lock.false c.look-found.ensures.step in
    let Goal : Bool → Type 0 = λ z. c.pick.result ≡ z → SweepsSlot g.C.CargoRule c.args.lock c.args.slot z (view c.args.pass.now) (view c.pick.new.pass) in
    elim c.pick.result as Goal [
      | true ↦ λ e. (view c.look-found.new.pass, first, c.pick.ensures.picked e)
      | false ↦ λ e. inr (view c.look-found.new.pass, first, c.pick.ensures.gone e)
    ] refl
