use Rattle.std.proofs.Common.{rules, ◌≡◌, arith, subst, ℕ}
use Rattle.hall.specs.declared.view.Standing.TheVariants.{Announcing}
use Rattle.hall.specs.Passes.{view}
use Rattle.hall.specs.Views.{standing}
use Rattle.hall.proofs.SlotSteps.{looks}
use Rattle.hall.proofs.hall.Hall.look_for.Goals as goal

pub load-requires : goal.load-requires
load-requires g c = (
  search rules,
  search rules,
  looks g.C.CargoRule c.args.self.now.table.shared.key _ _ _ g.K.ForLock.lock c.args.slot _ c.slot_place-place.ensures.value c.requires.pass.1 (omega (arith, c.args.pass.now.tied.1)) (omega (arith, c.requires.known, c.requires.lock)) c.requires.slot c.requires.announced.0 c.requires.announced.1
      (subst (λ (z : ℕ). standing (view c.args.pass.now) z ≡ Announcing c.args.slot c.requires.announced.0 c.requires.announced.1) c.requires.known c.requires.announced.2),
)
