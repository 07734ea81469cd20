use Rattle.std.proofs.Common.{refl, sym, ap, ◌∙◌, subst}
use Rattle.hall.specs.declared.view.StepKind.TheVariants.{Up}
use Rattle.hall.specs.declared.view.View.{View}
use Rattle.hall.specs.Passes.{view}
use Rattle.hall.specs.Reasons.{found_changed}
use Rattle.hall.specs.UpgradeLaws.{holder_finds}
use Rattle.hall.specs.Upgrading.{AnnouncesUp}
use Rattle.hall.specs.Views.{after_look}
use Rattle.upgrade_mode.proofs.raising.begin_upgrade.Goals as goal

pub up-requires-clause-seen : goal.up-requires-clause-seen
up-requires-clause-seen g c = λ _ _. holder_finds g.C.CargoRule _ _ _ _ _ _ c.load-seen.ensures.step.2 c.requires.fits.1

pub returns-in-Ok-clause-step : goal.returns-in-Ok-clause-step
returns-in-Ok-clause-step g c =
    let t = c.load-seen.ensures.step in (
      refl,
      refl,
      refl,
      (
        c.load-seen.result,
        holder_finds g.C.CargoRule _ _ _ _ _ _ t.2 c.requires.fits.1,
        subst (λ (z : View _). AnnouncesUp g.C.CargoRule z c.args.guard.lock c.load-seen.result (view c.up.new.pass)) t.0 c.in-Ok.ensures.step,
      ),
    )

pub returns-in-Err-clause-step : goal.returns-in-Err-clause-step
returns-in-Err-clause-step g c =
    let t = c.load-seen.ensures.step in let miss = c.in-Err.ensures.step in let look = miss.1 in (
      refl,
      (
        (λ same. miss.0 (sym same)),
        look.0 ∙ ap (λ (z : View _). after_look z Up c.args.guard.lock c.in-Err.found) t.0,
        found_changed g.C.CargoRule _ _ _ _ _ _ _ look.2 look.0 (view c.args.pass.now) c.load-seen.result t.0 (λ same. miss.0 (sym same)),
        holder_finds g.C.CargoRule _ _ _ _ _ _ t.2 c.requires.fits.1,
      ),
    )
