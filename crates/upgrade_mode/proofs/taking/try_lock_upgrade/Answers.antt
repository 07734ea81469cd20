use Rattle.std.proofs.Common.{◌≡◌, true, sym, ap, ◌∙◌}
use Rattle.hall.specs.declared.view.StepKind.TheVariants.{UpgradeIn}
use Rattle.hall.specs.declared.view.View.{View}
use Rattle.hall.specs.Passes.{view}
use Rattle.hall.specs.Plays.{conflicts_for_announcing}
use Rattle.hall.specs.Reasons.{read_conflict, found_changed, announcing_bits}
use Rattle.hall.specs.Views.{is_outside, after_look}
use Rattle.upgrade_mode.proofs.taking.try_lock_upgrade.Goals as goal

pub returns-then-conflicts_for_announcing-clause-step :
    goal.returns-then-conflicts_for_announcing-clause-step
returns-then-conflicts_for_announcing-clause-step g c =
    let t = c.load-seen.ensures.step in
    let on : conflicts_for_announcing c.load-seen.result ≡ true = sym c.conflicts_for_announcing.ensures ∙ c.if-conflicts_for_announcing.true in
    (on, t.0, read_conflict g.C.CargoRule _ _ _ _ _ _ _ t.2 t.0 (ap is_outside c.requires.away) (announcing_bits _ on))

pub returns-in-Err-clause-step : goal.returns-in-Err-clause-step
returns-in-Err-clause-step g c =
    let t = c.load-seen.ensures.step in let miss = c.in-Err.ensures.step in let look = miss.1 in (
      (λ same. miss.0 (sym same)),
      look.0 ∙ ap (λ (z : View _). after_look z UpgradeIn c.args.lock c.in-Err.found) t.0,
      found_changed g.C.CargoRule _ _ _ _ _ _ _ look.2 look.0 (view c.args.pass.now) c.load-seen.result t.0 (λ same. miss.0 (sym same)),
      sym c.conflicts_for_announcing.ensures ∙ c.if-conflicts_for_announcing.false,
    )
