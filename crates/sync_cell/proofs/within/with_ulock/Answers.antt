use Rattle.std.proofs.Common.{◌≡◌, ◌∙◌, ℕ, refl, sym, ap, subst}
use Rattle.hall.specs.Passes.{view}
use Rattle.hall.specs.Upgrading.{LeavesUpgrade}
use Rattle.hall.specs.Views.{mode_of, standing}
use Rattle.hall.specs.declared.view.Standing.TheVariants.{Away, Upgrade}
use Rattle.sync_cell.specs.Cells.{maps}
use Rattle.sync_cell.specs.Within.{Answers, upgrades_at}
use Rattle.sync_cell.proofs.within.with_ulock.Goals as goal

pub f-answer-requires : goal.f-answer-requires
f-answer-requires g c = let taken = c.ulock-ptr.ensures in
    c.requires.ready c.ulock-ptr.new.pass (taken.pass, taken.stands, taken.elsewhere, taken.step) _ _ _ refl refl (ap upgrades_at taken.cell)

pub unlock_upgrade_ptr-requires-clause-pass : goal.unlock_upgrade_ptr-requires-clause-pass
unlock_upgrade_ptr-requires-clause-pass g c = let taken = c.ulock-ptr.ensures in
    let said : Answers g.F.FnOnce c.args.f c.args.hall.now c.ulock-ptr.new.pass (upgrades_at c.args.cell) c.f-answer.result c.f-answer.new.arg3 = record { h = _; p = _; x = _; shows = (refl, refl, ap upgrades_at taken.cell); left = _; met = c.f-answer.ensures; leaves = refl } in
    (c.requires.leaves c.ulock-ptr.new.pass c.f-answer.result c.f-answer.new.arg3 (taken.pass, taken.stands, taken.elsewhere, taken.step) said).0

pub unlock_upgrade_ptr-requires-clause-upgrade : goal.unlock_upgrade_ptr-requires-clause-upgrade
unlock_upgrade_ptr-requires-clause-upgrade g c = let taken = c.ulock-ptr.ensures in
    let said : Answers g.F.FnOnce c.args.f c.args.hall.now c.ulock-ptr.new.pass (upgrades_at c.args.cell) c.f-answer.result c.f-answer.new.arg3 = record { h = _; p = _; x = _; shows = (refl, refl, ap upgrades_at taken.cell); left = _; met = c.f-answer.ensures; leaves = refl } in
    subst (λ (k : ℕ). standing (view c.f-answer.new.arg3) k ≡ Upgrade) (sym taken.cell) (c.requires.leaves c.ulock-ptr.new.pass c.f-answer.result c.f-answer.new.arg3 (taken.pass, taken.stands, taken.elsewhere, taken.step) said).1

pub returns-clause-away : goal.returns-clause-away
returns-clause-away g c = subst (λ (k : ℕ). standing (view c.unlock_upgrade_ptr.new.pass) k ≡ Away) c.ulock-ptr.ensures.cell c.unlock_upgrade_ptr.ensures.away

pub returns-clause-elsewhere : goal.returns-clause-elsewhere
returns-clause-elsewhere g c = let taken = c.ulock-ptr.ensures in
    let said : Answers g.F.FnOnce c.args.f c.args.hall.now c.ulock-ptr.new.pass (upgrades_at c.args.cell) c.f-answer.result c.f-answer.new.arg3 = record { h = _; p = _; x = _; shows = (refl, refl, ap upgrades_at taken.cell); left = _; met = c.f-answer.ensures; leaves = refl } in
    let kept = (c.requires.leaves c.ulock-ptr.new.pass c.f-answer.result c.f-answer.new.arg3 (taken.pass, taken.stands, taken.elsewhere, taken.step) said).2 in
    λ k ne. ap mode_of (c.unlock_upgrade_ptr.ensures.elsewhere k (λ is. ne (is ∙ taken.cell))) ∙ kept k ∙ ap mode_of (taken.elsewhere k ne)

pub returns-clause-step : goal.returns-clause-step
returns-clause-step g c = let taken = c.ulock-ptr.ensures in let back = c.unlock_upgrade_ptr.ensures.step in
    let said : Answers g.F.FnOnce c.args.f c.args.hall.now c.ulock-ptr.new.pass (upgrades_at c.args.cell) c.f-answer.result c.f-answer.new.arg3 = record { h = _; p = _; x = _; shows = (refl, refl, ap upgrades_at taken.cell); left = _; met = c.f-answer.ensures; leaves = refl } in (
      c.ulock-ptr.new.pass,
      c.f-answer.new.arg3,
      back.0,
      (taken.pass, taken.stands, taken.elsewhere, taken.step),
      said,
      subst (λ (k : ℕ). LeavesUpgrade maps (view c.f-answer.new.arg3) k back.0 (view c.unlock_upgrade_ptr.new.pass)) taken.cell back.1,
      c.unlock_upgrade_ptr.ensures.clear,
    )
