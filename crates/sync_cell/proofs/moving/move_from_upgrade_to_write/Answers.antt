use Rattle.std.proofs.Common.{◌≡◌, true, ◌∙◌, sym, ap, subst}
use Rattle.hall.specs.Passes.{view}
use Rattle.hall.specs.Views.{pending, standing}
use Rattle.hall.specs.declared.view.Standing.TheVariants.{Announcing}
use Rattle.shared_mutex.specs.Acquiring.{ElsewhereSame}
use Rattle.upgrade_mode.specs.Tries.{BeginsAtLast, HoldsUpAtLast}
use Rattle.sync_cell.specs.Cells.{maps}
use Rattle.sync_cell.proofs.Acquired.{patient_rise, same_part}
use Rattle.hall.specs.SlotLaws.{none_pending_at}
use Rattle.hall.specs.Slotting.{HasNonePending}
use Rattle.sync_cell.proofs.moving.move_from_upgrade_to_write.Goals as goal

pub returns-clause-elsewhere : goal.returns-clause-elsewhere
returns-clause-elsewhere g c = let first = c.wait.ensures.gives in let last = c.wait-guard.ensures.gives in
    let between = c.pass-1.given.1 (sym first.0) in let after = c.pass-2-1.given.1 (sym last.0) in
    subst (λ p. ElsewhereSame (view c.args.pass.now) (view p) c.args.ptr.guard.lock) (sym after) (λ k ne. last.6.1 k ne ∙ ap (λ p. standing (view p) k) between ∙ first.4.1 k ne)

pub returns-clause-step : goal.returns-clause-step
returns-clause-step g c = let first = c.wait.ensures.gives in let last = c.wait-guard.ensures.gives in
    let between = c.pass-1.given.1 (sym first.0) in let after = c.pass-2-1.given.1 (sym last.0) in
    let v = view c.args.pass.now in let a = view c.pass-1.given.0 in let began = first.4.2 in let ended = last.6.2 in let cell = c.args.ptr.guard.lock in (
      began.0,
      ended.0,
      (a, subst (λ p. BeginsAtLast maps v cell began.0 (view p)) (sym between) began.1, subst (λ p. HoldsUpAtLast maps a cell ended.0 (view p)) (sym after) ended.1),
    )

pub returns-clause-steps : goal.returns-clause-steps
returns-clause-steps g c = let first = c.wait.ensures.gives in let last = c.wait-guard.ensures.gives in
    let between = c.pass-1.given.1 (sym first.0) in let after = c.pass-2-1.given.1 (sym last.0) in
    let v = view c.args.pass.now in let a = view c.pass-1.given.0 in let began = first.4.2 in let ended = last.6.2 in let cell = c.args.ptr.guard.lock in
    patient_rise maps v cell c.requires.upgrade v.shape.slots began.0 ended.0 a (view c.pass-2-1.given.0)
    (subst (λ p. BeginsAtLast maps v cell began.0 (view p)) (sym between) began.1)
    (subst (λ p. standing (view p) cell ≡ Announcing v.shape.slots 0 true) (sym between) first.4.0)
    (subst (λ p. HoldsUpAtLast maps a cell ended.0 (view p)) (sym after) ended.1)

pub returns-clause-part : goal.returns-clause-part
returns-clause-part g c = let first = c.wait.ensures.gives in let last = c.wait-guard.ensures.gives in
    let between = c.pass-1.given.1 (sym first.0) in let after = c.pass-2-1.given.1 (sym last.0) in
    let v = view c.args.pass.now in let a = view c.pass-1.given.0 in let began = first.4.2 in let ended = last.6.2 in let cell = c.args.ptr.guard.lock in
    same_part maps v cell c.requires.upgrade began.0 ended.0 a (view c.pass-2-1.given.0)
    (subst (λ p. BeginsAtLast maps v cell began.0 (view p)) (sym between) began.1)
    (subst (λ p. HoldsUpAtLast maps a cell ended.0 (view p)) (sym after) ended.1)

pub returns-clause-clear : goal.returns-clause-clear
returns-clause-clear g c = let first = c.wait.ensures.gives in let last = c.wait-guard.ensures.gives in
    let between = c.pass-1.given.1 (sym first.0) in let after = c.pass-2-1.given.1 (sym last.0) in let cell = c.args.ptr.guard.lock in
    subst (λ p. HasNonePending (view c.args.pass.now) → HasNonePending (view p)) (sym after)
    (none_pending_at (view c.args.pass.now) (view c.wait-guard.new.attempt.pass.now) cell (λ k ne. last.6.1 k ne ∙ ap (λ p. standing (view p) k) between ∙ first.4.1 k ne) (ap pending last.6.0))
