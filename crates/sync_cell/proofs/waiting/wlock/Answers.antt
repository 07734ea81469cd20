use Rattle.std.proofs.Common.{List, rules, ◌∙◌, sym, ap, subst}
use Rattle.hall.specs.declared.guards.TryFault.{TryFault}
use Rattle.hall.specs.Passes.{view}
use Rattle.hall.specs.Views.{pending, standing}
use Rattle.shared_mutex.specs.Acquiring.{ElsewhereSame}
use Rattle.sync_cell.specs.Cells.{maps}
use Rattle.shared_mutex.specs.Tries.{AnnouncesAtLast, HoldsAtLast}
use Rattle.sync_cell.proofs.Acquired.{patient_writer}
use Rattle.hall.specs.SlotLaws.{none_pending_at}
use Rattle.hall.specs.Slotting.{HasNonePending}
use Rattle.sync_cell.proofs.waiting.wlock.Goals as goal

pub returns-clause-elsewhere : goal.returns-clause-elsewhere
returns-clause-elsewhere g c = let first = c.wait.ensures.gives in let last = c.wait-guard.ensures.gives in
    let between = c.pass-1.given.1 (sym first.0) in let after = c.pass-2-1.given.1 (sym last.0) in
    subst (λ p. ElsewhereSame (view c.args.pass.now) (view p) c.args.cell) (sym after) (λ k ne. last.6.1 k ne ∙ ap (λ p. standing (view p) k) between ∙ first.4.1 k ne)

pub returns-clause-step : goal.returns-clause-step
returns-clause-step g c = let first = c.wait.ensures.gives in let last = c.wait-guard.ensures.gives in
    let between = c.pass-1.given.1 (sym first.0) in let after = c.pass-2-1.given.1 (sym last.0) in
    let v = view c.args.pass.now in let a = view c.pass-1.given.0 in let began = first.4.2 in let ended = last.6.2 in (
      began.0,
      ended.0,
      (a, subst (λ p. AnnouncesAtLast maps v c.args.cell began.0 (view p)) (sym between) began.1, subst (λ p. HoldsAtLast maps a c.args.cell ended.0 (view p)) (sym after) ended.1),
    )

pub returns-clause-steps : goal.returns-clause-steps
returns-clause-steps g c = let v = view c.args.pass.now in let a = view c.wait.new.attempt.pass.now in let w = view c.wait-guard.new.attempt.pass.now in let began = c.wait.ensures.gives.4 in
    let held : (misses : List TryFault) × HoldsAtLast maps a c.args.cell misses w = search rules in
    let steps = patient_writer maps v c.args.cell c.requires.away v.shape.slots began.2.0 held.0 a w began.2.1 began.0 held.1 in search rules

pub returns-clause-clear : goal.returns-clause-clear
returns-clause-clear g c = let first = c.wait.ensures.gives in let last = c.wait-guard.ensures.gives in
    let between = c.pass-1.given.1 (sym first.0) in let after = c.pass-2-1.given.1 (sym last.0) in
    subst (λ p. HasNonePending (view c.args.pass.now) → HasNonePending (view p)) (sym after)
    (none_pending_at (view c.args.pass.now) (view c.wait-guard.new.attempt.pass.now) c.args.cell (λ k ne. last.6.1 k ne ∙ ap (λ p. standing (view p) k) between ∙ first.4.1 k ne) (ap pending last.6.0))
