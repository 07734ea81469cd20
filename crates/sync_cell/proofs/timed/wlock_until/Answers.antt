use Rattle.std.proofs.Common.{◌≡◌, ◌∙◌, ◌+◌, ◌∷◌, List, length, refl, sym, ap, subst, inl, inr, arith, rules, slice_index_or, false}
use Rattle.hall.specs.declared.guards.TryFault.{TryFault}
use Rattle.hall.specs.declared.view.Standing.TheVariants.{Announcing, Away}
use Rattle.hall.specs.Passes.{view, IsPassOf}
use Rattle.hall.specs.Views.{mode_of, pending, standing}
use Rattle.shared_mutex.specs.Acquiring.{ElsewhereSame}
use Rattle.shared_mutex.specs.TryLaws.{meetings_looked, still_elsewhere, writers_looked}
use Rattle.sync_cell.specs.Cells.{maps}
use Rattle.shared_mutex.specs.Tries.{AnnouncesAtLast, HoldsAtLast, ReadersMet}
use Rattle.sync_cell.specs.Waits.{GaveUpLate}
use Rattle.sync_cell.proofs.Acquired.{patient_looks, patient_writer, trying_writer}
use Rattle.sync_cell.proofs.Counted.{announced_counted, finished_counted, holds, in_time, loads, meetings_counted, too_late, writers_counted}
use Rattle.sync_cell.proofs.InTime.{in_time_then, too_late_then}
use Rattle.hall.specs.SlotLaws.{none_pending_at, none_pending_same}
use Rattle.hall.specs.Slotting.{HasNonePending}
use Rattle.sync_cell.proofs.timed.wlock_until.Goals as goal

pub returns-in_err-wait_until-clause-elsewhere : goal.returns-in_err-wait_until-clause-elsewhere
returns-in_err-wait_until-clause-elsewhere g c = let e = c.in_err-wait_until.ensures in let late = c.in_err-wait_until.field-0.0 in let r = e.refuses.3 in let v = view c.args.pass.now in let w = view c.wait_until.new.attempt.pass.now in
    let same = still_elsewhere v w w c.args.cell (writers_looked maps v c.args.cell w (late.fault ∷ r.0) r.1) (λ k ne. refl) in search rules

pub returns-in_err-wait_until-clause-step : goal.returns-in_err-wait_until-clause-step
returns-in_err-wait_until-clause-step g c = let e = c.in_err-wait_until.ensures in let late = c.in_err-wait_until.field-0.0 in let r = e.refuses.3 in let v = view c.args.pass.now in let w = view c.wait_until.new.attempt.pass.now in
    let fs : List TryFault = late.fault ∷ r.0 in
    let counted : loads w ≡ loads v + (length r.0 + 1) = omega (arith, writers_counted maps c.args.cell v w fs r.1) in
    let step : GaveUpLate maps g.T.Clock.last g.T.Clock.answers c.args.deadline c.args.cell v w c.args.clock.now c.wait_until.new.clock late.fault late.now =
    inl (r.0, r.1, writers_looked maps v c.args.cell w fs r.1, too_late g.T.Clock.last g.T.Clock.answers c.args.deadline (length r.0 + 1) (loads v) (loads w) c.args.clock.now c.wait_until.new.clock late.now e.too_late e.late e.now counted) in
    search rules

pub returns-in_err-wait_until-clause-steps : goal.returns-in_err-wait_until-clause-steps
returns-in_err-wait_until-clause-steps g c = let e = c.in_err-wait_until.ensures in let late = c.in_err-wait_until.field-0.0 in let r = e.refuses.3 in let v = view c.args.pass.now in let w = view c.wait_until.new.attempt.pass.now in
    let steps = patient_looks v w c.args.cell (ap mode_of c.requires.away) (writers_looked maps v c.args.cell w (late.fault ∷ r.0) r.1) in search rules

pub returns-in-Ok-clause-elsewhere : goal.returns-in-Ok-clause-elsewhere
returns-in-Ok-clause-elsewhere g c = let first = c.in_ok-wait_until.ensures.gives in let last = c.in-Ok.ensures.gives in
    let between = c.pass-1.given.1 (sym first.0) in let after = c.pass-2-1.given.1 (sym last.0) in
    subst (λ p. ElsewhereSame (view c.args.pass.now) (view p) c.args.cell) (sym after) (λ k ne. last.6.1 k ne ∙ ap (λ p. standing (view p) k) between ∙ first.4.1 k ne)

pub returns-in-Ok-clause-step : goal.returns-in-Ok-clause-step
returns-in-Ok-clause-step g c = let one = c.in_ok-wait_until.ensures in let two = c.in-Ok.ensures in
    let between = c.pass-1.given.1 (sym one.gives.0) in let after = c.pass-2-1.given.1 (sym two.gives.0) in
    let v = view c.args.pass.now in let a = view c.pass-1.given.0 in let began = one.gives.4.2 in let ended = two.gives.6.2 in
    let first = in_time g.T.Clock.last g.T.Clock.answers c.args.deadline (length began.0) (loads v) (loads (view c.wait_until.new.attempt.pass.now)) c.args.clock.now c.wait_until.new.clock one.in_time one.at_once one.early (announced_counted maps c.args.cell v (view c.wait_until.new.attempt.pass.now) began.0 began.1) in
    let second = in_time g.T.Clock.last g.T.Clock.answers c.args.deadline (length ended.0) (holds a) (holds (view c.wait_until-2.new.attempt.pass.now)) c.wait_until.new.clock c.wait_until-2.new.clock two.in_time two.at_once two.early (finished_counted maps c.args.cell a (view c.wait_until-2.new.attempt.pass.now) ended.0 ended.1) in (
      began.0,
      ended.0,
      (a, subst (λ p. AnnouncesAtLast maps v c.args.cell began.0 (view p)) (sym between) began.1, subst (λ p. HoldsAtLast maps a c.args.cell ended.0 (view p)) (sym after) ended.1),
      in_time_then g.T.Clock.last g.T.Clock.answers c.args.deadline (length began.0) (length ended.0) c.args.clock.now c.wait_until.new.clock c.wait_until-2.new.clock first second,
    )

pub returns-in-Ok-clause-steps : goal.returns-in-Ok-clause-steps
returns-in-Ok-clause-steps g c = let one = c.in_ok-wait_until.ensures.gives in let two = c.in-Ok.ensures.gives in
    let between = c.pass-1.given.1 (sym one.0) in let after = c.pass-2-1.given.1 (sym two.0) in
    let v = view c.args.pass.now in let a = view c.pass-1.given.0 in
    patient_writer maps v c.args.cell c.requires.away v.shape.slots one.4.2.0 two.6.2.0 a (view c.pass-2-1.given.0)
    (subst (λ p. AnnouncesAtLast maps v c.args.cell one.4.2.0 (view p)) (sym between) one.4.2.1)
    (subst (λ p. standing (view p) c.args.cell ≡ Announcing v.shape.slots 0 false) (sym between) one.4.0)
    (subst (λ p. HoldsAtLast maps a c.args.cell two.6.2.0 (view p)) (sym after) two.6.2.1)

pub returns-in-Err-clause-elsewhere : goal.returns-in-Err-clause-elsewhere
returns-in-Err-clause-elsewhere g c = let one = c.in_ok-wait_until.ensures.gives in let r = c.in-Err.ensures.refuses in
    let between = c.pass-1.given.1 (sym one.0) in let after = c.pass-2-1.given.1 (sym r.0) in let a = view c.pass-1.given.0 in let u = view c.wait_until-2.new.attempt.pass.now in
    let looked = meetings_looked maps a c.args.cell u (c.in-Err.late.fault ∷ r.4.0) r.4.1 in
    λ k ne. c.retract.ensures.elsewhere k ne ∙ ap (λ p. standing (view p) k) after ∙ ap (λ l. slice_index_or l k Away) looked.standings ∙ ap (λ p. standing (view p) k) between ∙ one.4.1 k ne

pub returns-in-Err-clause-step : goal.returns-in-Err-clause-step
returns-in-Err-clause-step g c = let one = c.in_ok-wait_until.ensures in let two = c.in-Err.ensures in let late = c.in-Err.late in
    let between = c.pass-1.given.1 (sym one.gives.0) in let after = c.pass-2-1.given.1 (sym two.refuses.0) in
    let v = view c.args.pass.now in let a = view c.pass-1.given.0 in let u = view c.pass-2-1.given.0 in let z = view c.wait_until-2.new.attempt.pass.now in let began = one.gives.4.2 in let r = two.refuses.4 in
    let fs : List TryFault = late.fault ∷ r.0 in
    let met : ReadersMet maps c.args.cell a fs u = subst (λ p. ReadersMet maps c.args.cell a fs (view p)) (sym after) r.1 in
    let counted : holds z ≡ holds a + (length r.0 + 1) = omega (arith, meetings_counted maps c.args.cell a z fs r.1) in
    let first = in_time g.T.Clock.last g.T.Clock.answers c.args.deadline (length began.0) (loads v) (loads (view c.wait_until.new.attempt.pass.now)) c.args.clock.now c.wait_until.new.clock one.in_time one.at_once one.early (announced_counted maps c.args.cell v (view c.wait_until.new.attempt.pass.now) began.0 began.1) in
    let second = too_late g.T.Clock.last g.T.Clock.answers c.args.deadline (length r.0 + 1) (holds a) (holds z) c.wait_until.new.clock c.wait_until-2.new.clock late.now two.too_late two.late two.now counted in
    inr (
      began.0,
      r.0,
      (a, subst (λ p. AnnouncesAtLast maps v c.args.cell began.0 (view p)) (sym between) began.1, (u, met, meetings_looked maps a c.args.cell u fs met, c.retract.ensures.step)),
      too_late_then g.T.Clock.last g.T.Clock.answers c.args.deadline (length began.0) (length r.0 + 1) c.args.clock.now c.wait_until.new.clock c.wait_until-2.new.clock first late.now second,
    )

pub returns-in-Err-clause-steps : goal.returns-in-Err-clause-steps
returns-in-Err-clause-steps g c = let one = c.in_ok-wait_until.ensures.gives in let r = c.in-Err.ensures.refuses in
    let between = c.pass-1.given.1 (sym one.0) in let after = c.pass-2-1.given.1 (sym r.0) in
    let v = view c.args.pass.now in let a = view c.pass-1.given.0 in let u = view c.pass-2-1.given.0 in let fs : List TryFault = c.in-Err.late.fault ∷ r.4.0 in
    let met : ReadersMet maps c.args.cell a fs u = subst (λ p. ReadersMet maps c.args.cell a fs (view p)) (sym after) r.4.1 in
    trying_writer maps v c.args.cell c.requires.away v.shape.slots one.4.2.0 a u (view c.retract.new.pass)
    (subst (λ p. AnnouncesAtLast maps v c.args.cell one.4.2.0 (view p)) (sym between) one.4.2.1)
    (subst (λ p. standing (view p) c.args.cell ≡ Announcing v.shape.slots 0 false) (sym between) one.4.0)
    (meetings_looked maps a c.args.cell u fs met)
    c.retract.ensures.step

pub retract-requires-clause-pass : goal.retract-requires-clause-pass
retract-requires-clause-pass g c = let r = c.in-Err.ensures.refuses in let after = c.pass-2-1.given.1 (sym r.0) in let ready = c.in-Err.ensures.ready in
    λ _. subst (λ p. IsPassOf c.args.hall.now p) (sym after) (subst (λ h. IsPassOf h.now c.wait_until-2.new.attempt.pass.now) r.1 ready.0)

pub returns-in_err-wait_until-clause-clear : goal.returns-in_err-wait_until-clause-clear
returns-in_err-wait_until-clause-clear g c = let late = c.in_err-wait_until.field-0.0 in let r = c.in_err-wait_until.ensures.refuses.3 in let v = view c.args.pass.now in let w = view c.wait_until.new.attempt.pass.now in
    let clear = none_pending_same v w (writers_looked maps v c.args.cell w (late.fault ∷ r.0) r.1).standings in search rules

pub returns-in-Ok-clause-clear : goal.returns-in-Ok-clause-clear
returns-in-Ok-clause-clear g c = let first = c.in_ok-wait_until.ensures.gives in let last = c.in-Ok.ensures.gives in
    let between = c.pass-1.given.1 (sym first.0) in let after = c.pass-2-1.given.1 (sym last.0) in
    subst (λ p. HasNonePending (view c.args.pass.now) → HasNonePending (view p)) (sym after)
    (none_pending_at (view c.args.pass.now) (view c.wait_until-2.new.attempt.pass.now) c.args.cell (λ k ne. last.6.1 k ne ∙ ap (λ p. standing (view p) k) between ∙ first.4.1 k ne) (ap pending last.6.0))

pub returns-in-Err-clause-clear : goal.returns-in-Err-clause-clear
returns-in-Err-clause-clear g c = let one = c.in_ok-wait_until.ensures.gives in let r = c.in-Err.ensures.refuses in
    let between = c.pass-1.given.1 (sym one.0) in let after = c.pass-2-1.given.1 (sym r.0) in let a = view c.pass-1.given.0 in let u = view c.wait_until-2.new.attempt.pass.now in
    let looked = meetings_looked maps a c.args.cell u (c.in-Err.late.fault ∷ r.4.0) r.4.1 in
    none_pending_at (view c.args.pass.now) (view c.retract.new.pass) c.args.cell
    (λ k ne. c.retract.ensures.elsewhere k ne ∙ ap (λ p. standing (view p) k) after ∙ ap (λ l. slice_index_or l k Away) looked.standings ∙ ap (λ p. standing (view p) k) between ∙ one.4.1 k ne)
    (ap pending c.retract.ensures.away)
