use Rattle.std.proofs.Common.{◌≡◌, ℕ, ◌+◌, ◌*◌, [], Some, refl, sym, ap, ◌∙◌}
use Rattle.waiter_chain.specs.declared.view.Stage.TheVariants.{Behind}
use Rattle.waiter_chain.proofs.Turns.{same_first}
use Rattle.combine_job.specs.declared.parcel.Parcel.TheVariants.{Posted}
use Rattle.combine_job.specs.Parcels.{IsJob}
use Rattle.combine_job.proofs.Posting.{inside, alone, stands_alone, held_told, may_enter}
use Rattle.dist_mutex.proofs.tests.enter_with.Goals as goal

pub move_slot-empty-requires-clause-held : goal.move_slot-empty-requires-clause-held
move_slot-empty-requires-clause-held g c = let h = c.hold.ensures.held in
    ([], [], h.1, alone _ (1 + 2 * c.args.clerk.now.pass.seat.me.0.number) h.1 c.hold.new.pass.seat.me.1 (ap (λ (y : ℕ). 1 + 2 * y) c.number.ensures) (ap (λ z. z.1) h.2), stands_alone _ _)

pub enter-requires-clause-enters : goal.enter-requires-clause-enters
enter-requires-clause-enters g c = let h = c.hold.ensures.held in let m = c.args.clerk.now.pass.seat.me in
    let hand = alone _ (1 + 2 * m.0.number) h.1 c.hold.new.pass.seat.me.1 (ap (λ (y : ℕ). 1 + 2 * y) c.number.ensures) (ap (λ z. z.1) h.2) in
    let e = held_told h.0 _ h.1 (Some (Posted c.args.job)) m c.hold.new.pass.seat.me c.move_slot-empty.new.pass.seat.me (ap (λ (y : ℕ). 1 + 2 * y) c.number.ensures) h.2 (c.move_slot-empty.ensures.moved [] [] h.1 hand (stands_alone _ _)).1 in
    may_enter (IsJob g.J.Job.is_ready) h.0 (Posted c.args.job) m c.move_slot-empty.new.pass.seat.me e (c.args.job, refl, c.requires.ready) c.requires.quota

pub returns-clause-waits : goal.returns-clause-waits
returns-clause-waits g c = let h = c.hold.ensures.held in let m = c.args.clerk.now.pass.seat.me in let y = c.in-Behind.ensures.answer.1 in
    let hand = alone _ (1 + 2 * m.0.number) h.1 c.hold.new.pass.seat.me.1 (ap (λ (y : ℕ). 1 + 2 * y) c.number.ensures) (ap (λ z. z.1) h.2) in
    let e = held_told h.0 _ h.1 (Some (Posted c.args.job)) m c.hold.new.pass.seat.me c.move_slot-empty.new.pass.seat.me (ap (λ (y : ℕ). 1 + 2 * y) c.number.ensures) h.2 (c.move_slot-empty.ensures.moved [] [] h.1 hand (stands_alone _ _)).1 in
    let same : y.0 ≡ Posted c.args.job = inside y.0 (Posted c.args.job) (same_first _ _ (Some y.0) (Some (Posted c.args.job)) [] [] (sym y.1 ∙ ap (λ z. z.1) e)) in
    (ap (λ z. z.0.stage) y.2 ∙ ap (λ z. Behind c.enter.new.pass.behind (Some z)) same, ap (λ z. z.1) y.2)
