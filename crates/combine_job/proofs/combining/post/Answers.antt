use Rattle.std.proofs.Common.{ℕ, ◌+◌, ◌*◌, [], Some, refl, ap, subst}
use Rattle.waiter_chain.specs.Calls.{ArrivedAs}
use Rattle.waiter_chain.specs.declared.turn.Kind.TheVariants.{WithJob}
use Rattle.combine_job.specs.declared.parcel.Parcel.TheVariants.{Posted}
use Rattle.combine_job.specs.Parcels.{IsJob, Ruled}
use Rattle.combine_job.proofs.Posting.{alone, stands_alone, held_told, may_enter}
use Rattle.combine_job.proofs.combining.post.Goals as goal

pub move_slot-empty-requires-clause-held : goal.move_slot-empty-requires-clause-held
move_slot-empty-requires-clause-held g c = let h = c.hold.ensures.held in
    ([], [], h.1, alone _ (1 + 2 * c.args.pass.now.seat.me.0.number) h.1 c.hold.new.pass.seat.me.1 (ap (λ (y : ℕ). 1 + 2 * y) c.number.ensures) (ap (λ z. z.1) h.2), stands_alone _ _)

pub arrive-requires-clause-enters : goal.arrive-requires-clause-enters
arrive-requires-clause-enters g c = let h = c.hold.ensures.held in let m = c.args.pass.now.seat.me in
    let hand = alone _ (1 + 2 * m.0.number) h.1 c.hold.new.pass.seat.me.1 (ap (λ (y : ℕ). 1 + 2 * y) c.number.ensures) (ap (λ z. z.1) h.2) in
    let e = held_told h.0 _ h.1 (Some (Posted c.args.job)) m c.hold.new.pass.seat.me c.move_slot-empty.new.pass.seat.me (ap (λ (y : ℕ). 1 + 2 * y) c.number.ensures) h.2 (c.move_slot-empty.ensures.moved [] [] h.1 hand (stands_alone _ _)).1 in
    may_enter (IsJob g.J.Job.is_ready) h.0 (Posted c.args.job) m c.move_slot-empty.new.pass.seat.me e (c.args.job, refl, c.requires.ready) c.requires.quota

pub returns-clause-answer : goal.returns-clause-answer
returns-clause-answer g c = let h = c.hold.ensures.held in let m = c.args.pass.now.seat.me in
    let hand = alone _ (1 + 2 * m.0.number) h.1 c.hold.new.pass.seat.me.1 (ap (λ (y : ℕ). 1 + 2 * y) c.number.ensures) (ap (λ z. z.1) h.2) in
    let e = held_told h.0 _ h.1 (Some (Posted c.args.job)) m c.hold.new.pass.seat.me c.move_slot-empty.new.pass.seat.me (ap (λ (y : ℕ). 1 + 2 * y) c.number.ensures) h.2 (c.move_slot-empty.ensures.moved [] [] h.1 hand (stands_alone _ _)).1 in
    (h.0, subst (λ z. ArrivedAs (Ruled g.V.Room.rooms g.J.Job.means g.J.Job.is_ready c.args.chain.now.table.shared.key) c.args.chain.now.table.shared.table_id.slots WithJob c.arrive.new.pass.behind z c.arrive.new.pass.seat.me c.arrive.result) e c.arrive.ensures.answer)
