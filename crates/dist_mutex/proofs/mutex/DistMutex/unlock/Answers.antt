use Rattle.std.proofs.Common.{ℕ, [], Some, None, ap, subst, arith}
use Rattle.atomic_table.specs.Table.{rest}
use Rattle.waiter_chain.proofs.Hands.{owner_front, owner_put}
use Rattle.combine_job.specs.Parcels.{Related}
use Rattle.combine_job.specs.declared.parcel.Parcel.TheVariants.{Value}
use Rattle.dist_mutex.specs.Unlocks.{Unlocks}
use Rattle.dist_mutex.proofs.Hands.{ended_at}
use Rattle.dist_mutex.proofs.Unlocking.{went_from, spends}
use Rattle.dist_mutex.proofs.mutex.DistMutex.unlock.Goals as goal

pub move_slot-empty-requires-clause-held : goal.move_slot-empty-requires-clause-held
move_slot-empty-requires-clause-held g c =
    let w = c.requires.owner in let m = c.args.pass.now.pass.seat.me in
    ([], rest m.1, None, w.owns.4, owner_front c.args.self.now.chain.table.shared.table_id.slots c.args.owner.turn None m w.notes w.owns)

pub release-requires-clause-turn : goal.release-requires-clause-turn
release-requires-clause-turn g c =
    let w = c.requires.owner in let m = c.args.pass.now.pass.seat.me in let slots = c.args.self.now.chain.table.shared.table_id.slots in
    let e = (c.move_slot-empty.ensures.moved [] (rest m.1) None w.owns.4 (owner_front slots c.args.owner.turn None m w.notes w.owns)).1 in
    (_, w.notes, owner_put slots c.args.owner.turn None (Some (Value c.args.owner.kept)) m c.move_slot-empty.new.pass.seat.me w.notes w.owns e)

pub release-requires-clause-ends : goal.release-requires-clause-ends
release-requires-clause-ends g c =
    let w = c.requires.owner in let m = c.args.pass.now.pass.seat.me in let slots = c.args.self.now.chain.table.shared.table_id.slots in
    let e = (c.move_slot-empty.ensures.moved [] (rest m.1) None w.owns.4 (owner_front slots c.args.owner.turn None m w.notes w.owns)).1 in
    ended_at (Related g.V.Room.rooms g.J.Job.means) slots c.args.pass.now.runs.count c.args.pass.now.runs.log.items c.args.owner.turn None (Value c.args.owner.kept) m c.move_slot-empty.new.pass.seat.me w.notes w.owns e (omega (arith, c.args.pass.now.few, c.args.pass.now.pass.same.2)) w.paid w.runs

pub returns-clause-spent : goal.returns-clause-spent
returns-clause-spent g c =
    let w = c.requires.owner in let m = c.args.pass.now.pass.seat.me in let slots = c.args.self.now.chain.table.shared.table_id.slots in
    let e = (c.move_slot-empty.ensures.moved [] (rest m.1) None w.owns.4 (owner_front slots c.args.owner.turn None m w.notes w.owns)).1 in
    let r = c.release.ensures.released in let l = c.move_slot-empty.new.pass.seat.me in let n = c.release.new.pass.pass.seat.me in let own = c.args.pass.now.runs in let limit : ℕ = c.args.self.now.chain.combine in let x = c.release.result in
    let here = ap (λ z. z.0) e in
    let went = went_from own.count own.log.items r.0 m l n here r.1 in
    let steps = subst (λ v. Unlocks v.number limit c.args.owner.turn x.combined r.0 x.next) here r.2 in
    spends limit own.count own.log.items c.args.owner.turn x.combined x.next m n c.release.ensures.idle (r.0, went, steps)

pub returns-clause-released : goal.returns-clause-released
returns-clause-released g c =
    let w = c.requires.owner in let m = c.args.pass.now.pass.seat.me in let slots = c.args.self.now.chain.table.shared.table_id.slots in
    let e = (c.move_slot-empty.ensures.moved [] (rest m.1) None w.owns.4 (owner_front slots c.args.owner.turn None m w.notes w.owns)).1 in
    let r = c.release.ensures.released in let l = c.move_slot-empty.new.pass.seat.me in let n = c.release.new.pass.pass.seat.me in let own = c.args.pass.now.runs in let limit : ℕ = c.args.self.now.chain.combine in let x = c.release.result in
    let here = ap (λ z. z.0) e in
    let went = went_from own.count own.log.items r.0 m l n here r.1 in
    let steps = subst (λ v. Unlocks v.number limit c.args.owner.turn x.combined r.0 x.next) here r.2 in
    (r.0, went.steps, steps)

pub invariant_of-pass : goal.invariant_of-pass
invariant_of-pass g c =
    let w = c.requires.owner in let m = c.args.pass.now.pass.seat.me in let slots = c.args.self.now.chain.table.shared.table_id.slots in
    let e = (c.move_slot-empty.ensures.moved [] (rest m.1) None w.owns.4 (owner_front slots c.args.owner.turn None m w.notes w.owns)).1 in
    record { few = omega (arith, c.args.pass.now.few, c.args.pass.now.pass.same.2, c.move_slot-empty.new.pass.same.2, ap (λ z. z.0.quota) e) }
