use Rattle.std.proofs.Common.{◌≡◌, ℕ, ◌+◌, ◌-◌, ◌*◌, List, [], Some, None, refl, sym, ap, ◌∙◌, subst, arith}
use Rattle.atomic_table.specs.Table.{rest}
use Rattle.waiter_chain.specs.Calls.{MayEnd}
use Rattle.waiter_chain.proofs.Hands.{owner_front, owner_put}
use Rattle.combine_job.specs.Parcels.{Related}
use Rattle.combine_job.specs.Combining.{MayRun}
use Rattle.combine_job.specs.declared.parcel.Parcel.TheVariants.{Value}
use Rattle.combine_job.proofs.Posting.{inside, is_there, front_held, front_moved}
use Rattle.combine_job.proofs.Finding.{may_run, has_value}
use Rattle.combine_job.proofs.tests.run_found.Goals as goal

pub move_slot-value-requires-clause-held : goal.move_slot-value-requires-clause-held
move_slot-value-requires-clause-held g c = let d = c.requires.found in let m0 = c.args.pass.now.seat.me in
    front_held d.notes.mine (c.args.turn.first - 2) d.own m0.0 d.mine d.apart (Some d.now) d.answer (Some d.job) m0 (ap (λ z. (m0.0, z)) d.hand)

pub unwrap-requires : goal.unwrap-requires
unwrap-requires g c = let d = c.requires.found in let m0 = c.args.pass.now.seat.me in
    let v = front_moved d.notes.mine (c.args.turn.first - 2) d.own m0.0 d.mine d.apart (Some d.now) d.answer (Some d.job) None c.move_slot-value.result m0 c.move_slot-value.new.pass.seat.me (ap (λ z. (m0.0, z)) d.hand) c.move_slot-value.ensures.moved in
    is_there _ d.now v.0

pub into_kept-kept-requires : goal.into_kept-kept-requires
into_kept-kept-requires g c = let d = c.requires.found in let m0 = c.args.pass.now.seat.me in
    let v = front_moved d.notes.mine (c.args.turn.first - 2) d.own m0.0 d.mine d.apart (Some d.now) d.answer (Some d.job) None c.move_slot-value.result m0 c.move_slot-value.new.pass.seat.me (ap (λ z. (m0.0, z)) d.hand) c.move_slot-value.ensures.moved in
    let r = d.sound.1 in (r.now, inside c.unwrap.result d.now (sym c.unwrap.ensures ∙ v.0) ∙ sym d.runs ∙ sym d.sound.2 ∙ r.is)

pub run_posted-kept-requires-clause-taken : goal.run_posted-kept-requires-clause-taken
run_posted-kept-requires-clause-taken g c = let d = c.requires.found in let m0 = c.args.pass.now.seat.me in
    let v = front_moved d.notes.mine (c.args.turn.first - 2) d.own m0.0 d.mine d.apart (Some d.now) d.answer (Some d.job) None c.move_slot-value.result m0 c.move_slot-value.new.pass.seat.me (ap (λ z. (m0.0, z)) d.hand) c.move_slot-value.ensures.moved in
    let is : d.now ≡ Value c.into_kept-kept.result = sym (inside c.unwrap.result d.now (sym c.unwrap.ensures ∙ v.0)) ∙ c.into_kept-kept.ensures in
    let slots : ℕ = c.args.chain.now.table.shared.table_id.slots in
    subst (λ (x : ℕ × List _). MayRun g.V.Room.rooms g.J.Job.means g.J.Job.is_ready slots x.0 x.1 c.args.turn c.args.link c.into_kept-kept.result c.move_slot-value.new.pass.seat.me) (λ i. (sym c.new-none.ensures.1 i, sym c.new-none.ensures.0 i))
    (may_run g.V.Room.rooms g.J.Job.means g.J.Job.is_ready c.args.chain.now.table.shared.key slots 0 [] c.args.turn c.args.link c.into_kept-kept.result m0 c.move_slot-value.new.pass.seat.me d (omega (arith, c.args.chain.now.sized.1, c.args.chain.now.sized.3)) (omega (arith, c.args.pass.now.low, c.args.pass.now.same.0, ap (λ z. z.slots) c.requires.own, c.args.chain.now.sized.1, c.args.chain.now.sized.3)) is v.1).0

pub run_posted-kept-requires-clause-room : goal.run_posted-kept-requires-clause-room
run_posted-kept-requires-clause-room g c = let d = c.requires.found in let m0 = c.args.pass.now.seat.me in
    let v = front_moved d.notes.mine (c.args.turn.first - 2) d.own m0.0 d.mine d.apart (Some d.now) d.answer (Some d.job) None c.move_slot-value.result m0 c.move_slot-value.new.pass.seat.me (ap (λ z. (m0.0, z)) d.hand) c.move_slot-value.ensures.moved in
    let is : d.now ≡ Value c.into_kept-kept.result = sym (inside c.unwrap.result d.now (sym c.unwrap.ensures ∙ v.0)) ∙ c.into_kept-kept.ensures in
    (may_run g.V.Room.rooms g.J.Job.means g.J.Job.is_ready c.args.chain.now.table.shared.key c.args.chain.now.table.shared.table_id.slots 0 [] c.args.turn c.args.link c.into_kept-kept.result m0 c.move_slot-value.new.pass.seat.me d (omega (arith, c.args.chain.now.sized.1, c.args.chain.now.sized.3)) (omega (arith, c.args.pass.now.low, c.args.pass.now.same.0, ap (λ z. z.slots) c.requires.own, c.args.chain.now.sized.1, c.args.chain.now.sized.3)) is v.1).1

pub run_posted-kept-requires-clause-count : goal.run_posted-kept-requires-clause-count
run_posted-kept-requires-clause-count g c = let d = c.requires.found in let m0 = c.args.pass.now.seat.me in
    let v = front_moved d.notes.mine (c.args.turn.first - 2) d.own m0.0 d.mine d.apart (Some d.now) d.answer (Some d.job) None c.move_slot-value.result m0 c.move_slot-value.new.pass.seat.me (ap (λ z. (m0.0, z)) d.hand) c.move_slot-value.ensures.moved in
    let is : d.now ≡ Value c.into_kept-kept.result = sym (inside c.unwrap.result d.now (sym c.unwrap.ensures ∙ v.0)) ∙ c.into_kept-kept.ensures in
    (may_run g.V.Room.rooms g.J.Job.means g.J.Job.is_ready c.args.chain.now.table.shared.key c.args.chain.now.table.shared.table_id.slots 0 [] c.args.turn c.args.link c.into_kept-kept.result m0 c.move_slot-value.new.pass.seat.me d (omega (arith, c.args.chain.now.sized.1, c.args.chain.now.sized.3)) (omega (arith, c.args.pass.now.low, c.args.pass.now.same.0, ap (λ z. z.slots) c.requires.own, c.args.chain.now.sized.1, c.args.chain.now.sized.3)) is v.1).2

pub move_slot-empty-requires-clause-held : goal.move_slot-empty-requires-clause-held
move_slot-empty-requires-clause-held g c = let h = has_value g.V.Room.rooms g.J.Job.means _ _ _ c.args.turn c.args.link c.into_kept-kept.result c.move_slot-value.new.pass.seat.me c.run_posted-kept.new.pass.seat.me _ _ c.run_posted-kept.ensures.ran in
    let m = c.run_posted-kept.new.pass.seat.me in
    ([], rest m.1, None, h.1.4, owner_front c.args.chain.now.table.shared.table_id.slots c.run_posted-kept.result.0 None m h.0 h.1)

pub returns-clause-turn : goal.returns-clause-turn
returns-clause-turn g c = let h = has_value g.V.Room.rooms g.J.Job.means _ _ _ c.args.turn c.args.link c.into_kept-kept.result c.move_slot-value.new.pass.seat.me c.run_posted-kept.new.pass.seat.me _ _ c.run_posted-kept.ensures.ran in
    let m = c.run_posted-kept.new.pass.seat.me in let slots = c.args.chain.now.table.shared.table_id.slots in
    let e = (c.move_slot-empty.ensures.moved [] (rest m.1) None h.1.4 (owner_front slots c.run_posted-kept.result.0 None m h.0 h.1)).1 in
    (_, h.0, owner_put slots c.run_posted-kept.result.0 None (Some (Value c.run_posted-kept.result.1)) m c.move_slot-empty.new.pass.seat.me h.0 h.1 e)

pub returns-clause-ends : goal.returns-clause-ends
returns-clause-ends g c = let h = has_value g.V.Room.rooms g.J.Job.means _ _ _ c.args.turn c.args.link c.into_kept-kept.result c.move_slot-value.new.pass.seat.me c.run_posted-kept.new.pass.seat.me _ _ c.run_posted-kept.ensures.ran in
    let m = c.run_posted-kept.new.pass.seat.me in let slots = c.args.chain.now.table.shared.table_id.slots in
    let e = (c.move_slot-empty.ensures.moved [] (rest m.1) None h.1.4 (owner_front slots c.run_posted-kept.result.0 None m h.0 h.1)).1 in
    subst (MayEnd (Related g.V.Room.rooms g.J.Job.means) 0 []) (sym e) (h.0, Value c.run_posted-kept.result.1, h.1.0, refl, omega arith, h.3, h.2)
