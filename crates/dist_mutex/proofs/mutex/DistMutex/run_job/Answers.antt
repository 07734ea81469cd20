use Rattle.std.proofs.Common.{◌≡◌, ℕ, ◌-◌, [], ◌∷◌, Some, None, refl, sym, ap, ◌∙◌, subst, arith}
use Rattle.atomic_table.specs.Table.{rest}
use Rattle.waiter_chain.specs.Calls.{MayEnd}
use Rattle.waiter_chain.proofs.Hands.{owner_front, owner_put}
use Rattle.combine_job.specs.declared.parcel.Parcel.TheVariants.{Value}
use Rattle.combine_job.specs.Parcels.{Related}
use Rattle.combine_job.proofs.Posting.{inside, is_there, front_held, front_moved}
use Rattle.combine_job.proofs.Finding.{may_run, has_value}
use Rattle.dist_mutex.specs.Unlocks.{serves}
use Rattle.dist_mutex.proofs.Unlocking.{went_from, went_to, went_as}
use Rattle.dist_mutex.proofs.Running.{now_kept, run_went}
use Rattle.dist_mutex.proofs.mutex.DistMutex.run_job.Goals as goal

pub move_slot-value-requires-clause-held : goal.move_slot-value-requires-clause-held
move_slot-value-requires-clause-held g c =
    let d = c.requires.taken in let m0 = c.args.pass.now.pass.seat.me in
    front_held d.notes.mine (c.args.turn.first - 2) d.own m0.0 d.mine d.apart (Some d.now) d.answer (Some d.job) m0 (ap (λ z. (m0.0, z)) d.hand)

pub unwrap-requires : goal.unwrap-requires
unwrap-requires g c =
    let d = c.requires.taken in let x : ℕ = c.args.turn.first - 2 in let m0 = c.args.pass.now.pass.seat.me in
    let v = front_moved d.notes.mine x d.own m0.0 d.mine d.apart (Some d.now) d.answer (Some d.job) None c.move_slot-value.result m0 c.move_slot-value.new.pass.seat.me (ap (λ z. (m0.0, z)) d.hand) c.move_slot-value.ensures.moved in
    is_there _ d.now v.0

pub into_kept-kept-requires : goal.into_kept-kept-requires
into_kept-kept-requires g c =
    let d = c.requires.taken in let x : ℕ = c.args.turn.first - 2 in let m0 = c.args.pass.now.pass.seat.me in
    let v = front_moved d.notes.mine x d.own m0.0 d.mine d.apart (Some d.now) d.answer (Some d.job) None c.move_slot-value.result m0 c.move_slot-value.new.pass.seat.me (ap (λ z. (m0.0, z)) d.hand) c.move_slot-value.ensures.moved in
    let k = now_kept g.V.Room.rooms g.J.Job.means g.J.Job.is_ready c.args.self.now.chain.table.shared.key c.args.self.now.chain.table.shared.table_id.slots c.args.pass.now.runs.count c.args.pass.now.runs.log.items c.args.turn c.args.link m0 d in (k.0, inside c.unwrap.result d.now (sym c.unwrap.ensures ∙ v.0) ∙ k.1)

pub run_posted-kept-requires-clause-taken : goal.run_posted-kept-requires-clause-taken
run_posted-kept-requires-clause-taken g c =
    let d = c.requires.taken in let x : ℕ = c.args.turn.first - 2 in let m0 = c.args.pass.now.pass.seat.me in
    let v = front_moved d.notes.mine x d.own m0.0 d.mine d.apart (Some d.now) d.answer (Some d.job) None c.move_slot-value.result m0 c.move_slot-value.new.pass.seat.me (ap (λ z. (m0.0, z)) d.hand) c.move_slot-value.ensures.moved in
    let is : d.now ≡ Value c.into_kept-kept.result = sym (inside c.unwrap.result d.now (sym c.unwrap.ensures ∙ v.0)) ∙ c.into_kept-kept.ensures in
    let runs = c.args.pass.now.runs in
    let may = may_run g.V.Room.rooms g.J.Job.means g.J.Job.is_ready c.args.self.now.chain.table.shared.key c.args.self.now.chain.table.shared.table_id.slots runs.count runs.log.items c.args.turn c.args.link c.into_kept-kept.result m0 c.move_slot-value.new.pass.seat.me d (omega (arith, c.args.self.now.chain.sized.1, c.args.self.now.chain.sized.3))
    (omega (arith, c.args.pass.now.pass.low, c.args.pass.now.pass.same.0, ap (λ z. z.slots) c.requires.own, c.args.self.now.chain.sized.1, c.args.self.now.chain.sized.3)) is v.1 in
    may.0

pub run_posted-kept-requires-clause-room : goal.run_posted-kept-requires-clause-room
run_posted-kept-requires-clause-room g c =
    let d = c.requires.taken in let x : ℕ = c.args.turn.first - 2 in let m0 = c.args.pass.now.pass.seat.me in
    let v = front_moved d.notes.mine x d.own m0.0 d.mine d.apart (Some d.now) d.answer (Some d.job) None c.move_slot-value.result m0 c.move_slot-value.new.pass.seat.me (ap (λ z. (m0.0, z)) d.hand) c.move_slot-value.ensures.moved in
    let is : d.now ≡ Value c.into_kept-kept.result = sym (inside c.unwrap.result d.now (sym c.unwrap.ensures ∙ v.0)) ∙ c.into_kept-kept.ensures in
    let runs = c.args.pass.now.runs in
    let may = may_run g.V.Room.rooms g.J.Job.means g.J.Job.is_ready c.args.self.now.chain.table.shared.key c.args.self.now.chain.table.shared.table_id.slots runs.count runs.log.items c.args.turn c.args.link c.into_kept-kept.result m0 c.move_slot-value.new.pass.seat.me d (omega (arith, c.args.self.now.chain.sized.1, c.args.self.now.chain.sized.3))
    (omega (arith, c.args.pass.now.pass.low, c.args.pass.now.pass.same.0, ap (λ z. z.slots) c.requires.own, c.args.self.now.chain.sized.1, c.args.self.now.chain.sized.3)) is v.1 in
    may.1

pub run_posted-kept-requires-clause-count : goal.run_posted-kept-requires-clause-count
run_posted-kept-requires-clause-count g c =
    let d = c.requires.taken in let x : ℕ = c.args.turn.first - 2 in let m0 = c.args.pass.now.pass.seat.me in
    let v = front_moved d.notes.mine x d.own m0.0 d.mine d.apart (Some d.now) d.answer (Some d.job) None c.move_slot-value.result m0 c.move_slot-value.new.pass.seat.me (ap (λ z. (m0.0, z)) d.hand) c.move_slot-value.ensures.moved in
    let is : d.now ≡ Value c.into_kept-kept.result = sym (inside c.unwrap.result d.now (sym c.unwrap.ensures ∙ v.0)) ∙ c.into_kept-kept.ensures in
    let runs = c.args.pass.now.runs in
    let may = may_run g.V.Room.rooms g.J.Job.means g.J.Job.is_ready c.args.self.now.chain.table.shared.key c.args.self.now.chain.table.shared.table_id.slots runs.count runs.log.items c.args.turn c.args.link c.into_kept-kept.result m0 c.move_slot-value.new.pass.seat.me d (omega (arith, c.args.self.now.chain.sized.1, c.args.self.now.chain.sized.3))
    (omega (arith, c.args.pass.now.pass.low, c.args.pass.now.pass.same.0, ap (λ z. z.slots) c.requires.own, c.args.self.now.chain.sized.1, c.args.self.now.chain.sized.3)) is v.1 in
    may.2

pub move_slot-empty-requires-clause-held : goal.move_slot-empty-requires-clause-held
move_slot-empty-requires-clause-held g c =
    let runs = c.args.pass.now.runs in let p = c.run_posted-kept in let n = p.new.pass.seat.me in let slots : ℕ = c.args.self.now.chain.table.shared.table_id.slots in
    let h = has_value g.V.Room.rooms g.J.Job.means slots runs.count runs.log.items c.args.turn c.args.link c.into_kept-kept.result c.move_slot-value.new.pass.seat.me n p.result.0 p.result.1 p.ensures.ran in
    ([], rest n.1, None, h.1.4, owner_front slots p.result.0 None n h.0 h.1)

pub returns-clause-turn : goal.returns-clause-turn
returns-clause-turn g c =
    let runs = c.args.pass.now.runs in let p = c.run_posted-kept in let n = p.new.pass.seat.me in let slots : ℕ = c.args.self.now.chain.table.shared.table_id.slots in
    let h = has_value g.V.Room.rooms g.J.Job.means slots runs.count runs.log.items c.args.turn c.args.link c.into_kept-kept.result c.move_slot-value.new.pass.seat.me n p.result.0 p.result.1 p.ensures.ran in
    let e = (c.move_slot-empty.ensures.moved [] (rest n.1) None h.1.4 (owner_front slots p.result.0 None n h.0 h.1)).1 in
    let s = p.ensures.ran.6 in ((Some (Value p.result.1), h.0, owner_put slots p.result.0 None (Some (Value p.result.1)) n c.move_slot-empty.new.pass.seat.me h.0 h.1 e), s.0, s.1, s.2)

pub returns-clause-ends : goal.returns-clause-ends
returns-clause-ends g c =
    let runs = c.args.pass.now.runs in let p = c.run_posted-kept in let n = p.new.pass.seat.me in let slots : ℕ = c.args.self.now.chain.table.shared.table_id.slots in
    let h = has_value g.V.Room.rooms g.J.Job.means slots runs.count runs.log.items c.args.turn c.args.link c.into_kept-kept.result c.move_slot-value.new.pass.seat.me n p.result.0 p.result.1 p.ensures.ran in
    let e = (c.move_slot-empty.ensures.moved [] (rest n.1) None h.1.4 (owner_front slots p.result.0 None n h.0 h.1)).1 in
    subst (MayEnd (Related g.V.Room.rooms g.J.Job.means) 0 []) (sym e) (h.0, Value p.result.1, h.1.0, refl, omega arith, h.3, h.2)

pub returns-clause-went : goal.returns-clause-went
returns-clause-went g c =
    let d = c.requires.taken in let x : ℕ = c.args.turn.first - 2 in let m0 = c.args.pass.now.pass.seat.me in
    let v = front_moved d.notes.mine x d.own m0.0 d.mine d.apart (Some d.now) d.answer (Some d.job) None c.move_slot-value.result m0 c.move_slot-value.new.pass.seat.me (ap (λ z. (m0.0, z)) d.hand) c.move_slot-value.ensures.moved in
    let runs = c.args.pass.now.runs in let p = c.run_posted-kept in let n = p.new.pass.seat.me in let slots : ℕ = c.args.self.now.chain.table.shared.table_id.slots in
    let h = has_value g.V.Room.rooms g.J.Job.means slots runs.count runs.log.items c.args.turn c.args.link c.into_kept-kept.result c.move_slot-value.new.pass.seat.me n p.result.0 p.result.1 p.ensures.ran in
    let e = (c.move_slot-empty.ensures.moved [] (rest n.1) None h.1.4 (owner_front slots p.result.0 None n h.0 h.1)).1 in
    let l = c.move_slot-value.new.pass.seat.me in let same = ap (λ z. z.0) v.1 in
    went_from runs.count runs.log.items _ m0 l c.move_slot-empty.new.pass.seat.me same
    (went_to runs.count runs.log.items _ l n c.move_slot-empty.new.pass.seat.me (ap (λ z. z.0) e)
    (went_as runs.count runs.log.items _ (serves m0.0.number x ∷ []) l n (ap (λ z. serves z.number x ∷ []) same)
    (run_went g.V.Room.rooms g.J.Job.means slots runs.count runs.log.items c.args.turn c.args.link c.into_kept-kept.result l n p.result.0 p.result.1 p.ensures.ran)))
