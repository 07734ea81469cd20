use Rattle.std.proofs.Common.{◌-◌, refl}
use Rattle.waiter_chain.specs.declared.turn.Kind.TheVariants as kind
use Rattle.waiter_chain.proofs.Hands.{still_ends, seen_turn}
use Rattle.combine_job.specs.Parcels.{Related}
use Rattle.combine_job.proofs.Finding.{seen_ends}
use Rattle.dist_mutex.proofs.Unlocking.{job_waits, hands_plain}
use Rattle.dist_mutex.proofs.mutex.DistMutex.find_job.Goals as goal

pub hand_on-requires-clause-turn : goal.hand_on-requires-clause-turn
hand_on-requires-clause-turn g c = let t = c.in-Waits.turn in let a = c.in-Waits.ensures.answer in (seen_turn c.args.self.now.chain.table.shared.table_id.slots (t.first - 2) t c.next.new.pass.seat.me c.kind_of.new.pass.seat.me kind.Plain a.2 c.in-Plain.ensures.kind, a.0)

pub hand_on-requires-clause-ends : goal.hand_on-requires-clause-ends
hand_on-requires-clause-ends g c =
    let t = c.in-Waits.turn in let runs = c.args.pass.now.runs in let relates = Related g.V.Room.rooms g.J.Job.means in
    seen_ends relates runs.count runs.log.items (t.first - 2) c.next.new.pass.seat.me c.kind_of.new.pass.seat.me kind.Plain
    (still_ends relates c.args.self.now.chain.table.shared.table_id.slots runs.count runs.log.items c.args.turn t c.in-Waits.node c.args.pass.now.pass.seat.me c.next.new.pass.seat.me c.in-Waits.ensures.answer c.requires.ends) c.in-Plain.ensures.kind

pub returns-in-WithJob-clause-found : goal.returns-in-WithJob-clause-found
returns-in-WithJob-clause-found g c =
    let runs = c.args.pass.now.runs in
    (refl, job_waits (Related g.V.Room.rooms g.J.Job.means) c.args.self.now.chain.table.shared.table_id.slots runs.count runs.log.items c.args.turn c.in-Waits.turn c.in-Waits.node c.args.pass.now.pass.seat.me c.next.new.pass.seat.me c.kind_of.new.pass.seat.me c.requires.turn c.requires.ends c.in-Waits.ensures.answer c.in-WithJob.ensures.kind)

pub returns-in-Plain-clause-found : goal.returns-in-Plain-clause-found
returns-in-Plain-clause-found g c =
    let runs = c.args.pass.now.runs in
    (c.hand_on.ensures.runs, hands_plain c.args.self.now.chain.table.shared.table_id.slots runs.count runs.log.items c.args.turn c.in-Waits.turn c.in-Waits.node c.args.pass.now.pass.seat.me c.next.new.pass.seat.me c.kind_of.new.pass.seat.me c.hand_on.new.pass.pass.seat.me c.requires.turn c.in-Waits.ensures.answer c.in-Plain.ensures.kind c.hand_on.ensures.idle c.hand_on.ensures.went)
