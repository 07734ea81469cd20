use Rattle.std.proofs.Common.{[], length, Some, sym, ap, ◌∙◌, arith}
use Rattle.dist_mutex.proofs.Finds.{stands, locks, some_inside}
use Rattle.combine_job.proofs.Posting.{stands_front, is_there}
use Rattle.dist_mutex.proofs.mutex.DistMutex.take.Goals as goal

pub move_slot-parcel-requires-clause-held : goal.move_slot-parcel-requires-clause-held
move_slot-parcel-requires-clause-held g c = let w = c.requires.won.2 in ([], [], Some w.0, ap (λ z. z.1) w.1, stands_front _ [] (omega arith))

pub unwrap-requires : goal.unwrap-requires
unwrap-requires g c = let w = c.requires.won.2 in is_there _ w.0 (c.move_slot-parcel.ensures.moved [] [] (Some w.0) (ap (λ z. z.1) w.1) (stands_front _ [] (omega arith))).0

pub into_kept-kept-requires : goal.into_kept-kept-requires
into_kept-kept-requires g c =
    let w = c.requires.won.2 in let s = stands g.V.Room.rooms g.J.Job.means g.J.Job.is_ready c.args.self.now.chain.table.shared.key w.0 _ _ _ w.3 in
    (s.0, some_inside _ _ (sym c.unwrap.ensures ∙ (c.move_slot-parcel.ensures.moved [] [] (Some w.0) (ap (λ z. z.1) w.1) (stands_front _ [] (omega arith))).0) ∙ s.1)

pub returns-clause-runs : goal.returns-clause-runs
returns-clause-runs g c = (c.requires.runs, omega (arith, c.args.pass.now.runs.counted, ap length c.requires.runs))

pub returns-clause-locked : goal.returns-clause-locked
returns-clause-locked g c m e w =
    let moved = c.move_slot-parcel.ensures.moved [] [] (Some w.0) (ap (λ z. z.1) w.1) (stands_front _ [] (omega arith)) in
    locks g.V.Room.rooms g.J.Job.means g.J.Job.is_ready c.args.self.now.chain.table.shared.key _ c.args.turn m c.args.pass.now.pass.seat.me c.move_slot-parcel.new.pass.seat.me e c.into_kept-kept.result w
    (sym (some_inside _ _ (sym c.unwrap.ensures ∙ moved.0)) ∙ c.into_kept-kept.ensures) moved.1
