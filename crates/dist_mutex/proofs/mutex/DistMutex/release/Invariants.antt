use Rattle.std.proofs.Common.{◌≡◌, ◌-◌, ◌≤◌}
use Rattle.waiter_chain.specs.Calls.{HasTurn, MayEnd}
use Rattle.combine_job.specs.Parcels.{Related}
use Rattle.dist_mutex.specs.Passes.{slots_of, dist_state, due_of, runs_of}
use Rattle.dist_mutex.proofs.Unlocking.{Going}
use Rattle.dist_mutex.proofs.mutex.DistMutex.release.Given as goal

abbrev pub invariant-loop-combined : goal.invariant-loop-combined
invariant-loop-combined g l = (l.pass.pass.seat.table_id ≡ l.fn.pass.pass.seat.table_id) × (l.pass.pass.seat.id ≡ l.fn.pass.pass.seat.id) × (l.combined ≤ l.limit)
    × HasTurn (slots_of l.self) l.turn (dist_state l.pass) × MayEnd (Related g.V.Room.rooms g.J.Job.means) (due_of l.pass) (runs_of l.pass) (dist_state l.pass)
    × Going (due_of l.fn.pass) (runs_of l.fn.pass) l.fn.turn l.combined (due_of l.pass) (runs_of l.pass) l.turn (dist_state l.fn.pass) (dist_state l.pass)

abbrev pub decreases-loop-combined : goal.decreases-loop-combined
decreases-loop-combined g l = l.limit - l.combined
