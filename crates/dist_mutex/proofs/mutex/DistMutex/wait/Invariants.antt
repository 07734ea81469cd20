use Rattle.std.proofs.Common.{◌≡◌, ℕ, []}
use Rattle.dist_mutex.specs.Owners.{polled_state}
use Rattle.dist_mutex.proofs.mutex.DistMutex.wait.Given as goal

abbrev pub invariant-loop : goal.invariant-loop
invariant-loop g l =
    (goal.iterator-loop g).can_next l.iterator' × (goal.iterator-loop g).is_finite l.iterator'
    × (l.pass.pass.seat.table_id ≡ l.fn.pass.pass.seat.table_id) × (l.pass.pass.seat.id ≡ l.fn.pass.pass.seat.id)
    × (l.pass.runs.log.items ≡ []) × (l.pass.pass.behind ≡ l.fn.pass.pass.behind)
    × ((k : ℕ) × (l.pass.pass.seat.me ≡ polled_state k l.fn.pass.pass.seat.me))
