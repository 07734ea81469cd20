use Rattle.std.proofs.Common.{◌≡◌, ℕ, []}
use Rattle.dist_mutex.specs.Owners.{polled_as}
use Rattle.dist_mutex.proofs.mutex.DistMutex.await_answer.Given as goal

abbrev pub invariant-loop : goal.invariant-loop
invariant-loop g l =
    (goal.iterator-loop g).can_next l.iterator' × (goal.iterator-loop g).is_finite l.iterator'
    × (l.pass.pass.seat.table_id ≡ l.fn.pass.pass.seat.table_id) × (l.pass.pass.seat.id ≡ l.fn.pass.pass.seat.id)
    × ((l.pass.runs.log.items ≡ []) × (l.pass.runs.count ≡ 0)) × (l.pass.pass.behind ≡ l.fn.pass.pass.behind)
    × ((k : ℕ) × (l.pass.pass.seat.me ≡ polled_as 2 k l.fn.pass.pass.seat.me))
