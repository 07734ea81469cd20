use Rattle.std.proofs.Common.{◌<◌, ◌≤◌, MatchOption}
use Rattle.acquire_many.specs.Wants.{lock_at}
use Rattle.acquire_many.proofs.wants.next_want.Given as goal

-- `least` is the least of the wants that were looked at
abbrev pub invariant-loop-position : goal.invariant-loop-position
invariant-loop-position l = MatchOption l.least ((j : _) → j < l.position → lock_at l.wants j < l.from) (λ k. (k < l.position) × (l.from ≤ lock_at l.wants k) × ((j : _) → j < l.position → l.from ≤ lock_at l.wants j → lock_at l.wants k ≤ lock_at l.wants j))
