use Rattle.std.proofs.Common.{◌≡◌, ◌<◌}
use Rattle.acquire_many.specs.Wants.{lock_at}
use Rattle.acquire_many.proofs.wants.stands_before.Given as goal

-- none of the wants that were looked at has the lock
abbrev pub invariant-loop-earlier : goal.invariant-loop-earlier
invariant-loop-earlier l = (j : _) → j < l.earlier → lock_at l.wants j ≡ lock_at l.wants l.position → ⊥
