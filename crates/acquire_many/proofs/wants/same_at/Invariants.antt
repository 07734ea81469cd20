use Rattle.std.proofs.Common.{◌<◌}
use Rattle.acquire_many.specs.Wants.{StandsBefore}
use Rattle.acquire_many.proofs.wants.same_at.Given as goal

-- no lock of the wants that were looked at stands earlier
abbrev pub invariant-loop-position : goal.invariant-loop-position
invariant-loop-position l = (i : _) → i < l.position → StandsBefore l.wants i → ⊥
