use Rattle.std.proofs.Common.{◌≡◌, ◌+◌, ◌-◌, ◌*◌, ◌≤◌, length}
use Rattle.hall.specs.Passes.{view, IsPassOf, shape_of}
use Rattle.hall.specs.Slotting.{HasNonePending}
use Rattle.acquire_many.specs.Met.{Takes}
use Rattle.acquire_many.specs.Took.{TookBelow}
use Rattle.acquire_many.specs.declared.guards.TheConstants.{MANY}
use Rattle.acquire_many.proofs.Counting.{below}
use Rattle.acquire_many.proofs.many.try_many.Given as goal

-- all wants with locks below `from` are held, and no others
abbrev pub invariant-loop-position : goal.invariant-loop-position
invariant-loop-position g l = record {
  pass : IsPassOf l.hall l.pass;
  clear : HasNonePending (view l.pass);
  room : length l.holds ≡ MANY;
  took : TookBelow g.C.CargoRule (Takes g.C.CargoRule) l.wants (shape_of l.hall) l.from (view l.fn.pass) l.holds (view l.pass);
  steps : length (view l.pass).steps ≤ length (view l.fn.pass).steps + (2 * (shape_of l.hall).slots + 6) * below l.wants l.from;
}

abbrev pub decreases-loop-position : goal.decreases-loop-position
decreases-loop-position g l = (shape_of l.hall).locks - l.from
