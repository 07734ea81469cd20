use Rattle.std.proofs.Common.{◌≡◌, ◌+◌, ◌-◌, ◌≤◌}
use Rattle.dist_mutex.specs.Passes.{IsDistPassOf, IsAtRest, dist_view}
use Rattle.dist_mutex.proofs.crowd.serve.Given as goal

abbrev pub invariant-loop-round : goal.invariant-loop-round
invariant-loop-round g l = IsDistPassOf l.shop l.clerk.hand × IsAtRest l.clerk.hand × (l.round ≤ l.rounds) × (l.rounds ≤ (dist_view l.clerk.hand).quota + l.round)

abbrev pub decreases-loop-round : goal.decreases-loop-round
decreases-loop-round g l = l.rounds - l.round
