use Rattle.std.proofs.Common.{◌≡◌, ◌+◌, ◌≤◌, take, sum_by, length, deque_len, deque_capacity}
use Rattle.hall.specs.Passes.{view, IsPassOf}
use Rattle.dist_mutex.specs.Passes.{IsAtRest, IsDistPassOf, dist_view}
use Rattle.query_rules.specs.Maps.{writes_of}
use Rattle.query_rules.specs.Ledger.{jobs_of}
use Rattle.server_run.specs.Crowd.{AllReady, AllRoomy}
use Rattle.server_run.specs.Rooms.{IsFirst, IsFirstOf}
use Rattle.server_run.proofs.seats.seat.Given as goal

-- the callers of this number and above have their passes
abbrev pub invariant-loop-replies : goal.invariant-loop-replies
invariant-loop-replies g l = record {
  count : (l.number ≡ length l.lists.items + 1) × (l.number + deque_len l.seated ≡ length l.callers);
  hall : IsPassOf l.hall l.pass × IsFirst l.number (sum_by writes_of (take l.number l.callers)) (view l.pass);
  dist : IsDistPassOf l.dist l.dist_pass × IsAtRest l.dist_pass × IsFirstOf l.number (sum_by jobs_of (take l.number l.callers)) (dist_view l.dist_pass);
  roomy : AllRoomy l.callers 1 l.lists.items;
  room : deque_len l.seated + length l.lists.items ≤ deque_capacity l.seated;
  ready : AllReady l.hall l.dist l.callers l.number l.seated.items;
}

abbrev pub decreases-loop-replies : goal.decreases-loop-replies
decreases-loop-replies g l = length l.lists.items
