use Rattle.std.proofs.Common.{◌≡◌, ◌+◌, ◌≤◌, length, map, vec_len, vec_capacity}
use Rattle.hall.specs.Passes.{view, IsPassOf}
use Rattle.map_cargo.specs.Steps.{IsIdle}
use Rattle.dist_mutex.specs.Passes.{IsAtRest, IsDistPassOf, dist_view}
use Rattle.run_laws.specs.Callers.{IsTaken}
use Rattle.server_run.specs.Crowd.{AllDone}
use Rattle.server_run.proofs.seats.gather.Given as goal

-- the callers below this number are taken in
abbrev pub invariant-loop-caller : goal.invariant-loop-caller
invariant-loop-caller g l = record {
  own : IsPassOf l.hall l.pass × IsIdle (view l.pass) × IsDistPassOf l.dist l.dist_pass × IsAtRest l.dist_pass;
  taken : IsTaken (view l.pass) (dist_view l.dist_pass) l.callers (map (λ v. v.items) l.told.items);
  done : AllDone l.hall l.dist l.callers (vec_len l.told) l.seated.items;
  len : vec_len l.told + length l.seated.items ≡ length l.callers;
  room : length l.callers ≤ vec_capacity l.told;
}

abbrev pub decreases-loop-caller : goal.decreases-loop-caller
decreases-loop-caller g l = length l.seated.items
