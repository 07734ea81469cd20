use Rattle.std.specs.Prelude.{◌*◌}
use Rattle.hall.specs.Passes.{view, IsPassOf}
use Rattle.hall.specs.Slotting.{HasNonePending}
use Rattle.shared_mutex.specs.Acquiring.{MadeAtMost}
use Rattle.acquire_many.specs.Took.{GaveFirst}
use Rattle.acquire_many.proofs.many.give_all_back.Given as goal

-- those at the positions so far were given back
abbrev pub invariant-loop-position : goal.invariant-loop-position
invariant-loop-position g l = record {
  pass : IsPassOf l.hall l.pass;
  clear : HasNonePending (view l.fn.pass) → HasNonePending (view l.pass);
  gave : GaveFirst g.C.CargoRule l.holds (view l.fn.pass) l.position (view l.pass);
  steps : MadeAtMost (view l.fn.pass) (view l.pass) (2 * l.position);
}
