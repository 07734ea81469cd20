use Rattle.std.proofs.Common.{◌≡◌, List, false}
use Rattle.hall.specs.declared.guards.TryFault.{TryFault}
use Rattle.hall.specs.declared.view.Standing.TheVariants.{Announcing}
use Rattle.hall.specs.Passes.{view, IsPassOf, shape_of}
use Rattle.hall.specs.Views.{standing}
use Rattle.shared_mutex.specs.Acquiring.{ElsewhereSame}
use Rattle.shared_mutex.specs.Tries.{ReadersMet}
use Rattle.acquire_many.proofs.waits.finish_at_last.Given as goal

-- all tries so far were refused, and only looked
abbrev pub invariant-loop : goal.invariant-loop
invariant-loop g l = record {
  next : (goal.iterator-loop g).can_next l.iterator';
  goes_on : (goal.iterator-loop g).is_finite l.iterator';
  pass : IsPassOf l.hall l.pass;
  stands : standing (view l.pass) l.lock ≡ Announcing (shape_of l.hall).slots 0 false;
  elsewhere : ElsewhereSame (view l.fn.pass) (view l.pass) l.lock;
  refused : (faults : List TryFault) × ReadersMet g.C.CargoRule l.lock (view l.fn.pass) faults (view l.pass);
}
