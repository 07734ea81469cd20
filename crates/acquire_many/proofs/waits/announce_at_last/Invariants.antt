use Rattle.std.proofs.Common.{◌≡◌, List}
use Rattle.hall.specs.declared.guards.TryFault.{TryFault}
use Rattle.hall.specs.declared.view.Standing.TheVariants.{Away}
use Rattle.hall.specs.Passes.{view, IsPassOf}
use Rattle.hall.specs.Views.{standing}
use Rattle.shared_mutex.specs.Acquiring.{ElsewhereSame}
use Rattle.shared_mutex.specs.Tries.{WritersRefused}
use Rattle.acquire_many.proofs.waits.announce_at_last.Given as goal

-- all tries so far were refused, and only looked
abbrev pub invariant-loop : goal.invariant-loop
invariant-loop g l = record {
  next : (goal.iterator-loop g).can_next l.iterator';
  goes_on : (goal.iterator-loop g).is_finite l.iterator';
  pass : IsPassOf l.hall l.pass;
  stands : standing (view l.pass) l.lock ≡ Away;
  elsewhere : ElsewhereSame (view l.fn.pass) (view l.pass) l.lock;
  refused : (faults : List TryFault) × WritersRefused g.C.CargoRule l.lock (view l.fn.pass) faults (view l.pass);
}
