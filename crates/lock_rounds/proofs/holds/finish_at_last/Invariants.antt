use Rattle.std.proofs.Common.{◌≡◌}
use Rattle.hall.specs.declared.view.Standing.TheVariants.{Announcing}
use Rattle.hall.specs.Passes.{view, IsPassOf, shape_of}
use Rattle.hall.specs.Slotting.{HasNonePending}
use Rattle.hall.specs.Views.{standing}
use Rattle.lock_rounds.proofs.holds.finish_at_last.Given as goal

-- all tries so far were refused, and the writer is announced as before
abbrev pub invariant-loop : goal.invariant-loop
invariant-loop g l = record {
  next : (goal.iterator-loop g).can_next l.iterator';
  goes_on : (goal.iterator-loop g).is_finite l.iterator';
  pass : IsPassOf l.hall l.pass;
  stands : standing (view l.pass) 0 ≡ Announcing (shape_of l.hall).slots 0 l.from_upgrade;
  clear : HasNonePending (view l.pass);
}
