use Rattle.std.proofs.Common.{◌≡◌}
use Rattle.hall.specs.declared.view.Standing.TheVariants.{Upgrade}
use Rattle.hall.specs.Passes.{view, IsPassOf}
use Rattle.hall.specs.Slotting.{HasNonePending}
use Rattle.hall.specs.Views.{standing}
use Rattle.lock_rounds.proofs.holds.begin_at_last.Given as goal

-- all tries so far were refused, and the pass holds upgrade as before
abbrev pub invariant-loop : goal.invariant-loop
invariant-loop g l = record {
  next : (goal.iterator-loop g).can_next l.iterator';
  goes_on : (goal.iterator-loop g).is_finite l.iterator';
  pass : IsPassOf l.hall l.pass;
  stands : standing (view l.pass) 0 ≡ Upgrade;
  clear : HasNonePending (view l.pass);
}
