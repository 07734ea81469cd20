use Rattle.std.proofs.Common.{◌≡◌, false}
use Rattle.hall.specs.declared.view.Standing.TheVariants.{Away}
use Rattle.hall.specs.Passes.{view, IsPassOf}
use Rattle.hall.specs.Slotting.{HasNonePending}
use Rattle.hall.specs.Treading.{IsWeakAt, Treads}
use Rattle.hall.specs.Views.{standing}
use Rattle.shared_mutex.specs.Acquiring.{ElsewhereSame}
use Rattle.shared_mutex.specs.Tries.{AddsSteps}
use Rattle.sync_cell.specs.Gains.{refuses_reader}
use Rattle.sync_cell.specs.GainLaws.{IsTrySuch}
use Rattle.query_cells.proofs.Taking.{Unchanged}
use Rattle.query_cells.proofs.attempts.try_to_read.Given as goal

-- all tries so far were raced, and left the pass as it was
abbrev pub invariant-loop : goal.invariant-loop
invariant-loop g l = record {
  next : (goal.iterator-loop g).can_next l.iterator';
  goes_on : (goal.iterator-loop g).is_finite l.iterator';
  pass : IsPassOf l.hall l.pass;
  away : standing (view l.pass) l.cell ≡ Away;
  clear : HasNonePending (view l.pass);
  quiet : Unchanged (view l.fn.pass) (view l.pass);
  elsewhere : ElsewhereSame (view l.fn.pass) (view l.pass) l.cell;
  trail : Treads (IsWeakAt l.cell) (view l.fn.pass) (view l.pass);
  tries : AddsSteps (IsTrySuch (λ e. refuses_reader (view l.fn.pass).shape.policy e ≡ false) (view l.fn.pass) l.cell) (view l.fn.pass) (view l.pass);
}
