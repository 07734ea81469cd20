use Rattle.lock_rounds.specs.Outside.{IsOutside}
use Rattle.lock_rounds.proofs.holds.upgrade_at_last.Given as goal

-- all tries so far were refused
abbrev pub invariant-loop : goal.invariant-loop
invariant-loop g l = record {
  next : (goal.iterator-loop g).can_next l.iterator';
  goes_on : (goal.iterator-loop g).is_finite l.iterator';
  outside : IsOutside l.hall l.pass;
}
