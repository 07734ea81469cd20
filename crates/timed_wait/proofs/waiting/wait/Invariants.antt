use Rattle.std.proofs.Common.{◌≤◌}
use Rattle.timed_wait.proofs.Waits.{AllRefused}
use Rattle.timed_wait.proofs.waiting.wait.Given as goal

-- all tries so far were refused
abbrev pub invariant-trying : goal.invariant-trying
invariant-trying g l = record {
  next : (goal.iterator-trying g).can_next l.iterator';
  goes_on : (goal.iterator-trying g).is_finite l.iterator';
  ready : g.A.Attempt.ready l.attempt;
  refused : AllRefused g.A.Attempt.refuses l.fn.attempt l.attempt;
  tries : g.A.Attempt.tries l.fn.attempt ≤ g.A.Attempt.tries l.attempt;
}
