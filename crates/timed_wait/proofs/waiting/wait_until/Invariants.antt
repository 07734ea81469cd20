use Rattle.std.proofs.Common.{◌≡◌, ◌<◌, ◌⊎◌}
use Rattle.timed_wait.proofs.Waits.{AllRefused, Early}
use Rattle.timed_wait.proofs.waiting.wait_until.Given as goal

-- all tries so far were refused, and the clock answered a number below the deadline each time
abbrev pub invariant-in_time : goal.invariant-in_time
invariant-in_time g l = record {
  next : (goal.iterator-in_time g).can_next l.iterator';
  goes_on : (goal.iterator-in_time g).is_finite l.iterator';
  ready : g.A.Attempt.ready l.attempt;
  refused : AllRefused g.A.Attempt.refuses l.fn.attempt l.attempt;
  early : Early l.deadline (g.A.Attempt.tries l.fn.attempt) (g.A.Attempt.tries l.attempt) (g.T.Clock.answers l.fn.clock) (g.T.Clock.answers l.clock);
  first : g.A.Attempt.tries l.attempt ≡ g.A.Attempt.tries l.fn.attempt → l.clock ≡ l.fn.clock;
  last : (l.clock ≡ l.fn.clock) ⊎ (g.T.Clock.last l.clock < l.deadline);
}
