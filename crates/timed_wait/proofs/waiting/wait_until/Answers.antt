use Rattle.std.proofs.Common.{◌≡◌, ◌<◌, inr, arith}
use Rattle.timed_wait.proofs.Waits.{one_more_refused, early_more, asks_in_time, asks_too_late}
use Rattle.timed_wait.proofs.waiting.wait_until.Goals as goal

pub in_time-preserved : goal.in_time-preserved
in_time-preserved g c =
    let try = c.in-Err.ensures in
    let before = c.in_time.invariant in
    let below : c.now-now.result < c.args.deadline = omega arith in
    let last : g.T.Clock.last c.now-now.new.self ≡ c.now-now.result = c.now-now.ensures.last in
    record {
      next = tt;
      goes_on = tt;
      ready = try.ready;
      refused = inr (c.in-Err.fault, one_more_refused _ g.met.A.Attempt.refuses_again _ _ _ _ before.refused try.refuses);
      early = early_more _ _ _ _ _ _ _ _ before.early c.now-now.ensures.answers try.tries below;
      first = λ none. absurd (omega (arith, none, try.tries, before.early.counted));
      last = inr (rw last below);
    }

pub returns-in-Ok-clause-in_time : goal.returns-in-Ok-clause-in_time
returns-in-Ok-clause-in_time g c = asks_in_time _ _ _ _ _ _ c.in_time.invariant.early c.in-Ok.ensures.tries

pub returns-then-now-deadline-clause-too_late : goal.returns-then-now-deadline-clause-too_late
returns-then-now-deadline-clause-too_late g c = asks_too_late _ _ _ _ _ _ _ _ c.in_time.invariant.early c.now-now.ensures.answers c.in-Err.ensures.tries
