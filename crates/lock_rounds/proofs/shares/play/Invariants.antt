use Rattle.std.proofs.Common.{◌≡◌, ◌+◌, ℕ}
use Rattle.lock_rounds.specs.Outside.{HasDone, IsOutside}
use Rattle.lock_rounds.specs.Tallies.{came_in}
use Rattle.lock_rounds.specs.Works.{act_in, reads_of}
use Rattle.lock_rounds.proofs.shares.play.Given as goal

-- each round so far that reads was counted, and the last one did what it should
abbrev pub invariant-loop-round : goal.invariant-loop-round
invariant-loop-round g l = record {
  outside : IsOutside l.hall l.pass;
  last : (n : ℕ) → l.round ≡ n + 1 → HasDone (act_in l.turn n) l.pass;
  reads : came_in l.tally ≡ reads_of l.turn l.round;
}
