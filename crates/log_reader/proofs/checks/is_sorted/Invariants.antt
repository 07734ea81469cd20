use Rattle.std.proofs.Common.{◌≡◌, ℕ, ◌+◌, ◌-◌, ◌<◌, ◌≤◌, false, length, get_or}
use Rattle.std.specs.Ordering.{is_lt}
use Rattle.log_reader.specs.declared.answered.Answered.{Answered}
use Rattle.log_reader.specs.Listing.{line_cmp}
use Rattle.log_reader.proofs.checks.is_sorted.Given as goal

abbrev pub invariant-loop-k : goal.invariant-loop-k
invariant-loop-k l = (1 ≤ l.k) × ((j : ℕ) (d : Answered) → j + 1 < l.k → is_lt (line_cmp (get_or l.lines (j + 1) d) (get_or l.lines j d)) ≡ false)

abbrev pub decreases-loop-k : goal.decreases-loop-k
decreases-loop-k l = length l.lines - l.k
