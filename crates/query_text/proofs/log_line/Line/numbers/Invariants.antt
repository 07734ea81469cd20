use Rattle.std.proofs.Common.{◌≡◌, ◌≤◌, ◌+◌, ◌*◌, ◌++◌, length, map, decimal}
use Rattle.query_text.specs.Spaced.{spaced}
use Rattle.query_text.proofs.log_line.Line.numbers.Given as goal

-- the numbers so far stand in the line
abbrev pub invariant-loop-rest : goal.invariant-loop-rest
invariant-loop-rest l =
    (l.self ++ spaced (map decimal l.rest) ≡ l.fn.self ++ spaced (map decimal l.numbers))
    × (length l.self + 21 * length l.rest ≤ length l.fn.self + 21 * length l.numbers)

abbrev pub decreases-loop-rest : goal.decreases-loop-rest
decreases-loop-rest l = length l.rest
