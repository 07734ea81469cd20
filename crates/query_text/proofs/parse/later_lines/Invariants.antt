use Rattle.std.proofs.Common.{◌≡◌, ◌+◌, ◌≤◌, length}
use Rattle.query_rules.specs.Grammar as grammar
use Rattle.query_rules.specs.Words.{lines_of}
use Rattle.query_text.proofs.parse.later_lines.Given as goal

-- the lines so far and what follows say what all of them say
abbrev pub invariant-loop-rest : goal.invariant-loop-rest
invariant-loop-rest l =
    (grammar.later_lines (record { cells = l.cells; callers = l.callers }) l.line (lines_of l.rest)
    ≡ grammar.later_lines (record { cells = l.cells; callers = l.fn.callers }) 1 (lines_of l.lines))
    × (l.line + length l.rest ≤ 1 + length l.lines)
    × grammar.IsScript (record { cells = l.cells; callers = l.callers })

abbrev pub decreases-loop-rest : goal.decreases-loop-rest
decreases-loop-rest l = length l.rest
