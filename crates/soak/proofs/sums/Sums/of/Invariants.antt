use Rattle.std.proofs.Common.{◌≡◌, ◌+◌, drop}
use Rattle.soak_laws.specs.Totals.{told_delta, told_gift}
use Rattle.soak.proofs.Left.{of_lists}
use Rattle.soak.proofs.sums.Sums.of.Given as goal

-- what is summed and what is left are the whole
abbrev pub invariant-loop-caller : goal.invariant-loop-caller
invariant-loop-caller l =
    (l.sums.maps + of_lists told_delta (drop l.caller l.script.callers) (drop l.caller l.outcome) ≡ of_lists told_delta l.script.callers l.outcome)
    × (l.sums.ledger + of_lists told_gift (drop l.caller l.script.callers) (drop l.caller l.outcome) ≡ of_lists told_gift l.script.callers l.outcome)
