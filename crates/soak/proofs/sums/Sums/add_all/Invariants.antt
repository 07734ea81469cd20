use Rattle.std.proofs.Common.{◌≡◌, ◌+◌, drop}
use Rattle.soak_laws.specs.Totals.{told_delta, told_gift}
use Rattle.soak.proofs.Left.{of_list}
use Rattle.soak.proofs.sums.Sums.add_all.Given as goal

-- what is summed and what is left are the whole
abbrev pub invariant-loop-i : goal.invariant-loop-i
invariant-loop-i l =
    (l.self.maps + of_list told_delta (drop l.i l.queries) (drop l.i l.replies) ≡ l.fn.self.maps + of_list told_delta l.queries l.replies)
    × (l.self.ledger + of_list told_gift (drop l.i l.queries) (drop l.i l.replies) ≡ l.fn.self.ledger + of_list told_gift l.queries l.replies)
