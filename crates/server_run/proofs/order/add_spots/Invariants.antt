use Rattle.std.proofs.Common.{◌≡◌, ◌≤◌, ◌+◌, ◌++◌, length, vec_capacity}
use Rattle.std.specs.List.{AllByRecursion}
use Rattle.query_rules.specs.Log.{spots_from}
use Rattle.query_text.specs.Packed.{spots_in, HasPackedKey}
use Rattle.server_run.proofs.order.add_spots.Given as goal

-- the spots so far and those of what is left
abbrev pub invariant-loop-rest : goal.invariant-loop-rest
invariant-loop-rest l =
    (spots_in l.spots.items ++ spots_from l.section l.caller l.index l.rest ≡ spots_in l.fn.spots.items ++ spots_from l.section l.caller 0 l.replies)
    × (l.index + length l.rest ≤ length l.replies)
    × (vec_capacity l.fn.spots ≤ vec_capacity l.spots)
    × AllByRecursion HasPackedKey l.rest

abbrev pub decreases-loop-rest : goal.decreases-loop-rest
decreases-loop-rest l = length l.rest
