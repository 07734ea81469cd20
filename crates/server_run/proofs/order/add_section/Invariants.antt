use Rattle.std.proofs.Common.{◌≡◌, ◌≤◌, ◌++◌, drop, vec_capacity}
use Rattle.query_rules.specs.Log.{spots_of}
use Rattle.query_text.specs.Packed.{spots_in}
use Rattle.server_run.proofs.order.add_section.Given as goal

-- the spots of the callers so far, and of the others
abbrev pub invariant-loop-caller : goal.invariant-loop-caller
invariant-loop-caller l =
    (spots_in l.spots.items ++ spots_of l.section l.caller (drop l.caller l.outcome) ≡ spots_in l.fn.spots.items ++ spots_of l.section 0 l.outcome)
    × (vec_capacity l.fn.spots ≤ vec_capacity l.spots)
