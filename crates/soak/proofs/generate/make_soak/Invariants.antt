use Rattle.std.proofs.Common.{◌≡◌, take}
use Rattle.query_rules.specs.Soak.{soak_callers}
use Rattle.soak.proofs.generate.make_soak.Given as goal

-- the callers so far
abbrev pub invariant-loop-caller : goal.invariant-loop-caller
invariant-loop-caller l = l.callers ≡ take l.caller (soak_callers l.count)
