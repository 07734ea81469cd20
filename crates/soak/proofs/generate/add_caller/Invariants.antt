use Rattle.std.proofs.Common.{◌≡◌, ◌++◌, ◌∷◌, []}
use Rattle.query_rules.specs.Soak.{soak_from}
use Rattle.soak.proofs.generate.add_caller.Given as goal

-- the caller's queries so far
abbrev pub invariant-loop-a : goal.invariant-loop-a
invariant-loop-a l = l.callers ≡ l.fn.callers ++ soak_from l.caller 0 l.a ∷ []
