use Rattle.std.proofs.Common.{◌≡◌, length}
use Rattle.query_rules.specs.Maps.{no_keys}
use Rattle.query_log.specs.Plain.{maps_of}
use Rattle.query_log.proofs.plain.empty_maps.Given as goal

-- so many maps, all empty
abbrev pub invariant-loop : goal.invariant-loop
invariant-loop l = (maps_of l.maps.items ≡ (λ cell. no_keys)) × (length l.maps.items ≡ l.counter)
