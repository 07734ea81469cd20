-- What packed spots say.
use Rattle.std.specs.Prelude.{◌*◌, ◌/◌, ◌%◌, ◌<◌, ◌≤◌, List, length, map, sum_by}
use Rattle.std.specs.declared.cmp.Ordering.{Ordering}
use Rattle.std.specs.List.{AllByRecursion}
use Rattle.std.specs.Ordering.{nat_cmp}
use Rattle.query_rules.specs.declared.query.Reply.{Reply}
use Rattle.query_rules.specs.declared.query.Reply.TheVariants.{Placed, Busy, Late, Job}
use Rattle.query_rules.specs.declared.query.Spot.{Spot}
use Rattle.query_text.specs.declared.packed.PackedSpot.{PackedSpot}
use Rattle.query_text.specs.declared.packed.TheConstants.{SPOT_CALLERS, SPOT_INDEXES, SPOT_KEYS}

-- from the top down: the key, the caller, the index
abbrev pub spot_in : PackedSpot → Spot
spot_in p = record { key = p.number / (SPOT_CALLERS * SPOT_INDEXES); caller = p.number / SPOT_INDEXES % SPOT_CALLERS; index = p.number % SPOT_INDEXES }

abbrev pub spots_in : List PackedSpot → List Spot
spots_in packed = map spot_in packed

-- a packed spot has room for the reply's key
abbrev pub HasPackedKey : Reply → Type 0
HasPackedKey (Placed place said) = place < SPOT_KEYS
HasPackedKey Busy = Unit {0}
HasPackedKey (Late now) = Unit {0}
HasPackedKey (Job at result) = at < SPOT_KEYS

-- packed spots have room for all that these replies need
pub record IsPackable (told : List (List Reply)) : Type 0 where
  pub callers : length told ≤ SPOT_CALLERS
  pub replies : sum_by length told ≤ SPOT_INDEXES
  pub keys : AllByRecursion (AllByRecursion HasPackedKey) told

-- the order of their numbers
abbrev pub packed_cmp : PackedSpot → PackedSpot → Ordering
packed_cmp a b = nat_cmp a.number b.number
