-- Words behind spaces.
use Rattle.std.specs.Prelude.{ℕ, List, ◌∷◌, ◌++◌, flat_map, codes, decimal}
use Rattle.query_rules.specs.declared.query.Reply.{Reply}
use Rattle.query_rules.specs.declared.query.Reply.TheVariants.{Placed, Busy, Late, Job}

abbrev pub spaced : List (List ℕ) → List ℕ
spaced words = flat_map (λ w. 32 ∷ w) words

-- how a reply's line begins
abbrev pub placed_bytes : Reply → List ℕ
placed_bytes (Placed place said) = codes "map" ++ 32 ∷ decimal place
placed_bytes Busy = codes "ref"
placed_bytes (Late now) = codes "ref"
placed_bytes (Job at result) = codes "job" ++ 32 ∷ decimal at
