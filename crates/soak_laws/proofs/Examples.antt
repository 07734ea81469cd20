-- The soak at worked examples: each holds by computation.
use Rattle.std.proofs.Common.{◌≡◌, [], ◌∷◌, refl}
use Rattle.query_rules.specs.declared.query.Query.TheVariants.{Get, Add, Len, Give}
use Rattle.query_rules.specs.Soak.{soak_callers, soak_from, soak_query, soak_totals, sum_below}

-- query 5 is the second of caller 1, and query 37 its tenth
second : soak_query 5 ≡ Add 1 6 6
second = refl

tenth : soak_query 37 ≡ Add 3 14 3
tenth = refl

seventeen : soak_callers 17 ≡
    (Get 0 0 ∷ Add 0 5 5 ∷ Len 0 ∷ Give 15 1 ∷ Get 1 4 ∷ [])
    ∷ (Get 1 1 ∷ Add 1 6 6 ∷ Len 1 ∷ Give 0 1 ∷ [])
    ∷ (Get 2 2 ∷ Add 2 7 7 ∷ Len 2 ∷ Give 1 1 ∷ [])
    ∷ (Get 3 3 ∷ Add 3 8 1 ∷ Len 3 ∷ Give 2 1 ∷ []) ∷ []
unfolding soak_from
seventeen = refl

none : soak_callers 0 ≡ [] ∷ [] ∷ [] ∷ [] ∷ []
unfolding soak_from
none = refl

one : soak_totals 1 ≡ record { queries = 1; writes = 0; reads = 1; refused = 0; jobs = 0; sum = 0; ledger = 0 }
unfolding sum_below
one = refl

sixteen : soak_totals 16 ≡ record { queries = 16; writes = 4; reads = 8; refused = 0; jobs = 4; sum = 19; ledger = 4 }
unfolding sum_below
sixteen = refl
