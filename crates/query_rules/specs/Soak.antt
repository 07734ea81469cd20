-- The script of the soak: so many queries of four callers on eight cells, what they come to in the end, and the text that tells it.
use Rattle.std.specs.Prelude.{ℕ, zero, suc, ◌+◌, ◌-◌, ◌*◌, ◌/◌, ◌%◌, ◌==◌, List, [], ◌∷◌, ◌++◌, codes, if◌then◌else◌}
use Rattle.query_rules.specs.declared.query.Query.{Query}
use Rattle.query_rules.specs.declared.query.Query.TheVariants.{Get, Len, Add, Give}
use Rattle.query_rules.specs.declared.query.Total.{Total}
use Rattle.query_rules.specs.declared.query.Total.TheVariants as total
use Rattle.query_rules.specs.declared.query.Totals.{Totals}
use Rattle.query_rules.specs.Grammar.{Asked}
use Rattle.query_rules.specs.Log.{number_line, totals_text, end_line}

-- a query by its kind, 0 to 3
abbrev pub soak_kind : ℕ → ℕ → ℕ → ℕ → Query
soak_kind kind cell key delta = if kind == 0 then Get cell key else if kind == 1 then Add cell key delta else if kind == 2 then Len cell else Give key 1

-- the query with this number among the queries of all callers: it is query number j / 4 of caller j % 4
abbrev pub soak_query : ℕ → Query
soak_query j = soak_kind (j / 4 % 4) ((j / 4 / 4 + j % 4) % 8) ((j / 4 * 5 + j % 4) % 16) (1 + j % 7)

-- so many queries of a caller, from its query number a on
unfoldable pub soak_from : ℕ → ℕ → ℕ → List Query
soak_from caller a zero = []
soak_from caller a (suc n) = soak_query (4 * a + caller) ∷ soak_from caller (a + 1) n

-- how many of so many queries a caller has
abbrev pub share : ℕ → ℕ → ℕ
share count caller = (count + 3 - caller) / 4

abbrev pub soak_callers : ℕ → List (List Query)
soak_callers count =
    soak_from 0 0 (share count 0) ∷ soak_from 1 0 (share count 1) ∷ soak_from 2 0 (share count 2) ∷ soak_from 3 0 (share count 3) ∷ []

abbrev pub soak_script : ℕ → Asked
soak_script count = record { cells = 8; callers = soak_callers count }

-- the sum of f over the numbers below n
unfoldable pub sum_below : ℕ → (ℕ → ℕ) → ℕ
sum_below zero f = 0
sum_below (suc n) f = sum_below n f + f n

-- what a query of this number adds to the sum of the maps, and to the ledger
abbrev pub adds_to_maps : ℕ → ℕ
adds_to_maps j = if j / 4 % 4 == 1 then 1 + j % 7 else 0

abbrev pub is_of_kind : ℕ → ℕ → ℕ
is_of_kind kind j = if j / 4 % 4 == kind then 1 else 0

-- the totals of the soak, whatever the schedule
abbrev pub soak_totals : ℕ → Totals
soak_totals count = record {
  queries = count;
  writes = sum_below count (is_of_kind 1);
  reads = sum_below count (is_of_kind 0) + sum_below count (is_of_kind 2);
  refused = 0;
  jobs = sum_below count (is_of_kind 3);
  sum = sum_below count adds_to_maps;
  ledger = sum_below count (is_of_kind 3);
}

-- the counts of replies, in the order of their lines
abbrev pub counts_in : Totals → List (Total × ℕ)
counts_in t = (total.Queries, t.queries) ∷ (total.Writes, t.writes) ∷ (total.Reads, t.reads) ∷ (total.Refused, t.refused) ∷ (total.Jobs, t.jobs) ∷ []

-- what is written of a soak of so many queries that came to these totals
unfoldable pub soak_text : ℕ → Totals → List ℕ
soak_text count t =
    number_line (codes "soak") count
    ++ (totals_text (counts_in t) ++ (number_line (codes "sum") t.sum ++ (number_line (codes "ledger") t.ledger ++ end_line)))
