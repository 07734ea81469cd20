-- The fields of totals, by their names in a log.
use Rattle.std.specs.Prelude.{ℕ, List, [], ◌∷◌}
use Rattle.query_rules.specs.declared.query.Total.{Total}
use Rattle.query_rules.specs.declared.query.Total.TheVariants.{Queries, Writes, Reads, Refused, Jobs}
use Rattle.query_text.specs.declared.outcome.Counts.{Counts}

abbrev pub total_in : Total → Counts → ℕ
total_in Queries t = t.queries
total_in Writes t = t.writes
total_in Reads t = t.reads
total_in Refused t = t.refused
total_in Jobs t = t.jobs

-- each total by its name, in the order of a log
abbrev pub totals_in : Counts → List (Total × ℕ)
totals_in t = (Queries, t.queries) ∷ (Writes, t.writes) ∷ (Reads, t.reads) ∷ (Refused, t.refused) ∷ (Jobs, t.jobs) ∷ []
