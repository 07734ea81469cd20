-- What a history comes to, and that the soak comes to its totals whatever its history.
use Rattle.std.specs.Prelude.{◌≡◌, ℕ, ◌≤◌, ◌⊎◌, List, None, sum_by, if◌then◌else◌}
use Rattle.query_rules.specs.declared.query.Query.{Query}
use Rattle.query_rules.specs.declared.query.Query.TheVariants.{Add, Give}
use Rattle.query_rules.specs.declared.query.Reply.{Reply}
use Rattle.query_rules.specs.declared.query.Total.TheVariants as total
use Rattle.query_rules.specs.declared.query.Totals.{Totals}
use Rattle.query_rules.specs.Maps.{Maps, no_entries, amount_at}
use Rattle.query_rules.specs.Ledger.{no_accounts, run_all, sum_of}
use Rattle.query_rules.specs.History.{IsHistory, entries, replay}
use Rattle.query_rules.specs.Log.{is_counted, totals_of}
use Rattle.query_rules.specs.Soak.{sum_below, soak_callers, soak_totals, counts_in}
use Rattle.query_rules.specs.declared.query.TheConstants.{MOST_QUERIES}

-- the sum of the values of these keys in these cells, the first ones
abbrev pub sum_of_maps : ℕ → ℕ → Maps → ℕ
sum_of_maps cells keys maps = sum_below cells (λ cell. sum_below keys (λ key. amount_at (maps cell) key))

-- the maps have no other keys
abbrev pub HasOnly : ℕ → ℕ → Maps → Type 0
HasOnly cells keys maps = (cell key : ℕ) → (cells ≤ cell) ⊎ (keys ≤ key) → (maps cell).value_at key ≡ None

-- what an addition asks to add
abbrev pub delta_of : Query → ℕ
delta_of (Add cell key delta) = delta
delta_of _ = 0

-- what a query and its reply tell of it, where the reply is a write
abbrev pub told_delta : Query × Reply → ℕ
told_delta e = if is_counted total.Writes e.1 then delta_of e.0 else 0

-- the same of gifts, where the reply is a job's
abbrev pub gift_of : Query → ℕ
gift_of (Give key n) = n
gift_of _ = 0

abbrev pub told_gift : Query × Reply → ℕ
told_gift e = if is_counted total.Jobs e.1 then gift_of e.0 else 0

-- a history in the totals' words: its counts, what its replies tell of additions and of gifts, and the sums of all values of its maps and of its ledger at its end
pub record ComesTo (cells rows : ℕ) (callers : List (List Query)) (told : List (List Reply)) (h : IsHistory rows callers told) (s : Totals) : Type 0 where
  pub counts : totals_of told ≡ counts_in s
  pub keys : HasOnly cells rows (replay no_entries h.legal.writes)
  pub deltas : sum_by told_delta (entries callers told) ≡ s.sum
  pub gifts : sum_by told_gift (entries callers told) ≡ s.ledger
  pub sum : sum_of_maps cells rows (replay no_entries h.legal.writes) ≡ s.sum
  pub ledger : sum_of (run_all rows no_accounts h.ledger.jobs) ≡ s.ledger

-- every history of the soak comes to the same
abbrev pub SoakHasOneSummary : Type 0
SoakHasOneSummary = (count : ℕ) → count ≤ MOST_QUERIES → (told : List (List Reply)) → (h : IsHistory 16 (soak_callers count) told) → ComesTo 8 16 (soak_callers count) told h (soak_totals count)
