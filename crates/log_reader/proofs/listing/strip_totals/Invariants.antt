use Rattle.std.proofs.Common.{length}
use Rattle.query_rules.specs.Log.{totals_text}
use Rattle.log_reader.proofs.Strips.{Stripped}
use Rattle.log_reader.proofs.listing.strip_totals.Given as goal

-- the totals so far are taken off
abbrev pub invariant-loop-rest : goal.invariant-loop-rest
invariant-loop-rest l = Stripped l.bytes l.text (totals_text l.totals) (totals_text l.rest)

abbrev pub decreases-loop-rest : goal.decreases-loop-rest
decreases-loop-rest l = length l.rest
