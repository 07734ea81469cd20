use Rattle.ql_base.proofs.Pieces.{writes_then, writes_failed}
use Rattle.query_rules.specs.Soak.{soak_text}
use Rattle.query_text.proofs.soak.write_soak.Goals as goal

pub returns-in_err-write_number-clause-bytes : goal.returns-in_err-write_number-clause-bytes
unfolding soak_text
returns-in_err-write_number-clause-bytes g c = writes_failed _ _ _ _ _ c.from_residual.ensures.0 c.in_err-write_number.ensures.bytes

pub returns-in_err-write_totals-clause-bytes : goal.returns-in_err-write_totals-clause-bytes
unfolding soak_text
returns-in_err-write_totals-clause-bytes g c =
    writes_then _ _ _ _ _ _ c.in_ok-write_number.ensures.bytes (writes_failed _ _ _ _ _ c.from_residual-in_err-write_totals.ensures.0 c.in_err-write_totals.ensures.bytes)

pub returns-clause-bytes : goal.returns-clause-bytes
unfolding soak_text
returns-clause-bytes g c =
    writes_then _ _ _ _ _ _ c.in_ok-write_number.ensures.bytes (writes_then _ _ _ _ _ _ c.in_ok-write_totals.ensures.bytes c.write_sums.ensures.bytes)
