use Rattle.ql_base.proofs.Pieces.{writes_then, writes_failed}
use Rattle.query_text.proofs.soak.write_sums.Goals as goal

pub returns-in_err-write_sum-clause-bytes : goal.returns-in_err-write_sum-clause-bytes
returns-in_err-write_sum-clause-bytes g c = writes_failed _ _ _ _ _ c.from_residual.ensures.0 c.in_err-write_sum.ensures.bytes

pub returns-in_err-write_sum-2-clause-bytes : goal.returns-in_err-write_sum-2-clause-bytes
returns-in_err-write_sum-2-clause-bytes g c =
    writes_then _ _ _ _ _ _ c.in_ok-write_sum.ensures.bytes (writes_failed _ _ _ _ _ c.from_residual-in_err-write_sum-2.ensures.0 c.in_err-write_sum-2.ensures.bytes)

pub returns-clause-bytes : goal.returns-clause-bytes
returns-clause-bytes g c =
    writes_then _ _ _ _ _ _ c.in_ok-write_sum.ensures.bytes (writes_then _ _ _ _ _ _ c.in_ok-write_sum-2.ensures.bytes c.write_end.ensures.bytes)
