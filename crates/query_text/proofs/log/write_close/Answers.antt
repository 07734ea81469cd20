use Rattle.ql_base.proofs.Pieces.{writes_then, writes_failed}
use Rattle.query_text.proofs.log.write_close.Goals as goal

pub returns-in_err-write_totals-clause-bytes : goal.returns-in_err-write_totals-clause-bytes
returns-in_err-write_totals-clause-bytes g c = writes_failed _ _ _ _ _ c.from_residual.ensures.0 c.in_err-write_totals.ensures.bytes

pub returns-clause-bytes : goal.returns-clause-bytes
returns-clause-bytes g c = writes_then _ _ _ _ _ _ c.in_ok-write_totals.ensures.bytes c.write_end.ensures.bytes
