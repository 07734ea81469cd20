use Rattle.ql_base.proofs.Pieces.{writes_then, writes_failed}
use Rattle.query_text.proofs.log.write_later.Goals as goal

pub returns-in_err-write_refused-clause-bytes : goal.returns-in_err-write_refused-clause-bytes
returns-in_err-write_refused-clause-bytes g c = writes_failed _ _ _ _ _ c.from_residual.ensures.0 c.in_err-write_refused.ensures.bytes

pub returns-in_err-write_spots-clause-bytes : goal.returns-in_err-write_spots-clause-bytes
returns-in_err-write_spots-clause-bytes g c =
    writes_then _ _ _ _ _ _ c.in_ok-write_refused.ensures.bytes (writes_failed _ _ _ _ _ c.from_residual-in_err-write_spots.ensures.0 c.in_err-write_spots.ensures.bytes)

pub returns-clause-bytes : goal.returns-clause-bytes
returns-clause-bytes g c =
    writes_then _ _ _ _ _ _ c.in_ok-write_refused.ensures.bytes (writes_then _ _ _ _ _ _ c.in_ok-write_spots.ensures.bytes c.write_close.ensures.bytes)
