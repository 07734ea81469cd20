use Rattle.std.proofs.Common.{arith}
use Rattle.query_text.proofs.Scripts.{next_line}
use Rattle.query_rules.proofs.Kept.{later_keeps}
use Rattle.query_text.proofs.parse.later_lines.Goals as goal

pub loop-rest-preserved : goal.loop-rest-preserved
loop-rest-preserved c = (
  next_line _ _ _ _ c.cut_line.result.0.now _ _ c.cut_line.ensures.cut c.in_default.ensures c.loop-rest.invariant.0,
  omega (arith, c.loop-rest.invariant.1, c.cut_line.ensures.shorter),
  later_keeps _ _ c.cut_line.result.0.now c.loop-rest.invariant.2 c.in_default.ensures,
)
