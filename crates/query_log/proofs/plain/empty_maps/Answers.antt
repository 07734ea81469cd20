use Rattle.std.proofs.Common.{arith, ap, length, length-append, [], ◌∷◌}
use Rattle.query_log.proofs.Cells.{empty_push}
use Rattle.query_log.proofs.plain.empty_maps.Goals as goal

pub loop-preserved : goal.loop-preserved
loop-preserved c = (
  empty_push c.loop.maps.items c.push.new.self.items c.new.result c.loop.invariant.0 c.new.ensures.empty c.in_ok-push.ensures.items,
  (let all = ap length c.in_ok-push.ensures.items in let more = length-append c.loop.maps.items (c.new.result ∷ []) in omega (arith, all, more, c.loop.invariant.1)),
)
