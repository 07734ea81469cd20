use Rattle.std.proofs.Common.{arith, subst, List, ℕ, map}
use Rattle.std.proofs.lemmas.List.{length-map}
use Rattle.query_rules.specs.Log.{log_text}
use Rattle.ql_base.specs.Bytes.{Writes}
use Rattle.ql_base.proofs.Pieces.{writes_then, writes_failed}
use Rattle.query_text.proofs.LogTexts.{map_spots, job_spots, log_is}
use Rattle.query_rules.specs.declared.query.Total.TheVariants as total
use Rattle.query_text.proofs.Spots.{sums_same, order_long}
use Rattle.query_text.proofs.log.write_by.Goals as goal

pub totals-totals-requires : goal.totals-totals-requires
totals-totals-requires g c =
    let sums = sums_same c.args.script.now.callers c.args.outcome.now c.requires.kinds in
    let few = c.callers-callers.ensures.script.few in
    omega (arith, sums, few)

pub split_at-requires : goal.split_at-requires
split_at-requires g c =
    let long = order_long c.args.outcome.now (map g.P.SpotLike.spot c.args.order.now) c.requires.order in
    let same = length-map c.args.order.now g.P.SpotLike.spot in
    let writes = c.totals-totals.ensures total.Writes in
    let reads = c.totals-totals.ensures total.Reads in
    omega (arith, long, same, writes, reads)

pub write_spots-requires : goal.write_spots-requires
write_spots-requires g c = map_spots g.P.SpotLike.spot c.args.script.now.callers _ c.args.outcome.now c.args.order.now _ c.totals-totals.result c.requires.kinds c.requires.order c.callers-callers.ensures.value c.totals-totals.ensures c.split_at.ensures.front

pub write_later-requires-clause-spots : goal.write_later-requires-clause-spots
write_later-requires-clause-spots g c = job_spots g.P.SpotLike.spot c.args.script.now.callers _ c.args.outcome.now c.args.order.now _ c.totals-totals.result c.requires.kinds c.requires.order c.callers-callers.ensures.value c.totals-totals.ensures c.split_at.ensures.back

pub write_later-requires-clause-counted : goal.write_later-requires-clause-counted
write_later-requires-clause-counted g c = c.totals-totals.ensures total.Refused

pub returns-in_err-write_head-clause-bytes : goal.returns-in_err-write_head-clause-bytes
unfolding log_text
returns-in_err-write_head-clause-bytes g c = writes_failed _ _ _ _ _ c.from_residual.ensures.0 c.in_err-write_head.ensures.bytes

pub returns-in_err-write_spots-clause-bytes : goal.returns-in_err-write_spots-clause-bytes
returns-in_err-write_spots-clause-bytes g c =
    let same = log_is g.P.SpotLike.spot c.args.script.now c.args.rows _ c.args.outcome.now c.args.order.now _ _ c.totals-totals.result c.callers-callers.ensures.value c.totals-totals.ensures c.split_at.ensures.front c.split_at.ensures.back in
    let P : List ℕ → Type 0 = λ t. Writes (g.K.Sink.written c.args.sink.now) (g.K.Sink.written c.write_spots.new.sink) c.from_residual-in_err-write_spots.result t in
    subst P same (writes_then _ _ _ _ _ _ c.in_ok-write_head.ensures.bytes (writes_failed _ _ _ _ _ c.from_residual-in_err-write_spots.ensures.0 c.in_err-write_spots.ensures.bytes))

pub returns-clause-bytes : goal.returns-clause-bytes
returns-clause-bytes g c =
    let same = log_is g.P.SpotLike.spot c.args.script.now c.args.rows _ c.args.outcome.now c.args.order.now _ _ c.totals-totals.result c.callers-callers.ensures.value c.totals-totals.ensures c.split_at.ensures.front c.split_at.ensures.back in
    let P : List ℕ → Type 0 = λ t. Writes (g.K.Sink.written c.args.sink.now) (g.K.Sink.written c.write_later.new.sink) c.write_later.result t in
    subst P same (writes_then _ _ _ _ _ _ c.in_ok-write_head.ensures.bytes (writes_then _ _ _ _ _ _ c.in_ok-write_spots.ensures.bytes c.write_later.ensures.bytes))
