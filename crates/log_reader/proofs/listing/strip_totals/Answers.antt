use Rattle.query_rules.specs.Log.{totals_text, total_line}
use Rattle.log_reader.proofs.Strips.{strip_start, strip_next, strip_stop, strip_done}
use Rattle.log_reader.proofs.listing.strip_totals.Goals as goal

pub loop-rest-init : goal.loop-rest-init
loop-rest-init c = strip_start c.args.bytes.now (totals_text c.args.totals.now)

pub loop-rest-preserved : goal.loop-rest-preserved
unfolding totals_text
loop-rest-preserved c = strip_next total_line _ _ _ _ _ c.loop-rest.rest.now _ c.in-len1-up.len_at_least c.loop-rest.invariant c.in-Some.ensures c.total_for-line.ensures

pub returns-in-None : goal.returns-in-None
unfolding totals_text
returns-in-None c = strip_stop total_line _ _ _ _ c.loop-rest.rest.now _ c.in-len1-up.len_at_least c.loop-rest.invariant c.in-None.ensures c.total_for-line.ensures

pub returns : goal.returns
unfolding totals_text
returns c = strip_done total_line _ _ _ c.loop-rest.rest.now c.in_default.len_below c.loop-rest.invariant
