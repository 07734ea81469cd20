use Rattle.std.proofs.Common.{rules}
use Rattle.query_text.proofs.DigitCounts.{at_most_twenty}
use Rattle.query_text.proofs.digits.count_digits.Goals as goal

pub overflow_add-count : goal.overflow_add-count
overflow_add-count c =
    let few = at_most_twenty c.args.n c.ranges.n.fits in
    let so = c.loop-left.invariant in
    search rules

pub overflow_add-result : goal.overflow_add-result
overflow_add-result c =
    let few = at_most_twenty c.args.n c.ranges.n.fits in
    let so = c.loop-left.invariant in
    search rules
