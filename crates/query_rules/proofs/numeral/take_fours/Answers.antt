use Rattle.std.proofs.Common.{arith}
use Rattle.query_rules.proofs.Numbers.{four_more}
use Rattle.query_rules.proofs.numeral.take_fours.Goals as goal

pub loop-rest-preserved : goal.loop-rest-preserved
loop-rest-preserved c =
    let high = c.in-Some-Some.ensures in
    let low = c.in-Some-Some.ensures' in
    let before = c.loop-rest.invariant in
    let after = four_more c.args.word.now c.loop-rest.rest.now c.loop-rest.number c.in-Some-Some.high c.in-Some-Some.low c.in-len4-up.len_at_least before.0 before.1 high.digits high.value low.digits low.value in
    (after.0, after.1, omega (arith, c.if-number-gt-FOUR_MORE_FIT.false, high.below, low.below))
