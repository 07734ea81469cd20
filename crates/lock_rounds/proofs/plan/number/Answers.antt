use Rattle.std.proofs.Common.{rules, arith}
use Rattle.std.proofs.lemmas.Fmt.{parse-decimal}
use Rattle.lock_rounds.proofs.plan.number.Goals as goal

pub returns-in-Ok-clause-told : goal.returns-in-Ok-clause-told
returns-in-Ok-clause-told c = λ n is low high. let it = parse-decimal 64 n c.args.word.now c.parse.result (omega (arith, c.ranges.most.fits, high)) (omega (arith, c.ranges.most.fits, high)) is c.parse.ensures.value.0 in search (rules, it)

pub returns-in_default-clause-told : goal.returns-in_default-clause-told
returns-in_default-clause-told c = λ n is low high. let it = parse-decimal 64 n c.args.word.now c.parse.result (omega (arith, c.ranges.most.fits, high)) (omega (arith, c.ranges.most.fits, high)) is c.parse.ensures.value.0 in search (rules, it)

pub returns-in_default-2-clause-told : goal.returns-in_default-2-clause-told
returns-in_default-2-clause-told c = λ n is low high. let it = parse-decimal 64 n c.args.word.now c.parse.result (omega (arith, c.ranges.most.fits, high)) (omega (arith, c.ranges.most.fits, high)) is c.parse.ensures.value.0 in search (rules, it)

pub returns-in_default-3-clause-told : goal.returns-in_default-3-clause-told
returns-in_default-3-clause-told c = λ n is low high. let it = parse-decimal 64 n c.args.word.now c.parse.result (omega (arith, c.ranges.most.fits, high)) (omega (arith, c.ranges.most.fits, high)) is c.parse.ensures.value.0 in search (rules, it)
