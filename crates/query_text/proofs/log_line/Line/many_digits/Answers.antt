use Rattle.std.proofs.Common.{rules, arith, ◌≡◌, ◌+◌, ◌++◌, length, take, drop, decimal, ℕ, List, ap, ◌∙◌}
use Rattle.std.proofs.lemmas.List.{length-take-le}
use Rattle.query_text.proofs.DigitCounts.{at_most_twenty, behind_front}
use Rattle.query_text.proofs.log_line.Line.many_digits.Goals as goal

pub overflow_add-end : goal.overflow_add-end
overflow_add-end c =
    let few = at_most_twenty c.args.n c.ranges.n.fits in
    let count = c.count_digits.ensures in
    let so = c.self.invariant in
    search rules

pub write_digits-requires : goal.write_digits-requires
write_digits-requires c =
    let wide : length c.self.inside.bytes ≡ 255 = search rules in
    let so = c.self.invariant in
    let few = at_most_twenty c.args.n c.ranges.n.fits in
    let count = c.count_digits.ensures in
    let long = length-take-le c.self.inside.len c.self.inside.bytes (omega (arith, so, wide)) in
    let view = ap length c.self.view_is in
    let short = c.requires in
    (omega (arith, count), omega (arith, few, count, long, view, short, wide))

pub returns : goal.returns
returns c =
    let old = c.self.inside.bytes in
    let ds : List ℕ = decimal c.args.n in
    let len = c.self.inside.len in
    let end = len + c.count_digits.result in
    let wide : length old ≡ 255 = search rules in
    let so = c.self.invariant in
    let count = c.count_digits.ensures in
    let begins = c.write_digits.ensures.start in
    let start : c.write_digits.result ≡ len = omega (arith, begins, count) in
    behind_front old c.write_digits.new.buf ds (drop end old) c.write_digits.result end (omega (arith, start, so, wide)) begins c.write_digits.ensures.before c.write_digits.ensures.written
    ∙ (ap (λ k. take k old ++ ds) start ∙ ap (λ l. l ++ ds) c.self.view_is)
