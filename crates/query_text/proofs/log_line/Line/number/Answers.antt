use Rattle.std.proofs.Common.{rules, ap, ◌∙◌, length, decimal, length-append}
use Rattle.query_text.proofs.DigitCounts.{at_most_twenty}
use Rattle.query_text.proofs.log_line.Line.number.Goals as goal

pub returns-clause-len : goal.returns-clause-len
returns-clause-len c =
    let few = at_most_twenty c.args.n c.ranges.n.fits in
    let one = ap length c.append.ensures ∙ length-append c.args.self.now _ in
    let more = ap length c.digits.ensures ∙ length-append c.append.new.self (decimal c.args.n) in
    search rules
