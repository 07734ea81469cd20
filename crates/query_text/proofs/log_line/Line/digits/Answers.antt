use Rattle.std.proofs.Common.{ap, sym, ◌∙◌, ◌++◌}
use Rattle.std.proofs.lemmas.Fmt.{decimal_digit}
use Rattle.query_text.proofs.log_line.Line.digits.Goals as goal

pub returns-then-n-lt10 : goal.returns-then-n-lt10
returns-then-n-lt10 c = c.append.ensures ∙ ap (λ ds. c.args.self.now ++ ds) (sym (decimal_digit c.args.n c.if-n-lt10.true))
