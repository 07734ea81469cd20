use Rattle.std.proofs.Common.{arith, rules}
use Rattle.query_rules.specs.Log.{answer_line}
use Rattle.log_reader.specs.Listing.{answered_line}
use Rattle.log_reader.proofs.Clean.{bytes_some, other_line, no_line}
use Rattle.log_reader.proofs.Again.{answered_form}
use Rattle.log_reader.proofs.lines.first_answered.Goals as goal

pub returns-then-is_empty-clause-none : goal.returns-then-is_empty-clause-none
unfolding answered_line answer_line
returns-then-is_empty-clause-none c = λ a fits rest. bytes_some _ _ _ answered_form a c.args.bytes.now rest (grind arith)

pub returns-in_default-clause-none : goal.returns-in_default-clause-none
unfolding answered_line answer_line
returns-in_default-clause-none c = λ a fits. no_line _ _ _ answered_form a fits c.args.bytes.now _ _ _ c.cut_line.ensures.cut (search rules) c.in_default.ensures

pub returns-in-None-clause-none : goal.returns-in-None-clause-none
unfolding answered_line answer_line
returns-in-None-clause-none c = λ a fits. other_line _ _ _ answered_form a c.in-Some.first fits c.args.bytes.now _ _ _ _ c.cut_line.ensures.cut (search rules) c.in-Some.ensures c.line_for-line.ensures c.in-None.ensures
