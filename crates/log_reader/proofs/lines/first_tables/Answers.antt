use Rattle.std.proofs.Common.{arith, rules}
use Rattle.query_rules.specs.Log.{tables_line}
use Rattle.log_reader.proofs.Clean.{bytes_some, other_line, no_line}
use Rattle.log_reader.proofs.Again.{tables_form}
use Rattle.log_reader.proofs.lines.first_tables.Goals as goal

pub returns-then-is_empty-clause-none : goal.returns-then-is_empty-clause-none
unfolding tables_line
returns-then-is_empty-clause-none c = λ cells rows callers h i j rest. bytes_some _ _ _ tables_form (cells, rows, callers) c.args.bytes.now rest (grind arith)

pub returns-in_default-clause-none : goal.returns-in_default-clause-none
unfolding tables_line
returns-in_default-clause-none c = λ cells rows callers h i j.
    no_line _ _ _ tables_form (cells, rows, callers) (h, i, j) c.args.bytes.now _ _ _ c.cut_line.ensures.cut (search rules) c.in_default.ensures

pub returns-in-None-clause-none : goal.returns-in-None-clause-none
unfolding tables_line
returns-in-None-clause-none c = λ cells rows callers h i j.
    other_line _ _ _ tables_form (cells, rows, callers) (c.in-Some.cells, c.in-Some.rows, c.in-Some.callers) (h, i, j) c.args.bytes.now _ _ _ _
    c.cut_line.ensures.cut (search rules) c.in-Some.ensures c.tables_for-line.ensures c.in-None.ensures
