use Rattle.std.proofs.Common.{◌≡◌, length}
use Rattle.std.specs.List.{list_all}
use Rattle.log_reader.specs.LogText.{is_answer}
use Rattle.log_reader.proofs.checks.all_answers.Given as goal

abbrev pub invariant-loop-rest : goal.invariant-loop-rest
invariant-loop-rest l = list_all (is_answer l.cells) l.lines ≡ list_all (is_answer l.cells) l.rest

abbrev pub decreases-loop-rest : goal.decreases-loop-rest
decreases-loop-rest l = length l.rest
