use Rattle.log_reader.proofs.Front.{head_found, head_none, no_head}
use Rattle.log_reader.proofs.lines.head.Goals as goal

pub returns-in-Some-clause-found : goal.returns-in-Some-clause-found
returns-in-Some-clause-found c = head_found c.first_tables.result c.args.bytes.now _ c.in-Some.rest.now c.in-Some.ensures c.number_for-line.ensures c.first_tables.ensures.found

pub returns-in-Some-clause-none : goal.returns-in-Some-clause-none
returns-in-Some-clause-none c = head_none c.first_tables.result c.args.bytes.now _ c.in-Some.rest.now c.in-Some.ensures c.number_for-line.ensures c.first_tables.ensures.none

pub returns-in-None-clause-none : goal.returns-in-None-clause-none
returns-in-None-clause-none c = no_head c.args.bytes.now _ c.number_for-line.ensures c.in-None.ensures
