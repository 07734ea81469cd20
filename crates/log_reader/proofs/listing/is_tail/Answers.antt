use Rattle.std.proofs.Common.{rules}
use Rattle.log_reader.proofs.Front.{tail_some, tail_none}
use Rattle.log_reader.proofs.listing.is_tail.Goals as goal

pub returns-in-Some : goal.returns-in-Some
returns-in-Some c = tail_some c.is_end.result c.args.bytes.now c.in-Some.rest.now _ c.args.lines.now (search rules) c.in-Some.ensures c.is_end.ensures

pub returns-in-None : goal.returns-in-None
returns-in-None c = tail_none c.args.bytes.now _ c.args.lines.now (search rules) c.in-None.ensures
