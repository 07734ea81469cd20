use Rattle.script_laws.proofs.Writing.{read_spelled}
use Rattle.script_laws.proofs.what_is_read_is_spelled.Goals as goal

pub returns : goal.returns
returns c = read_spelled
