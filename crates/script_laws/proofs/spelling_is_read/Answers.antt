use Rattle.script_laws.proofs.Reading.{spelling_read}
use Rattle.script_laws.proofs.spelling_is_read.Goals as goal

pub returns : goal.returns
returns c = spelling_read
