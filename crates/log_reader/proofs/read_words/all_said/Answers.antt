use Rattle.log_reader.proofs.Words.{said_many}
use Rattle.log_reader.proofs.read_words.all_said.Goals as goal

pub returns-in_default-2 : goal.returns-in_default-2
returns-in_default-2 c = said_many c.args.words.now c.in_default.len_at_least
