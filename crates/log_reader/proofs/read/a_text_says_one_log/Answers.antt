use Rattle.log_reader.proofs.LogLaws.{determined}
use Rattle.log_reader.proofs.Bridge.{lines_from}
use Rattle.log_reader.proofs.read.a_text_says_one_log.Goals as goal

pub returns : goal.returns
returns c s t m n said told text h k = determined s t m n said told text (lines_from s m said text h) (lines_from t n told text k)
