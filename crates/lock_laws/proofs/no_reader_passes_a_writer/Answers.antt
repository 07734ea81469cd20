use Rattle.lock_model.specs.Moves.{no_reader_passes}
use Rattle.lock_laws.proofs.no_reader_passes_a_writer.Goals as goal

pub returns : goal.returns
returns c = no_reader_passes
