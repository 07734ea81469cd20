use Rattle.script_laws.proofs.Reading.{one_script}
use Rattle.script_laws.proofs.a_text_spells_one_script.Goals as goal

pub returns : goal.returns
returns c = one_script
