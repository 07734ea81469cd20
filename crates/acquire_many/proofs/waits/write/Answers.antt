use Rattle.std.proofs.Common.{refl, ◌∙◌}
use Rattle.hall.specs.declared.view.Standing.TheVariants.{Exclusive}
use Rattle.hall.specs.Passes.{view}
use Rattle.acquire_many.proofs.Taking.{still_clear}
use Rattle.acquire_many.proofs.Patience.{patient_writer}
use Rattle.acquire_many.proofs.waits.write.Goals as goal

pub returns-clause-step : goal.returns-clause-step
returns-clause-step g c = let began = c.announce_at_last.ensures.step in let ended = c.finish_at_last.ensures.step in (began.0, ended.0, (view c.announce_at_last.new.pass, began.1, ended.1))

pub returns-clause-patient : goal.returns-clause-patient
returns-clause-patient g c =
    let began = c.announce_at_last.ensures.step in let ended = c.finish_at_last.ensures.step in
    patient_writer g.C.CargoRule (view c.args.pass.now) (view c.finish_at_last.new.pass) c.args.lock c.requires.away began.0 (view c.announce_at_last.new.pass) ended.0 began.1 ended.1

pub returns-clause-clear : goal.returns-clause-clear
returns-clause-clear g c =
    let v = view c.args.pass.now in let a = view c.announce_at_last.new.pass in let w = view c.finish_at_last.new.pass in let began = c.announce_at_last.ensures in let ended = c.finish_at_last.ensures in
    still_clear v w c.args.lock Exclusive c.requires.clear (λ k ne. ended.elsewhere k ne ∙ began.elsewhere k ne) ended.stands refl
