use Rattle.hall.specs.Passes.{view}
use Rattle.map_cargo.specs.declared.entry.Told.TheVariants.{Refused}
use Rattle.map_cargo.proofs.refusing.note_refused.Given as goal

abbrev pub ghosts-refuse_by : goal.ghosts-refuse_by
ghosts-refuse_by a = record { told = Refused (view a.pass.now).number a.index a.query.now a.reply.now }
