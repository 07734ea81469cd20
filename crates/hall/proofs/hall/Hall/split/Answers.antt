use Rattle.std.proofs.Common.{arith}
use Rattle.hall.proofs.Parting.{split_told, split_kept}
use Rattle.hall.proofs.hall.Hall.split.Goals as goal

pub returns-clause-moment : goal.returns-clause-moment
returns-clause-moment g c = split_told g.C.CargoRule _ (omega (arith, c.args.pass.now.tied.1)) _ _ c.requires.seats.0 c.requires.seats.1 c.requires.quota _ _ _ c.meet.ensures.pass.2 c.split_by.ensures.pass.1 c.split_by.ensures.new.1 c.meet.ensures.met

pub returns-clause-keeps : goal.returns-clause-keeps
returns-clause-keeps g c = split_kept g.C.CargoRule _ (omega (arith, c.args.pass.now.tied.1)) _ _ c.requires.seats.0 c.requires.seats.1 c.requires.quota _ _ _ c.meet.ensures.pass.2 c.split_by.ensures.pass.1 c.split_by.ensures.new.1 _ _
