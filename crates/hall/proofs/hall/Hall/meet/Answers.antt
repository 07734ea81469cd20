use Rattle.std.proofs.Common.{arith}
use Rattle.hall.proofs.Dividing.{weighs}
use Rattle.hall.proofs.hall.Hall.meet.Goals as goal

pub load-requires : goal.load-requires
load-requires g c = (c.requires.pass.0, (let a = c.args.self.now.counted in let a0 = a.0 in let a2 = a.2 in omega arith), weighs g.C.CargoRule _ _ _ _ _ (omega (arith, c.args.pass.now.tied.1)))
