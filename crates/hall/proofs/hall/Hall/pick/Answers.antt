use Rattle.std.proofs.Common.{rules, arith}
use Rattle.hall.proofs.SlotSteps.{picks}
use Rattle.hall.proofs.hall.Hall.pick.Goals as goal

pub compare_exchange-found-requires : goal.compare_exchange-found-requires
compare_exchange-found-requires g c = (search rules, search rules, picks g.C.CargoRule c.args.self.now.table.shared.key _ _ _ c.args.lock c.args.slot _ c.slot_place-place.ensures.value c.requires.pass.1 (omega (arith, c.args.pass.now.tied.1)) c.requires.lock c.requires.slot _ _ c.requires.announced.2)
