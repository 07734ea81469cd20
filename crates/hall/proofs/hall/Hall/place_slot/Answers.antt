use Rattle.std.proofs.Common.{rules, arith}
use Rattle.hall.proofs.SlotSteps.{places}
use Rattle.hall.proofs.hall.Hall.place_slot.Goals as goal

pub compare_exchange-found-requires : goal.compare_exchange-found-requires
compare_exchange-found-requires g c = (search rules, search rules, places g.C.CargoRule c.args.self.now.table.shared.key _ _ _ c.args.lock c.args.slot _ c.slot_place-place.ensures.value c.requires.pass.1 (omega (arith, c.args.pass.now.tied.1)) c.requires.lock c.requires.slot c.requires.away c.requires.clear)
