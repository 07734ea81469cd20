use Rattle.std.proofs.Common.{rules, arith}
use Rattle.hall.proofs.UpgradeSteps.{holds_up}
use Rattle.hall.proofs.hall.Hall.hold_from_upgrade.Goals as goal

pub compare_exchange-found-requires : goal.compare_exchange-found-requires
compare_exchange-found-requires g c = (search rules, search rules, holds_up g.C.CargoRule c.args.self.now.table.shared.key _ _ _ c.args.lock _ c.place-place.ensures.value c.requires.pass.1 (omega (arith, c.args.pass.now.tied.1)) c.requires.lock c.requires.swept)
