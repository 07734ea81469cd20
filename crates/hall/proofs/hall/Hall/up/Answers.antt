use Rattle.std.proofs.Common.{rules, ◌∙◌, sym, arith, ap}
use Rattle.state_word.specs.Words.{announce_of}
use Rattle.hall.proofs.UpgradeSteps.{announces_up}
use Rattle.hall.proofs.hall.Hall.up.Goals as goal

pub compare_exchange-found-requires : goal.compare_exchange-found-requires
compare_exchange-found-requires g c = (
  search rules,
  search rules,
  announces_up g.C.CargoRule c.args.self.now.table.shared.key _ _ _ c.args.lock _ c.place-place.ensures.value c.requires.pass.1 (omega (arith, c.args.pass.now.tied.1)) c.requires.lock _ _ c.requires.upgrade (c.compare_exchange.view_is ∙ c.announce.ensures ∙ ap announce_of (sym c.seen.view_is)),
)
