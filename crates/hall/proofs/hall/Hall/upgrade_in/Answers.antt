use Rattle.std.proofs.Common.{rules, ◌∙◌, sym, arith, ap}
use Rattle.state_word.specs.Words.{up_of}
use Rattle.hall.specs.Plays.{conflicts_for_announcing}
use Rattle.hall.proofs.UpgradeSteps.{upgrades_in}
use Rattle.hall.proofs.hall.Hall.upgrade_in.Goals as goal

pub compare_exchange-found-requires : goal.compare_exchange-found-requires
compare_exchange-found-requires g c = (
  search rules,
  search rules,
  upgrades_in g.C.CargoRule c.args.self.now.table.shared.key _ _ _ c.args.lock _ c.place-place.ensures.value c.requires.pass.1 (omega (arith, c.args.pass.now.tied.1)) c.requires.lock _ _ c.requires.away (ap conflicts_for_announcing c.seen.view_is ∙ c.requires.seen) (c.compare_exchange.view_is ∙ c.up.ensures ∙ ap up_of (sym c.seen.view_is)),
)
