use Rattle.std.proofs.Common.{rules, ◌∙◌, sym, arith, ap}
use Rattle.state_word.specs.Words.{enter_of}
use Rattle.hall.specs.Plays.{conflicts_for_shared}
use Rattle.hall.proofs.Allowing.{enters}
use Rattle.hall.proofs.hall.Hall.enter.Goals as goal

pub compare_exchange-found-requires : goal.compare_exchange-found-requires
compare_exchange-found-requires g c = (
  search rules,
  search rules,
  enters g.C.CargoRule c.args.self.now.table.shared.key _ _ _ c.args.lock _ c.place-place.ensures.value c.requires.pass.1 (omega (arith, c.args.pass.now.tied.1)) c.requires.lock _ _ c.requires.away (ap (conflicts_for_shared c.args.self.now.table.shared.key.shape.policy) c.seen.view_is ∙ c.requires.seen) (c.compare_exchange.view_is ∙ c.enter.ensures ∙ ap enter_of (sym c.seen.view_is)),
)
