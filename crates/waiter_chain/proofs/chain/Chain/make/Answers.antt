use Rattle.std.proofs.Common.{sym, subst, ◌∙◌}
use Rattle.waiter_chain.specs.declared.view.Opening.{Opening}
use Rattle.waiter_chain.specs.Goods.{opened}
use Rattle.waiter_chain.proofs.Opens.{opens}
use Rattle.waiter_chain.proofs.Shown.{chain_shows}
use Rattle.waiter_chain.proofs.chain.Chain.make.Goals as goal

pub new-requires : goal.new-requires
new-requires g c = let o : Opening g.row.P.Denot = record { nodes = c.args.nodes; quota = c.args.quota; first = c.of.result } in
    opens (g.P.Freight.rule o) c.args.nodes c.args.quota c.deref.result.now c.in_ok-slots.slots.items c.args.first c.requires.nodes.0 c.ranges.quota.fits (c.deref.ensures.value ∙ c.in_ok-words.ensures) c.in_ok-slots.ensures
    (subst (λ x. g.P.Freight.rule o (opened x c.args.quota)) c.of.ensures (g.P.Freight.opens o c.ranges.quota.fits (subst (λ x. g.P.Freight.admits x c.args.quota) (sym c.of.ensures) c.requires.admits)))

pub returns-clause-shows : goal.returns-clause-shows
returns-clause-shows g c s o = chain_shows (g.P.Freight.rule _) _ s o
