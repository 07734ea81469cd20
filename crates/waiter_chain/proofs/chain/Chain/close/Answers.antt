use Rattle.std.proofs.Common.{subst}
use Rattle.atomic_table.specs.Table.{Final, Seen}
use Rattle.waiter_chain.specs.Chains.{Lawful}
use Rattle.waiter_chain.proofs.Closes.{closes}
use Rattle.waiter_chain.proofs.chain.Chain.close.Goals as goal

pub returns-clause-value : goal.returns-clause-value
returns-clause-value g c = let f = c.close_with-closed.ensures.values.2 in let rule = g.P.Freight.rule c.args.self.table.shared.key in
    closes rule _ c.args.pass.seat.id _ c.close_with-closed.result.words.items c.close_with-closed.result.slots.items _ (subst (λ n. Final (Seen (Lawful rule n) c.args.pass.seat.id c.args.pass.seat.me.0) c.close_with-closed.result.words.items c.close_with-closed.result.slots.items) c.args.self.sized.3 f) c.args.pass.same.3 c.requires.idle.0 c.take-value.ensures.value
