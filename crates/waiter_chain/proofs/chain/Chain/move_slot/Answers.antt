use Rattle.std.proofs.Common.{arith, ap, ◌∙◌}
use Rattle.waiter_chain.proofs.Turns.{stands_first, moved_told}
use Rattle.waiter_chain.proofs.chain.Chain.move_slot.Goals as goal

pub turns_to-turns-requires : goal.turns_to-turns-requires
turns_to-turns-requires g c = let p = c.args.pass.now in omega (arith, c.args.self.now.sized.0, c.args.self.now.sized.1, p.low, ap (λ z. z.slots) c.requires.own)

pub exchange-old-requires : goal.exchange-old-requires
exchange-old-requires g c = let h = c.requires.held in
    (c.turn_by.ensures.own.0 ∙ c.requires.own, (h.2, stands_first _ _ _ h.2 h.0 h.1 c.args.pass.now.seat.me c.turn_by.new.self.seat.me c.turns_to-turns.ensures h.4 h.3 c.turn_by.ensures.turned))

pub returns-clause-moved : goal.returns-clause-moved
returns-clause-moved g c before after y hand stands =
    moved_told _ _ _ y _ _ before after c.args.pass.now.seat.me c.turn_by.new.self.seat.me c.exchange-old.new.seat.me _ c.turns_to-turns.ensures stands hand c.turn_by.ensures.turned c.exchange-old.ensures.2 c.exchange-old.ensures.3 c.turn_by-2.ensures.turned
