use Rattle.std.proofs.Common.{◌≡◌}
use Rattle.waiter_chain.specs.Hands.{turned_by}
use Rattle.waiter_chain.proofs.chain.ChainPass.turn_by.Given as goal

abbrev pub invariant-loop : goal.invariant-loop
invariant-loop g l =
    (l.self.seat.table_id ≡ l.fn.self.seat.table_id) × (l.self.seat.id ≡ l.fn.self.seat.id) × (l.self.behind ≡ l.fn.self.behind)
    × (l.self.seat.me ≡ (l.fn.self.seat.me.0, turned_by l.counter l.fn.self.seat.me.1)) × (l.self.number ≡ l.fn.self.number) × (l.self.quota ≡ l.fn.self.quota)
