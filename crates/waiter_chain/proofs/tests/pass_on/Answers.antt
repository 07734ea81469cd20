use Rattle.std.proofs.Common.{ℕ, List, sym, subst}
use Rattle.waiter_chain.specs.Calls.{MayEnd}
use Rattle.waiter_chain.specs.contracts.tests.MarkFreight.TheImpl.{ghosts}
use Rattle.waiter_chain.proofs.Hands.{won_turn, won_ends, still_ends}
use Rattle.waiter_chain.proofs.tests.pass_on.Goals as goal

pub next-requires-clause-turn : goal.next-requires-clause-turn
next-requires-clause-turn c = let w = c.requires.won in won_turn (λ x. Unit {0}) _ _ w.0 _ w.1 w.2

pub next-requires-clause-ends : goal.next-requires-clause-ends
next-requires-clause-ends c _ = let w = c.requires.won in
    subst (λ (x : ℕ × List _). MayEnd ghosts.relates x.0 x.1 c.args.pass.now.seat.me) (λ i. (sym c.new-none.ensures.1 i, sym c.new-none.ensures.0 i)) (won_ends ghosts.relates (λ x. Unit {0}) _ _ w.0 _ w.1 w.2)

pub grant-requires-clause-ends : goal.grant-requires-clause-ends
grant-requires-clause-ends c = let w = c.requires.won in
    still_ends ghosts.relates _ _ _ c.args.turn c.in-Waits.turn c.in-Waits.node c.args.pass.now.seat.me c.next.new.pass.seat.me c.in-Waits.ensures.answer
    (subst (λ (x : ℕ × List _). MayEnd ghosts.relates x.0 x.1 c.args.pass.now.seat.me) (λ i. (sym c.new-none.ensures.1 i, sym c.new-none.ensures.0 i)) (won_ends ghosts.relates (λ x. Unit {0}) _ _ w.0 _ w.1 w.2))
