use Rattle.waiter_chain.proofs.Passes.{entered_behind}
use Rattle.waiter_chain.proofs.chain.Chain.arrive.Goals as goal

pub link-requires-clause-behind : goal.link-requires-clause-behind
link-requires-clause-behind g c = entered_behind _ _ c.args.kind _ c.args.pass.now.seat.me c.enter.new.pass.seat.me c.in-Behind.ensures.answer
