use Rattle.std.proofs.Common.{refl}
use Rattle.waiter_chain.specs.Steps.{passed}
use Rattle.waiter_chain.proofs.Passes.{owns_at, saw_turn, follows}
use Rattle.waiter_chain.proofs.chain.Chain.next.Goals as goal

pub take_line-requires-clause-turn : goal.take_line-requires-clause-turn
take_line-requires-clause-turn g c =
    let f = c.free_as.ensures.taken c.if-free_as.false in let t = c.requires.turn in let m = c.args.pass.now.seat.me in
    (t.0, passed f.0, saw_turn _ c.args.turn t.0 m c.free_as.new.pass.seat.me f.0 f.3 (owns_at _ c.args.turn t.0 m f.0 t.1 f.1 t.2), refl)

pub returns-clause-answer : goal.returns-clause-answer
returns-clause-answer g c =
    let f = c.free_as.ensures.taken c.if-free_as.false in
    follows _ _ _ c.args.turn c.args.pass.now.seat.me c.free_as.new.pass.seat.me c.take_line.new.pass.seat.me f.0 c.take_line.result c.if-turn.false f.1 f.2 f.3 c.take_line.ensures.answer
