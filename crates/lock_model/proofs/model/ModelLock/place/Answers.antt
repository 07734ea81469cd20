use Rattle.std.proofs.Common.{arith, ap, sym}
use Rattle.lock_model.specs.Locks.{Lock}
use Rattle.lock_model.proofs.Placing.{found, passed, ended}
use Rattle.lock_model.proofs.model.ModelLock.place.Goals as goal

pub returns-then-index-seat-clause-some : goal.returns-then-index-seat-clause-some
returns-then-index-seat-clause-some c = found c.args.self.now.seats c.self.inside.seats.items (sym (ap (λ (z : Lock). z.seats) c.self.view_is)) c.loop-place.place c.args.seat c.loop-place.invariant c.index.result.now (let t = c.loop-place-test.true in let n = c.len-place-end.ensures in omega arith) c.index.ensures c.if-index-seat.true

pub loop-place-preserved : goal.loop-place-preserved
loop-place-preserved c = passed c.args.self.now.seats c.self.inside.seats.items (sym (ap (λ (z : Lock). z.seats) c.self.view_is)) c.loop-place.place c.args.seat c.loop-place.invariant c.index.result.now (let t = c.loop-place-test.true in let n = c.len-place-end.ensures in omega arith) c.index.ensures c.if-index-seat.false

pub returns-clause-none : goal.returns-clause-none
returns-clause-none c = ended c.args.self.now.seats c.self.inside.seats.items (sym (ap (λ (z : Lock). z.seats) c.self.view_is)) c.loop-place.place c.args.seat c.loop-place.invariant (let t = c.loop-place-test.false in let n = c.len-place-end.ensures in omega arith)
