use Rattle.std.proofs.Common.{arith}
use Rattle.acquire_many.specs.Wants.{StandsBefore}
use Rattle.acquire_many.proofs.Below.{below_next}
use Rattle.acquire_many.proofs.wants.same_at.Goals as goal

pub loop-position-preserved : goal.loop-position-preserved
loop-position-preserved c = below_next (λ i. StandsBefore c.args.wants.now i → ⊥) c.loop-position.position c.loop-position.invariant c.if-stands_before.ensures

pub returns : goal.returns
returns c = λ k lt. c.loop-position.invariant k (omega (arith, lt, c.loop-position-test.false))
