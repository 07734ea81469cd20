use Rattle.std.proofs.Common.{ℕ, ◌+◌, ◌*◌, ◌≤◌, arith, ap, sym}
use Rattle.waiter_chain.proofs.JobPolls.{polls-any}
use Rattle.waiter_chain.proofs.Polled.{still_told, done_told, owner_told}
use Rattle.waiter_chain.proofs.chain.Chain.poll_as.Goals as goal

pub load-word-requires : goal.load-word-requires
load-word-requires g c = let p = c.args.pass.now in let o = c.args.self.now.table.shared.key in let b = c.requires.behind in
    (c.requires.own, omega (arith, c.args.self.now.sized.0, c.args.self.now.sized.1, p.low, ap (λ z. z.slots) c.requires.own), polls-any (g.P.Freight.rule o) o.nodes g.M.Known.known c.requires.known _ _ p.seat.me _ _ b.0 b.1 (ap (λ (n : ℕ). 1 + 2 * n) (sym p.same.0)))

pub returns-then-word-lt3-clause-answer : goal.returns-then-word-lt3-clause-answer
returns-then-word-lt3-clause-answer g c job mine = let p = c.args.pass.now in
    still_told g.M.Known.known _ _ _ _ p.seat.me _ job mine (ap (λ (n : ℕ). 1 + 2 * n) (sym p.same.0)) c.if-word-lt3.true c.load-word.ensures.2

pub returns-then-word-eq3-clause-answer : goal.returns-then-word-eq3-clause-answer
returns-then-word-eq3-clause-answer g c job mine = let p = c.args.pass.now in
    done_told g.M.Known.known _ _ _ _ p.seat.me _ job mine (ap (λ (n : ℕ). 1 + 2 * n) (sym p.same.0)) c.if-word-eq3.true c.load-word.ensures.2

pub returns-else-word-eq3-clause-answer : goal.returns-else-word-eq3-clause-answer
returns-else-word-eq3-clause-answer g c job mine = let p = c.args.pass.now in let r : ℕ = c.load-word.result in
    let big : 4 ≤ r = omega (arith, c.if-word-lt3.false, c.if-word-eq3.false) in
    owner_told g.M.Known.known _ _ _ _ p.seat.me _ job mine c.requires.behind.2 (ap (λ (n : ℕ). 1 + 2 * n) (sym p.same.0)) big c.load-word.ensures.2
