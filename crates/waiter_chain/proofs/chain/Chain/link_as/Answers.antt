use Rattle.std.proofs.Common.{ℕ, ◌+◌, ◌*◌, ◌-◌, refl, arith, ap, ◌∙◌, sym}
use Rattle.waiter_chain.proofs.Passes.{owns_at, link_told}
use Rattle.waiter_chain.proofs.Helps.{sees-link}
use Rattle.waiter_chain.proofs.chain.Chain.link_as.Goals as goal

pub load-link-requires : goal.load-link-requires
load-link-requires g c =
    let t = c.requires.turn in let e = c.requires.seen in let p = c.args.pass.now.seat.me in let o = c.args.self.now.table.shared.key in
    let a = owns_at _ c.args.turn.now t.0 p e.0 t.1 e.1 t.2 in let r = a.5.1 c.requires.waits in (
      c.requires.own,
      omega (arith, c.args.self.now.sized.0, c.args.self.now.sized.1, r.0, r.1),
      sees-link (g.P.Freight.rule o) o.nodes g.M.Known.known c.requires.known _ _ p e.0 _ e.1 a.6.0 e.2 (λ z. c.requires.waits (sym a.1 ∙ z ∙ a.2)) (ap (λ (x : ℕ). 2 + 2 * (x - 2)) (sym a.1)),
    )

pub returns-then-link-ne0-clause-link : goal.returns-then-link-ne0-clause-link
returns-then-link-ne0-clause-link g c = let t = c.requires.turn in
    link_told g.M.Known.known _ c.args.turn.now t.0 c.args.pass.now.seat.me c.load-link.new.seat.me c.turn_by.new.self.seat.me t.1 c.load-link.result _ refl t.2.0 t.2 c.load-link.ensures.2 (λ z. absurd (c.if-link-ne0.true z)) (λ _. c.turn_by.ensures.turned)

pub returns-else-link-ne0-clause-link : goal.returns-else-link-ne0-clause-link
returns-else-link-ne0-clause-link g c = let t = c.requires.turn in
    link_told g.M.Known.known _ c.args.turn.now t.0 c.args.pass.now.seat.me c.load-link.new.seat.me c.load-link.new.seat.me t.1 c.load-link.result _ refl t.2.0 t.2 c.load-link.ensures.2 (λ _. refl) (λ ne. absurd (ne c.if-link-ne0.false))
