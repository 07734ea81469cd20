use Rattle.std.proofs.Common.{ℕ, ◌+◌, ◌*◌, ◌-◌, arith, refl, ap, ◌∙◌, sym}
use Rattle.waiter_chain.proofs.Endings.{grants-any}
use Rattle.waiter_chain.proofs.Passes.{owns_at}
use Rattle.waiter_chain.proofs.chain.Chain.grant_as.Goals as goal

pub store-requires : goal.store-requires
store-requires g c =
    let e = c.requires.ends in let t = c.requires.turn in let p = c.args.pass.now.seat.me in let o = c.args.self.now.table.shared.key in
    let a = owns_at _ c.args.turn t.0 p e.0 t.1 e.2 t.2 in let r = a.5.1 c.requires.waits in (
      c.requires.own,
      omega (arith, c.args.self.now.sized.0, c.args.self.now.sized.1, r.0, r.1),
      grants-any (g.P.Freight.rule o) o.nodes g.P.Freight.relates (g.P.Freight.ends o) _ _ p e.0 g.M.Ran.count g.M.Ran.ran e.1 e.2 a.6.0 e.4 e.6 _ _ e.0.mine refl a.6.1 (λ z. c.requires.waits (sym a.1 ∙ z ∙ a.2)) (ap (λ (x : ℕ). 1 + 2 * (x - 2)) (sym a.1)) (ap (λ (x : ℕ). x + 4) (sym a.2)) e.3 e.5,
    )
