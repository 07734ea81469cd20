use Rattle.std.proofs.Common.{Some, refl, ap, ◌∙◌, arith}
use Rattle.waiter_chain.specs.Hands.{turned_by}
use Rattle.waiter_chain.proofs.Passes.{served_told, come_first}
use Rattle.waiter_chain.proofs.Helps.{does-job}
use Rattle.waiter_chain.proofs.chain.Chain.serve_as.Goals as goal

pub store-requires : goal.store-requires
store-requires g c =
    let e = c.requires.serves in let p = c.turn_by.new.self.seat.me in let o = c.args.self.now.table.shared.key in let t = c.turn_by.ensures.turned in (
      c.turn_by.ensures.own.0 ∙ c.requires.own,
      omega (arith, c.args.self.now.sized.0, c.args.self.now.sized.1, e.14, e.15),
      does-job (g.P.Freight.rule o) o.nodes g.P.Freight.relates (g.P.Freight.ends o) (g.P.Freight.serves o) _ _ p e.0 _ g.M.Ran.count g.M.Ran.ran e.2 e.3 e.4 e.5 e.6 _ (ap (λ z. z.0.stage) t ∙ e.7) e.11
          (ap (λ z. z.1) t ∙ ap (turned_by 10) e.13 ∙ come_first e.0.mine c.args.pass.now.seat.me.0.number e.6 (0, Some e.4) _ _ e.12) refl e.16 (omega (arith, e.17, ap (λ z. z.0.quota) t)) e.18 e.19,
    )

pub returns-clause-served : goal.returns-clause-served
returns-clause-served g c = served_told g.P.Freight.relates _ g.M.Ran.count g.M.Ran.ran c.args.turn _ c.args.link _ c.args.pass.now.seat.me c.turn_by.new.self.seat.me c.store.new.seat.me refl refl refl refl c.requires.serves c.turn_by.ensures.turned c.store.ensures.2
