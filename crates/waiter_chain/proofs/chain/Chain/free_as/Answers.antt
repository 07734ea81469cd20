use Rattle.std.proofs.Common.{◌≡◌, ◌∷◌, Some, arith, refl, ap, ◌∙◌, sym, subst, inl, inr}
use Rattle.atomic_table.specs.Table.{rest}
use Rattle.waiter_chain.proofs.Frees.{looks}
use Rattle.waiter_chain.proofs.Endings.{frees-any}
use Rattle.waiter_chain.proofs.Passes.{owns_at}
use Rattle.waiter_chain.specs.Steps.{SeatState, OwnHand, passed, entry, moved}
use Rattle.waiter_chain.specs.declared.view.StepKind.TheVariants as step_kind
use Rattle.waiter_chain.specs.declared.view.Stage.TheVariants.{Owns}
use Rattle.waiter_chain.proofs.chain.Chain.free_as.Goals as goal

pub load-requires : goal.load-requires
load-requires g c = let o = c.args.self.now.table.shared.key in let e = c.requires.ends in let t = c.requires.turn in let a = owns_at _ c.args.turn.now t.0 c.args.pass.now.seat.me e.0 t.1 e.2 t.2 in
    (c.requires.own, omega (arith, c.args.self.now.sized.0), looks (g.P.Freight.rule o) o.nodes _ _ _ e.0 e.2)

pub returns-then-load-mark-clause-taken : goal.returns-then-load-mark-clause-taken
returns-then-load-mark-clause-taken g c _ =
    let e = c.requires.ends in let t = c.requires.turn in let p = c.args.pass.now.seat.me in
    let a = owns_at _ c.args.turn.now t.0 p e.0 t.1 e.2 t.2 in
    (e.0, e.2, a.3, inl ((c.load.ensures.2 e.0 e.2).1 (λ z. c.if-load-mark.true (z ∙ a.3))))

pub compare_exchange-requires : goal.compare_exchange-requires
compare_exchange-requires g c =
    let e = c.requires.ends in let t = c.requires.turn in let p = c.args.pass.now.seat.me in let o = c.args.self.now.table.shared.key in
    let a = owns_at _ c.args.turn.now t.0 p e.0 t.1 e.2 t.2 in
    let l = (c.load.ensures.2 e.0 e.2).0 (c.if-load-mark.false ∙ sym a.3) in (
      c.load.ensures.0 ∙ c.requires.own,
      omega (arith, c.args.self.now.sized.0),
      frees-any (g.P.Freight.rule o) o.nodes g.P.Freight.relates (g.P.Freight.ends o) _ _ c.load.new.seat.me e.0 g.M.Ran.count g.M.Ran.ran e.1 (ap (λ z. z.0.stage) l) a.6.0 (omega (arith, e.4, ap (λ z. z.0.quota) l)) e.6 _ e.0.mine refl
          (subst (λ (z : SeatState g.row.P.Denot). OwnHand e.0.mine z.0.number (rest z.1)) (sym l) a.6.1) (a.1 ∙ c.requires.empty ∙ sym a.2) (sym a.3) (subst (λ (z : SeatState g.row.P.Denot). z.1 ≡ (0, Some e.1) ∷ rest z.1) (sym l) e.3) e.5,
    )

pub returns-else-compare_exchange-mark-clause-taken : goal.returns-else-compare_exchange-mark-clause-taken
returns-else-compare_exchange-mark-clause-taken g c _ =
    let e = c.requires.ends in let t = c.requires.turn in let p = c.args.pass.now.seat.me in
    let a = owns_at _ c.args.turn.now t.0 p e.0 t.1 e.2 t.2 in
    let l = (c.load.ensures.2 e.0 e.2).0 (c.if-load-mark.false ∙ sym a.3) in
    let n = c.compare_exchange.ensures.2.1 c.if-compare_exchange-mark.false e.0 (ap (λ z. z.0.stage) l) in
    (e.0, e.2, a.3, inr (c.compare_exchange.result, (λ z. c.if-compare_exchange-mark.false (z ∙ a.3)), n ∙ ap (λ (z : SeatState g.row.P.Denot). (moved z.0 (Owns (passed e.0)) (entry z.0 step_kind.Free 0 c.compare_exchange.result), z.1)) l))
