use Rattle.std.proofs.Common.{◌≡◌, ◌≢◌, ◌∷◌, ℕ, arith, ap, ◌∙◌, refl, sym, subst}
use Rattle.atomic_table.specs.Table.{rest}
use Rattle.waiter_chain.specs.Steps.{SeatState, OwnHand, Ranged, retook}
use Rattle.waiter_chain.proofs.Frees.{takes-line}
use Rattle.waiter_chain.proofs.chain.Chain.take_line.Goals as goal

pub swap-first-requires : goal.swap-first-requires
swap-first-requires g c = let t = c.requires.turn in let o = c.args.self.now.table.shared.key in let b = t.2 in
    (c.requires.own, omega (arith, c.args.self.now.sized.0), takes-line (g.P.Freight.rule o) o.nodes _ _ _ t.1 b.0 b.6.0 (b.1 ∙ c.requires.empty ∙ sym b.2) t.3)

pub returns-clause-answer : goal.returns-clause-answer
returns-clause-answer g c =
    let t = c.requires.turn in let k = t.1 in let b = t.2 in let s = c.swap-first.ensures.2 k b.0 in
    let r : ℕ = c.swap-first.result in let slots : ℕ = c.args.self.now.table.shared.table_id.slots in
    let a : (r ≢ c.args.turn.mark) × Ranged slots r c.args.turn.mark = subst (λ (x : ℕ). (r ≢ x) × Ranged slots r x) b.3 (s.1, s.2) in
    (a.0, omega (arith, (a.1.1 a.0).0), (t.0, retook k r, (ap (λ z. z.0.stage) s.0, refl, b.3, refl, subst (λ (z : SeatState g.row.P.Denot). z.1 ≡ (0, t.0) ∷ rest z.1) (sym s.0) b.4, a.1, (refl, subst (λ (z : SeatState g.row.P.Denot). OwnHand k.mine z.0.number (rest z.1)) (sym s.0) b.6.1))), refl, refl, (k, b.0, s.0))
