use Rattle.std.proofs.Common.{ℕ, ◌+◌, ◌*◌, [], ◌∷◌, Some, refl, sym, arith, ap, ◌∙◌}
use Rattle.waiter_chain.specs.Steps.{Ranged}
use Rattle.waiter_chain.proofs.Passes.{posted_wins, posted_waits}
use Rattle.waiter_chain.proofs.Posts.{posts}
use Rattle.waiter_chain.proofs.chain.Chain.post_as.Goals as goal

pub swap-found-requires : goal.swap-found-requires
swap-found-requires g c = let p = c.args.pass.now in let e = c.ready.ensures.readied in let o = c.args.self.now.table.shared.key in let h = c.requires.enters in (
  c.ready.ensures.own.0 ∙ c.requires.own,
  omega (arith, c.args.self.now.sized.0),
  posts g.P.Freight.is_job (g.P.Freight.rule o) o.nodes (g.P.Freight.posts o) g.M.Known.known c.requires.known _ _ c.ready.new.pass.seat.me h.1.0 _ (ap (λ z. z.0.stage) e)
      (ap (λ z. z.1) e ∙ h.1.1 ∙ ap (λ (x : ℕ). (1 + 2 * x, Some h.1.0) ∷ []) (sym (ap (λ z. z.0.number) e))) (omega (arith, h.2, ap (λ z. z.0.quota) e)) h.1.2 (omega (arith, p.same.0, ap (λ z. z.0.number) e)),
)

pub returns-then-found-ne0-clause-answer : goal.returns-then-found-ne0-clause-answer
returns-then-found-ne0-clause-answer g c = let p = c.args.pass.now in let h = c.requires.enters in
    posted_waits g.M.Known.known c.args.self.now.table.shared.table_id.slots (p.number + 2) c.swap-found.result p.seat.me c.ready.new.pass.seat.me c.swap-found.new.seat.me h.1.0 c.ready.ensures.readied h.1.1 c.if-found-ne0.true c.swap-found.ensures.2

pub returns-clause-answer : goal.returns-clause-answer
returns-clause-answer g c = let p = c.args.pass.now in let h = c.requires.enters in
    let ranged : Ranged c.args.self.now.table.shared.table_id.slots (p.number + 2) (p.number + 2) = (omega (arith, p.low, ap (λ z. z.slots) c.requires.own), λ ne. absurd (ne refl)) in
    (posted_wins g.M.Known.known c.args.self.now.table.shared.table_id.slots (p.number + 2) c.swap-found.result record { first = p.number + 2; end = p.number + 2; mark = p.number + 2 } p.seat.me c.ready.new.pass.seat.me c.swap-found.new.seat.me h.1.0 c.ready.ensures.readied h.1.1 c.if-found-ne0.false refl ranged c.swap-found.ensures.2, omega (arith, p.same.0), omega (arith, p.same.0), omega (arith, p.same.0))
