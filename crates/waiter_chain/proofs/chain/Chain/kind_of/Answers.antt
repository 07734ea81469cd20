use Rattle.std.proofs.Common.{ℕ, ◌+◌, ◌*◌, ◌-◌, arith, ap, ◌∙◌, sym}
use Rattle.waiter_chain.specs.Steps.{SeatState, seen_job, moved, entry}
use Rattle.waiter_chain.specs.declared.view.Stage.TheVariants.{Owns}
use Rattle.waiter_chain.specs.declared.view.StepKind.TheVariants as step_kind
use Rattle.waiter_chain.proofs.Helps.{sees-kind}
use Rattle.waiter_chain.proofs.chain.Chain.kind_of.Goals as goal

pub load-requires : goal.load-requires
load-requires g c =
    let t = c.requires.turn in let p = c.args.pass.now.seat.me in let o = c.args.self.now.table.shared.key in let a = t.2 in let r = a.5.1 c.requires.waits in (
      c.requires.own,
      omega (arith, c.args.self.now.sized.0, c.args.self.now.sized.1, r.0, r.1),
      sees-kind (g.P.Freight.rule o) o.nodes _ _ p t.1 _ a.0 a.6.0 (λ z. c.requires.waits (sym a.1 ∙ z ∙ a.2)) (ap (λ (x : ℕ). 1 + 2 * (x - 2)) (sym a.1)),
    )

pub returns-else-load-eq1-clause-kind : goal.returns-else-load-eq1-clause-kind
returns-else-load-eq1-clause-kind g c =
    let e = c.load.ensures.2 in let f = e.3 c.if-load-eq1.false in let m : SeatState g.row.P.Denot = c.args.pass.now.seat.me in
    (e.0, e.1, f.1 ∙ ap (λ (x : ℕ). (moved m.0 (Owns (seen_job e.0)) (entry m.0 step_kind.LoadKind (1 + 2 * (c.args.turn.now.first - 2)) x), m.1)) f.0)
