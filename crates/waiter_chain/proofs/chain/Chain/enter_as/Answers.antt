use Rattle.std.proofs.Common.{ℕ, ◌+◌, false, refl, subst, arith, ap, ◌∙◌}
use Rattle.waiter_chain.specs.Steps.{SeatState, Wins, Ranged, entry}
use Rattle.waiter_chain.specs.Calls.{Won, readied_state}
use Rattle.waiter_chain.specs.declared.turn.Turn.{Turn}
use Rattle.waiter_chain.specs.declared.view.StepKind.TheVariants as step_kind
use Rattle.waiter_chain.proofs.Passes.{wins_won}
use Rattle.waiter_chain.proofs.Enters.{swaps}
use Rattle.waiter_chain.proofs.chain.Chain.enter_as.Goals as goal

pub swap-found-requires : goal.swap-found-requires
swap-found-requires g c = let p = c.args.pass.now in let e = c.ready.ensures.readied in let o = c.args.self.now.table.shared.key in
    (c.ready.ensures.own.0 ∙ c.requires.own, omega (arith, c.args.self.now.sized.0), swaps (g.P.Freight.rule o) o.nodes g.M.Known.known c.requires.known _ _ c.ready.new.pass.seat.me _ (ap (λ z. z.0.stage) e) (omega (arith, p.same.0, ap (λ z. z.0.number) e)))

pub returns-then-found-eq0-clause-answer : goal.returns-then-found-eq0-clause-answer
returns-then-found-eq0-clause-answer g c =
    let p = c.args.pass.now in let m : SeatState g.row.P.Denot = p.seat.me in let n : SeatState g.row.P.Denot = c.swap-found.new.seat.me in
    let first : ℕ = p.number + 2 in let t : Turn = record { first = first; end = first; mark = first } in let slots : ℕ = c.args.self.now.table.shared.table_id.slots in
    let won : Wins g.M.Known.known (readied_state false m) first first first (entry m.0 step_kind.SwapIn 0 c.swap-found.result) n =
    subst (λ (x : SeatState g.row.P.Denot). Wins g.M.Known.known x first first first (entry x.0 step_kind.SwapIn 0 c.swap-found.result) n) c.ready.ensures.readied (c.swap-found.ensures.2.0 c.if-found-eq0.true) in
    let ranged : Ranged slots first first = (omega (arith, p.low, ap (λ z. z.slots) c.requires.own), λ ne. absurd (ne refl)) in (
      subst (λ (x : ℕ). Won g.M.Known.known slots t (readied_state false m) (entry m.0 step_kind.SwapIn 0 x) n) c.if-found-eq0.true (wins_won g.M.Known.known slots t (entry m.0 step_kind.SwapIn 0 c.swap-found.result) (readied_state false m) n c.requires.idle.1 ranged won),
      omega (arith, p.same.0),
      omega (arith, p.same.0),
      omega (arith, p.same.0),
    )
