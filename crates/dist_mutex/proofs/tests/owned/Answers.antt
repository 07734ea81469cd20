use Rattle.std.proofs.Common.{ℕ, List, sym, subst}
use Rattle.dist_mutex.specs.Owners.{Owning}
use Rattle.dist_mutex.specs.Passes.{slots_of, dist_state}
use Rattle.dist_mutex.proofs.tests.owned.Goals as goal

pub returns-clause-owner : goal.returns-clause-owner
returns-clause-owner g c = let l = c.take.ensures.locked c.args.clerk.now.pass.seat.me _ c.in-Owner.ensures.answer.0 in
    subst (λ (x : ℕ × List _). Owning g.V.Room.rooms g.J.Job.means (slots_of c.args.bank.now) (dist_state c.take.new.pass) x.0 x.1 c.take.result.turn c.take.result.kept) (λ i. (sym c.take.ensures.runs.1 i, sym c.take.ensures.runs.0 i)) l.2
