use Rattle.std.proofs.Common.{◌≡◌, ℕ, List, [], sym, subst}
use Rattle.waiter_chain.specs.Calls.{MayEnd}
use Rattle.combine_job.specs.Parcels.{Related}
use Rattle.combine_job.proofs.tests.give_up.Goals as goal

pub next-requires-clause-ends : goal.next-requires-clause-ends
next-requires-clause-ends g c _ =
    subst (λ (x : ℕ × List _). MayEnd (Related g.V.Room.rooms g.J.Job.means) x.0 x.1 c.args.pass.now.seat.me) (λ i. (sym c.new-none.ensures.1 i, sym c.new-none.ensures.0 i)) c.requires.ends
