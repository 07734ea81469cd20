use Rattle.std.proofs.Common.{◌≡◌, ℕ, List, [], refl, sym, ap, subst}
use Rattle.waiter_chain.specs.Steps.{seen_job}
use Rattle.waiter_chain.specs.Calls.{MayEnd}
use Rattle.waiter_chain.specs.declared.turn.Kind.TheVariants as kind
use Rattle.waiter_chain.proofs.Hands.{still_ends, seen_turn}
use Rattle.combine_job.specs.Parcels.{Related}
use Rattle.combine_job.proofs.Finding.{seen_ends, found}
use Rattle.combine_job.proofs.tests.find_job.Goals as goal

pub next-requires-clause-ends : goal.next-requires-clause-ends
next-requires-clause-ends g c _ =
    subst (λ (x : ℕ × List _). MayEnd (Related g.V.Room.rooms g.J.Job.means) x.0 x.1 c.args.pass.now.seat.me) (λ i. (sym c.new-none.ensures.1 i, sym c.new-none.ensures.0 i)) c.requires.ends

pub link_of-link-requires-clause-turn : goal.link_of-link-requires-clause-turn
link_of-link-requires-clause-turn g c = seen_turn _ _ c.in-Waits.turn c.next.new.pass.seat.me c.kind_of.new.pass.seat.me kind.WithJob c.in-Waits.ensures.answer.2 c.in-WithJob.ensures.kind

pub link_of-link-requires-clause-seen : goal.link_of-link-requires-clause-seen
link_of-link-requires-clause-seen g c = let e = c.in-WithJob.ensures.kind in (seen_job e.0, ap (λ z. z.0.stage) e.2, refl)

pub returns-clause-found : goal.returns-clause-found
returns-clause-found g c =
    let t = c.in-Waits.turn in let a = c.in-Waits.ensures.answer in let relates = Related g.V.Room.rooms g.J.Job.means in
    let m = c.args.pass.now.seat.me in let l = c.next.new.pass.seat.me in let s = c.kind_of.new.pass.seat.me in
    let first = subst (λ (x : ℕ × List _). MayEnd relates x.0 x.1 m) (λ i. (sym c.new-none.ensures.1 i, sym c.new-none.ensures.0 i)) c.requires.ends in
    let still = subst (λ (x : ℕ × List _). MayEnd relates x.0 x.1 l) (λ i. (c.new-none.ensures.1 i, c.new-none.ensures.0 i)) (still_ends relates _ _ _ c.args.turn t c.in-Waits.node m l a first) in
    found relates _ _ 0 [] t s c.link_of-link.new.pass.seat.me c.link_of-link.result (seen_turn _ _ t l s kind.WithJob a.2 c.in-WithJob.ensures.kind) (seen_ends relates 0 [] _ l s kind.WithJob still c.in-WithJob.ensures.kind) a.0 c.if-link-eq0.false c.link_of-link.ensures.link
