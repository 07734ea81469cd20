use Rattle.std.proofs.Common.{◌≡◌, arith, Option, Some, None, sym, ap, ◌∙◌, subst}
use Rattle.combine_job.specs.Parcels.{kept_in}
use Rattle.dist_mutex.proofs.mutex.DistMutex.close.Goals.{in-Some, in-None}
use Rattle.dist_mutex.specs.Owners.{Ends}
use Rattle.dist_mutex.proofs.Finds.{some_inside, all_answers}
use Rattle.dist_mutex.proofs.mutex.DistMutex.close.Goals as goal

some-none : {A : Type 0} (x : A) → ◌≡◌ {A = Option A} (Some x) None → ⊥
some-none x e = cc

pub returns-clause-value : goal.returns-clause-value
returns-clause-value g c all =
    let e = c.close-value.ensures.value all in let o = c.args.self.chain.table.shared.key in let own = c.args.pass.pass.seat.me.0.own in
    elim c.match-value.branch [
      | in-Some w ↦
          subst (Ends g.V.Room.rooms g.J.Job.means o own) (ap kept_in (some_inside e.0.value w.in-Some.parcel (sym e.2 ∙ w.in-Some.is)) ∙ sym w.kept-kept.ensures ∙ sym w.kept-is)
          (all_answers g.V.Room.rooms g.J.Job.means g.J.Job.is_ready o c.args.pass.pass.seat.me.0 e.0 e.1 (λ n low. (e.3 n (omega (arith, low, c.args.self.chain.sized.3))).1) e.4)
      | in-None w ↦ absurd (some-none e.0.value (sym e.2 ∙ w.in-None.is))
    ]
