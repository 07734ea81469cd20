use Rattle.std.proofs.Common.{◌≡◌, ℕ, ◌+◌, ◌-◌, ◌*◌, [], ◌∷◌, Some, None, sym, ap, ◌∙◌, subst, arith}
use Rattle.atomic_table.specs.Table.{rest}
use Rattle.waiter_chain.specs.Steps.{OwnHand}
use Rattle.waiter_chain.proofs.Turns.{same_first}
use Rattle.waiter_chain.proofs.Hands.{behind_one, owner_front}
use Rattle.combine_job.specs.declared.parcel.Parcel.TheVariants.{Value, Posted, Answered}
use Rattle.combine_job.specs.Parcels.{Related}
use Rattle.combine_job.proofs.Posting.{inside, is_there, posted_inside, job_held, job_moved, front_held, front_moved, answer_held, answer_moved}
use Rattle.combine_job.proofs.combining.run_posted.Goals as goal

pub move_slot-posted-requires-clause-held : goal.move_slot-posted-requires-clause-held
move_slot-posted-requires-clause-held g c =
    let d = c.requires.taken in let x : ℕ = c.args.turn.first - 2 in let m0 = c.args.pass.now.seat.me in
    job_held d.0.mine x d.3 m0.0 d.9 d.10 _ None d.2 (Some (Posted d.1)) m0 (ap (λ (y : ℕ). 1 + 2 * y) c.node.ensures) (ap (λ z. (m0.0, z)) d.11)

pub unwrap-requires : goal.unwrap-requires
unwrap-requires g c =
    let d = c.requires.taken in let x : ℕ = c.args.turn.first - 2 in let m0 = c.args.pass.now.seat.me in
    let j1 = job_moved d.0.mine x d.3 m0.0 d.9 d.10 (1 + 2 * c.node.result) None d.2 (Some (Posted d.1)) None c.move_slot-posted.result m0 c.move_slot-posted.new.pass.seat.me (ap (λ (y : ℕ). 1 + 2 * y) c.node.ensures) (ap (λ z. (m0.0, z)) d.11) c.move_slot-posted.ensures.moved in
    is_there _ (Posted d.1) j1.0

pub into_job-job-requires : goal.into_job-job-requires
into_job-job-requires g c =
    let d = c.requires.taken in let x : ℕ = c.args.turn.first - 2 in let m0 = c.args.pass.now.seat.me in
    let j1 = job_moved d.0.mine x d.3 m0.0 d.9 d.10 (1 + 2 * c.node.result) None d.2 (Some (Posted d.1)) None c.move_slot-posted.result m0 c.move_slot-posted.new.pass.seat.me (ap (λ (y : ℕ). 1 + 2 * y) c.node.ensures) (ap (λ z. (m0.0, z)) d.11) c.move_slot-posted.ensures.moved in
    let job : c.unwrap.result ≡ Posted d.1 = inside c.unwrap.result (Posted d.1) (sym c.unwrap.ensures ∙ j1.0) in
    (d.1, job)

pub run_once-answer-requires-clause-ready : goal.run_once-answer-requires-clause-ready
run_once-answer-requires-clause-ready g c =
    let d = c.requires.taken in let x : ℕ = c.args.turn.first - 2 in let m0 = c.args.pass.now.seat.me in
    let j1 = job_moved d.0.mine x d.3 m0.0 d.9 d.10 (1 + 2 * c.node.result) None d.2 (Some (Posted d.1)) None c.move_slot-posted.result m0 c.move_slot-posted.new.pass.seat.me (ap (λ (y : ℕ). 1 + 2 * y) c.node.ensures) (ap (λ z. (m0.0, z)) d.11) c.move_slot-posted.ensures.moved in
    let job : c.unwrap.result ≡ Posted d.1 = inside c.unwrap.result (Posted d.1) (sym c.unwrap.ensures ∙ j1.0) in
    subst g.J.Job.is_ready (posted_inside d.1 c.into_job-job.result (sym job ∙ c.into_job-job.ensures)) d.17

pub move_slot-empty-requires-clause-held : goal.move_slot-empty-requires-clause-held
move_slot-empty-requires-clause-held g c =
    let d = c.requires.taken in let x : ℕ = c.args.turn.first - 2 in let m0 = c.args.pass.now.seat.me in
    let j1 = job_moved d.0.mine x d.3 m0.0 d.9 d.10 (1 + 2 * c.node.result) None d.2 (Some (Posted d.1)) None c.move_slot-posted.result m0 c.move_slot-posted.new.pass.seat.me (ap (λ (y : ℕ). 1 + 2 * y) c.node.ensures) (ap (λ z. (m0.0, z)) d.11) c.move_slot-posted.ensures.moved in
    front_held d.0.mine x d.3 m0.0 d.9 d.10 None d.2 None _ j1.1

pub move_slot-old-requires-clause-held : goal.move_slot-old-requires-clause-held
move_slot-old-requires-clause-held g c =
    let d = c.requires.taken in let x : ℕ = c.args.turn.first - 2 in let m0 = c.args.pass.now.seat.me in
    let j1 = job_moved d.0.mine x d.3 m0.0 d.9 d.10 (1 + 2 * c.node.result) None d.2 (Some (Posted d.1)) None c.move_slot-posted.result m0 c.move_slot-posted.new.pass.seat.me (ap (λ (y : ℕ). 1 + 2 * y) c.node.ensures) (ap (λ z. (m0.0, z)) d.11) c.move_slot-posted.ensures.moved in
    let o = c.run_once-answer in
    let f2 = front_moved d.0.mine x d.3 m0.0 d.9 d.10 None d.2 None (Some o.result.1) c.move_slot-empty.result c.move_slot-posted.new.pass.seat.me c.move_slot-empty.new.pass.seat.me j1.1 c.move_slot-empty.ensures.moved in
    answer_held d.0.mine x d.3 m0.0 d.9 d.10 _ (Some o.result.1) d.2 None _ (omega (arith, c.node.ensures)) f2.1

pub step_over-turn-requires-clause-serves : goal.step_over-turn-requires-clause-serves
step_over-turn-requires-clause-serves g c =
    let d = c.requires.taken in let x : ℕ = c.args.turn.first - 2 in let m0 = c.args.pass.now.seat.me in
    let j1 = job_moved d.0.mine x d.3 m0.0 d.9 d.10 (1 + 2 * c.node.result) None d.2 (Some (Posted d.1)) None c.move_slot-posted.result m0 c.move_slot-posted.new.pass.seat.me (ap (λ (y : ℕ). 1 + 2 * y) c.node.ensures) (ap (λ z. (m0.0, z)) d.11) c.move_slot-posted.ensures.moved in
    let o = c.run_once-answer in
    let f2 = front_moved d.0.mine x d.3 m0.0 d.9 d.10 None d.2 None (Some o.result.1) c.move_slot-empty.result c.move_slot-posted.new.pass.seat.me c.move_slot-empty.new.pass.seat.me j1.1 c.move_slot-empty.ensures.moved in
    let a3 = answer_moved d.0.mine x d.3 m0.0 d.9 d.10 (1 + 2 * c.node.result + 1) (Some o.result.1) d.2 None (Some o.result.0) c.move_slot-old.result c.move_slot-empty.new.pass.seat.me c.move_slot-old.new.pass.seat.me (omega (arith, c.node.ensures)) f2.1 c.move_slot-old.ensures.moved in
    let job : c.unwrap.result ≡ Posted d.1 = inside c.unwrap.result (Posted d.1) (sym c.unwrap.ensures ∙ j1.0) in
    let related = subst (λ y. Related g.V.Room.rooms g.J.Job.means (Value c.args.kept) y o.result.0 o.result.1) (sym c.into_job-job.ensures ∙ job) o.ensures.related in (
      d.0,
      Posted d.1,
      o.result.0,
      Value c.args.kept,
      o.result.1,
      None,
      d.3,
      ap (λ z. z.0.stage) a3.1 ∙ d.4,
      d.5,
      d.6,
      d.7,
      d.8,
      subst (λ (i : ℕ). OwnHand d.0.mine i d.3) (sym (ap (λ z. z.0.number) a3.1)) d.9,
      ap (λ z. z.1) a3.1,
      d.12,
      d.13,
      d.14,
      omega (arith, d.15, ap (λ z. z.0.quota) a3.1),
      d.16,
      related,
    )

pub move_slot-left-requires-clause-held : goal.move_slot-left-requires-clause-held
move_slot-left-requires-clause-held g c =
    let d = c.requires.taken in let x : ℕ = c.args.turn.first - 2 in let m0 = c.args.pass.now.seat.me in
    let j1 = job_moved d.0.mine x d.3 m0.0 d.9 d.10 (1 + 2 * c.node.result) None d.2 (Some (Posted d.1)) None c.move_slot-posted.result m0 c.move_slot-posted.new.pass.seat.me (ap (λ (y : ℕ). 1 + 2 * y) c.node.ensures) (ap (λ z. (m0.0, z)) d.11) c.move_slot-posted.ensures.moved in
    let o = c.run_once-answer in
    let f2 = front_moved d.0.mine x d.3 m0.0 d.9 d.10 None d.2 None (Some o.result.1) c.move_slot-empty.result c.move_slot-posted.new.pass.seat.me c.move_slot-empty.new.pass.seat.me j1.1 c.move_slot-empty.ensures.moved in
    let a3 = answer_moved d.0.mine x d.3 m0.0 d.9 d.10 (1 + 2 * c.node.result + 1) (Some o.result.1) d.2 None (Some o.result.0) c.move_slot-old.result c.move_slot-empty.new.pass.seat.me c.move_slot-old.new.pass.seat.me (omega (arith, c.node.ensures)) f2.1 c.move_slot-old.ensures.moved in
    let s = c.step_over-turn.new.pass.seat.me in let w = c.step_over-turn.ensures.served in let e = w.4 in
    let now : o.result.1 ≡ e.1 = inside o.result.1 e.1 (same_first 0 0 (Some o.result.1) (Some e.1) _ _ (sym (ap (λ z. z.1) a3.1) ∙ e.6)) in
    let hand : s.1 ≡ (0, Some e.1) ∷ rest s.1 = behind_one (0, Some e.1) e.4 s.1 (ap (λ z. z.1) e.7) in
    let stands = owner_front c.args.chain.now.table.shared.table_id.slots c.step_over-turn.result w.3.0 s w.3.1 w.3.2 in
    ([], rest s.1, Some e.1, hand, stands)

pub unwrap-requires-2 : goal.unwrap-requires-2
unwrap-requires-2 g c =
    let d = c.requires.taken in let x : ℕ = c.args.turn.first - 2 in let m0 = c.args.pass.now.seat.me in
    let j1 = job_moved d.0.mine x d.3 m0.0 d.9 d.10 (1 + 2 * c.node.result) None d.2 (Some (Posted d.1)) None c.move_slot-posted.result m0 c.move_slot-posted.new.pass.seat.me (ap (λ (y : ℕ). 1 + 2 * y) c.node.ensures) (ap (λ z. (m0.0, z)) d.11) c.move_slot-posted.ensures.moved in
    let o = c.run_once-answer in
    let f2 = front_moved d.0.mine x d.3 m0.0 d.9 d.10 None d.2 None (Some o.result.1) c.move_slot-empty.result c.move_slot-posted.new.pass.seat.me c.move_slot-empty.new.pass.seat.me j1.1 c.move_slot-empty.ensures.moved in
    let a3 = answer_moved d.0.mine x d.3 m0.0 d.9 d.10 (1 + 2 * c.node.result + 1) (Some o.result.1) d.2 None (Some o.result.0) c.move_slot-old.result c.move_slot-empty.new.pass.seat.me c.move_slot-old.new.pass.seat.me (omega (arith, c.node.ensures)) f2.1 c.move_slot-old.ensures.moved in
    let s = c.step_over-turn.new.pass.seat.me in let w = c.step_over-turn.ensures.served in let e = w.4 in
    let now : o.result.1 ≡ e.1 = inside o.result.1 e.1 (same_first 0 0 (Some o.result.1) (Some e.1) _ _ (sym (ap (λ z. z.1) a3.1) ∙ e.6)) in
    let hand : s.1 ≡ (0, Some e.1) ∷ rest s.1 = behind_one (0, Some e.1) e.4 s.1 (ap (λ z. z.1) e.7) in
    let stands = owner_front c.args.chain.now.table.shared.table_id.slots c.step_over-turn.result w.3.0 s w.3.1 w.3.2 in
    is_there _ e.1 (c.move_slot-left.ensures.moved [] (rest s.1) (Some e.1) hand stands).0

pub into_kept-kept-requires : goal.into_kept-kept-requires
into_kept-kept-requires g c =
    let d = c.requires.taken in let x : ℕ = c.args.turn.first - 2 in let m0 = c.args.pass.now.seat.me in
    let j1 = job_moved d.0.mine x d.3 m0.0 d.9 d.10 (1 + 2 * c.node.result) None d.2 (Some (Posted d.1)) None c.move_slot-posted.result m0 c.move_slot-posted.new.pass.seat.me (ap (λ (y : ℕ). 1 + 2 * y) c.node.ensures) (ap (λ z. (m0.0, z)) d.11) c.move_slot-posted.ensures.moved in
    let o = c.run_once-answer in
    let f2 = front_moved d.0.mine x d.3 m0.0 d.9 d.10 None d.2 None (Some o.result.1) c.move_slot-empty.result c.move_slot-posted.new.pass.seat.me c.move_slot-empty.new.pass.seat.me j1.1 c.move_slot-empty.ensures.moved in
    let a3 = answer_moved d.0.mine x d.3 m0.0 d.9 d.10 (1 + 2 * c.node.result + 1) (Some o.result.1) d.2 None (Some o.result.0) c.move_slot-old.result c.move_slot-empty.new.pass.seat.me c.move_slot-old.new.pass.seat.me (omega (arith, c.node.ensures)) f2.1 c.move_slot-old.ensures.moved in
    let s = c.step_over-turn.new.pass.seat.me in let w = c.step_over-turn.ensures.served in let e = w.4 in
    let now : o.result.1 ≡ e.1 = inside o.result.1 e.1 (same_first 0 0 (Some o.result.1) (Some e.1) _ _ (sym (ap (λ z. z.1) a3.1) ∙ e.6)) in
    let hand : s.1 ≡ (0, Some e.1) ∷ rest s.1 = behind_one (0, Some e.1) e.4 s.1 (ap (λ z. z.1) e.7) in
    let stands = owner_front c.args.chain.now.table.shared.table_id.slots c.step_over-turn.result w.3.0 s w.3.1 w.3.2 in
    (o.ensures.answer.1, inside c.unwrap-2.result e.1 (sym c.unwrap-2.ensures ∙ (c.move_slot-left.ensures.moved [] (rest s.1) (Some e.1) hand stands).0) ∙ sym now ∙ o.ensures.answer.3)

pub returns-clause-ran : goal.returns-clause-ran
returns-clause-ran g c =
    let d = c.requires.taken in let x : ℕ = c.args.turn.first - 2 in let m0 = c.args.pass.now.seat.me in
    let j1 = job_moved d.0.mine x d.3 m0.0 d.9 d.10 (1 + 2 * c.node.result) None d.2 (Some (Posted d.1)) None c.move_slot-posted.result m0 c.move_slot-posted.new.pass.seat.me (ap (λ (y : ℕ). 1 + 2 * y) c.node.ensures) (ap (λ z. (m0.0, z)) d.11) c.move_slot-posted.ensures.moved in
    let o = c.run_once-answer in
    let f2 = front_moved d.0.mine x d.3 m0.0 d.9 d.10 None d.2 None (Some o.result.1) c.move_slot-empty.result c.move_slot-posted.new.pass.seat.me c.move_slot-empty.new.pass.seat.me j1.1 c.move_slot-empty.ensures.moved in
    let a3 = answer_moved d.0.mine x d.3 m0.0 d.9 d.10 (1 + 2 * c.node.result + 1) (Some o.result.1) d.2 None (Some o.result.0) c.move_slot-old.result c.move_slot-empty.new.pass.seat.me c.move_slot-old.new.pass.seat.me (omega (arith, c.node.ensures)) f2.1 c.move_slot-old.ensures.moved in
    let s = c.step_over-turn.new.pass.seat.me in let w = c.step_over-turn.ensures.served in let e = w.4 in
    let now : o.result.1 ≡ e.1 = inside o.result.1 e.1 (same_first 0 0 (Some o.result.1) (Some e.1) _ _ (sym (ap (λ z. z.1) a3.1) ∙ e.6)) in
    let hand : s.1 ≡ (0, Some e.1) ∷ rest s.1 = behind_one (0, Some e.1) e.4 s.1 (ap (λ z. z.1) e.7) in
    let stands = owner_front c.args.chain.now.table.shared.table_id.slots c.step_over-turn.result w.3.0 s w.3.1 w.3.2 in
    let job : c.unwrap.result ≡ Posted d.1 = inside c.unwrap.result (Posted d.1) (sym c.unwrap.ensures ∙ j1.0) in
    let related = subst (λ y. Related g.V.Room.rooms g.J.Job.means (Value c.args.kept) y o.result.0 o.result.1) (sym c.into_job-job.ensures ∙ job) o.ensures.related in
    let taken = c.move_slot-left.ensures.moved [] (rest s.1) (Some e.1) hand stands in
    let left : e.1 ≡ Value c.into_kept-kept.result = sym (inside c.unwrap-2.result e.1 (sym c.unwrap-2.ensures ∙ taken.0)) ∙ c.into_kept-kept.ensures in (
      d.1,
      o.ensures.answer.0,
      c.move_slot-old.new.pass.seat.me,
      s,
      subst (λ y. Related g.V.Room.rooms g.J.Job.means (Value c.args.kept) (Posted d.1) (Answered o.ensures.answer.0) y) (now ∙ left) (subst (λ y. Related g.V.Room.rooms g.J.Job.means (Value c.args.kept) (Posted d.1) y o.result.1) o.ensures.answer.2 related),
      ap (λ z. z.0) a3.1,
      w,
      hand ∙ ap (λ y. (0, Some y) ∷ rest s.1) left,
      taken.1,
    )
