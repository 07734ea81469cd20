use Rattle.std.proofs.Common.{◌≡◌, ℕ, ◌+◌, ◌-◌, ◌*◌, [], ◌∷◌, length, Some, true, refl, sym, ap, ◌∙◌, subst, inl, inr, arith}
use Rattle.waiter_chain.specs.Steps.{entry, paid}
use Rattle.waiter_chain.specs.Calls.{readied_state}
use Rattle.waiter_chain.specs.declared.view.StepEntry.{StepEntry}
use Rattle.waiter_chain.specs.declared.view.StepKind.TheVariants.{SwapIn, StoreLink, LoadStatus, SetStatus}
use Rattle.waiter_chain.specs.declared.turn.Turn.{Turn}
use Rattle.waiter_chain.specs.declared.view.Stage.TheVariants.{Behind}
use Rattle.waiter_chain.proofs.Turns.{same_first}
use Rattle.combine_job.specs.declared.parcel.Parcel.TheVariants.{Posted}
use Rattle.combine_job.specs.Combining.{held_state}
use Rattle.combine_job.proofs.Posting.{inside}
use Rattle.dist_mutex.specs.Unlocks.{Unlocked, by}
use Rattle.dist_mutex.specs.Posts.{Waited}
use Rattle.dist_mutex.proofs.Answering.{won_posted, posted_went, went_linked, ran_once, rises_of, steps_of, related_of}
use Rattle.dist_mutex.proofs.mutex.DistMutex.lock_combine.Goals as goal

pub run_back-requires-clause-runs : goal.run_back-requires-clause-runs
run_back-requires-clause-runs g c =
    (c.requires.idle.1, omega (arith, c.args.pass.now.runs.counted, ap length c.requires.idle.1))

pub run_back-requires-clause-posted : goal.run_back-requires-clause-posted
run_back-requires-clause-posted g c =
    let m = c.args.pass.now.pass.seat.me in let job = c.args.job in let a = c.in-Owner.ensures.answer in let t = c.in-Owner.turn in let n = c.post.new.pass.seat.me in
    let h = held_state a.0 (Some (Posted job)) m in let e : StepEntry = entry h.0 SwapIn 0 0 in let w = a.1 in
    let won = won_posted g.V.Room.rooms g.J.Job.means g.J.Job.is_ready c.args.self.now.chain.table.shared.key c.args.self.now.chain.table.shared.table_id.slots t (readied_state true h) n e job refl (w.2 ∙ sym w.1) (w.3 ∙ sym w.1) w.0 in
    (job, won.0)

pub await_answer-requires-clause-runs : goal.await_answer-requires-clause-runs
await_answer-requires-clause-runs g c =
    (c.requires.idle.1, omega (arith, c.args.pass.now.runs.counted, ap length c.requires.idle.1))

pub await_answer-requires-clause-behind : goal.await_answer-requires-clause-behind
await_answer-requires-clause-behind g c =
    let m = c.args.pass.now.pass.seat.me in let job = c.args.job in let a = c.in-Waiting.ensures.answer in let n = c.post.new.pass.seat.me in let b = c.post.new.pass.behind in
    let h = held_state a.0 (Some (Posted job)) m in let x = a.1 in let l = x.0 in let y = x.1.1 in
    let same = inside y.0 (Posted job) (same_first _ _ (Some y.0) (Some (Posted job)) [] [] (sym y.1)) in
    let is : l ≡ (paid (readied_state true h).0 (m.0.quota - 1) (Behind b (Some (Posted job))) (entry h.0 SwapIn 0 b), []) = y.2 ∙ (λ i. (paid (readied_state true h).0 (m.0.quota - 1) (Behind b (Some (same i))) (entry h.0 SwapIn 0 b), [])) in
    (job, ap (λ z. z.0.stage) x.2 ∙ ap (λ z. z.0.stage) is, ap (λ z. z.1) x.2 ∙ ap (λ z. z.1) is)

pub returns-in-Owner-clause-answered : goal.returns-in-Owner-clause-answered
returns-in-Owner-clause-answered g c =
    let m = c.args.pass.now.pass.seat.me in let job = c.args.job in let a = c.in-Owner.ensures.answer in let t = c.in-Owner.turn in let n = c.post.new.pass.seat.me in
    let h = held_state a.0 (Some (Posted job)) m in let e : StepEntry = entry h.0 SwapIn 0 0 in let w = a.1 in
    let won = won_posted g.V.Room.rooms g.J.Job.means g.J.Job.is_ready c.args.self.now.chain.table.shared.key c.args.self.now.chain.table.shared.table_id.slots t (readied_state true h) n e job refl (w.2 ∙ sym w.1) (w.3 ∙ sym w.1) w.0 in
    let r = c.run_back.ensures.answered job won.0 in let z = c.run_back.new.pass.pass.seat.me in let answer = c.run_back.result in
    let went = posted_went m n (readied_state true h).0 n.0.stage _ _ _ _ n.1 refl refl refl refl refl won.1 in
    ran_once g.V.Room.rooms g.J.Job.means _ r.0 job answer m n z c.requires.quota went r.1

pub returns-in-Owner-clause-related : goal.returns-in-Owner-clause-related
returns-in-Owner-clause-related g c =
    let m = c.args.pass.now.pass.seat.me in let job = c.args.job in let a = c.in-Owner.ensures.answer in let t = c.in-Owner.turn in let n = c.post.new.pass.seat.me in
    let h = held_state a.0 (Some (Posted job)) m in let e : StepEntry = entry h.0 SwapIn 0 0 in let w = a.1 in
    let won = won_posted g.V.Room.rooms g.J.Job.means g.J.Job.is_ready c.args.self.now.chain.table.shared.key c.args.self.now.chain.table.shared.table_id.slots t (readied_state true h) n e job refl (w.2 ∙ sym w.1) (w.3 ∙ sym w.1) w.0 in
    let r = c.run_back.ensures.answered job won.0 in let z = c.run_back.new.pass.pass.seat.me in let answer = c.run_back.result in
    let went = posted_went m n (readied_state true h).0 n.0.stage _ _ _ _ n.1 refl refl refl refl refl won.1 in
    related_of g.V.Room.rooms g.J.Job.means job answer r.1.ran

pub returns-in-Owner-clause-rises : goal.returns-in-Owner-clause-rises
returns-in-Owner-clause-rises g c p far =
    let m = c.args.pass.now.pass.seat.me in let job = c.args.job in let a = c.in-Owner.ensures.answer in let t = c.in-Owner.turn in let n = c.post.new.pass.seat.me in
    let h = held_state a.0 (Some (Posted job)) m in let e : StepEntry = entry h.0 SwapIn 0 0 in let w = a.1 in
    let won = won_posted g.V.Room.rooms g.J.Job.means g.J.Job.is_ready c.args.self.now.chain.table.shared.key c.args.self.now.chain.table.shared.table_id.slots t (readied_state true h) n e job refl (w.2 ∙ sym w.1) (w.3 ∙ sym w.1) w.0 in
    let r = c.run_back.ensures.answered job won.0 in let z = c.run_back.new.pass.pass.seat.me in let answer = c.run_back.result in
    let went = posted_went m n (readied_state true h).0 n.0.stage _ _ _ _ n.1 refl refl refl refl refl won.1 in
    rises_of g.V.Room.rooms g.J.Job.means _ r.0 job answer m n z went r.1 p far

pub returns-in-Waiting-clause-answered : goal.returns-in-Waiting-clause-answered
returns-in-Waiting-clause-answered g c =
    let m = c.args.pass.now.pass.seat.me in let job = c.args.job in let a = c.in-Waiting.ensures.answer in let n = c.post.new.pass.seat.me in let b = c.post.new.pass.behind in
    let h = held_state a.0 (Some (Posted job)) m in let x = a.1 in let l = x.0 in let y = x.1.1 in
    let same = inside y.0 (Posted job) (same_first _ _ (Some y.0) (Some (Posted job)) [] [] (sym y.1)) in
    let is : l ≡ (paid (readied_state true h).0 (m.0.quota - 1) (Behind b (Some (Posted job))) (entry h.0 SwapIn 0 b), []) = y.2 ∙ (λ i. (paid (readied_state true h).0 (m.0.quota - 1) (Behind b (Some (same i))) (entry h.0 SwapIn 0 b), [])) in
    let stage : n.0.stage ≡ Behind b (Some (Posted job)) = ap (λ z. z.0.stage) x.2 ∙ ap (λ z. z.0.stage) is in
    let r = c.await_answer.ensures.answered job stage in let z = c.await_answer.new.pass.pass.seat.me in let answer = c.await_answer.result in
    let wl = posted_went m l (readied_state true h).0 _ _ _ _ _ [] refl refl refl refl refl is in
    let went = went_linked m l n _ (entry l.0 StoreLink (2 + 2 * l.0.number) b) wl x.2 in
    ran_once g.V.Room.rooms g.J.Job.means _ r.0 job answer m n z c.requires.quota went r.1

pub returns-in-Waiting-clause-related : goal.returns-in-Waiting-clause-related
returns-in-Waiting-clause-related g c =
    let m = c.args.pass.now.pass.seat.me in let job = c.args.job in let a = c.in-Waiting.ensures.answer in let n = c.post.new.pass.seat.me in let b = c.post.new.pass.behind in
    let h = held_state a.0 (Some (Posted job)) m in let x = a.1 in let l = x.0 in let y = x.1.1 in
    let same = inside y.0 (Posted job) (same_first _ _ (Some y.0) (Some (Posted job)) [] [] (sym y.1)) in
    let is : l ≡ (paid (readied_state true h).0 (m.0.quota - 1) (Behind b (Some (Posted job))) (entry h.0 SwapIn 0 b), []) = y.2 ∙ (λ i. (paid (readied_state true h).0 (m.0.quota - 1) (Behind b (Some (same i))) (entry h.0 SwapIn 0 b), [])) in
    let stage : n.0.stage ≡ Behind b (Some (Posted job)) = ap (λ z. z.0.stage) x.2 ∙ ap (λ z. z.0.stage) is in
    let r = c.await_answer.ensures.answered job stage in let z = c.await_answer.new.pass.pass.seat.me in let answer = c.await_answer.result in
    let wl = posted_went m l (readied_state true h).0 _ _ _ _ _ [] refl refl refl refl refl is in
    let went = went_linked m l n _ (entry l.0 StoreLink (2 + 2 * l.0.number) b) wl x.2 in
    related_of g.V.Room.rooms g.J.Job.means job answer r.1.ran

pub returns-in-Waiting-clause-rises : goal.returns-in-Waiting-clause-rises
returns-in-Waiting-clause-rises g c p far =
    let m = c.args.pass.now.pass.seat.me in let job = c.args.job in let a = c.in-Waiting.ensures.answer in let n = c.post.new.pass.seat.me in let b = c.post.new.pass.behind in
    let h = held_state a.0 (Some (Posted job)) m in let x = a.1 in let l = x.0 in let y = x.1.1 in
    let same = inside y.0 (Posted job) (same_first _ _ (Some y.0) (Some (Posted job)) [] [] (sym y.1)) in
    let is : l ≡ (paid (readied_state true h).0 (m.0.quota - 1) (Behind b (Some (Posted job))) (entry h.0 SwapIn 0 b), []) = y.2 ∙ (λ i. (paid (readied_state true h).0 (m.0.quota - 1) (Behind b (Some (same i))) (entry h.0 SwapIn 0 b), [])) in
    let stage : n.0.stage ≡ Behind b (Some (Posted job)) = ap (λ z. z.0.stage) x.2 ∙ ap (λ z. z.0.stage) is in
    let r = c.await_answer.ensures.answered job stage in let z = c.await_answer.new.pass.pass.seat.me in let answer = c.await_answer.result in
    let wl = posted_went m l (readied_state true h).0 _ _ _ _ _ [] refl refl refl refl refl is in
    let went = went_linked m l n _ (entry l.0 StoreLink (2 + 2 * l.0.number) b) wl x.2 in
    rises_of g.V.Room.rooms g.J.Job.means _ r.0 job answer m n z went r.1 p far

pub returns-in-Owner-clause-steps : goal.returns-in-Owner-clause-steps
returns-in-Owner-clause-steps g c =
    let m = c.args.pass.now.pass.seat.me in let job = c.args.job in let a = c.in-Owner.ensures.answer in let t = c.in-Owner.turn in let n = c.post.new.pass.seat.me in
    let h = held_state a.0 (Some (Posted job)) m in let e : StepEntry = entry h.0 SwapIn 0 0 in let w = a.1 in
    let won = won_posted g.V.Room.rooms g.J.Job.means g.J.Job.is_ready c.args.self.now.chain.table.shared.key c.args.self.now.chain.table.shared.table_id.slots t (readied_state true h) n e job refl (w.2 ∙ sym w.1) (w.3 ∙ sym w.1) w.0 in
    let r = c.run_back.ensures.answered job won.0 in let z = c.run_back.new.pass.pass.seat.me in let answer = c.run_back.result in
    let went = posted_went m n (readied_state true h).0 n.0.stage _ _ _ _ n.1 refl refl refl refl refl won.1 in
    (_, steps_of g.V.Room.rooms g.J.Job.means _ r.0 job answer m n z went r.1, (a.0, 0, r.0, refl, inl (refl, subst (λ (y : ℕ × Turn). Unlocked y.0 c.args.self.now.chain.combine y.1 r.0) (λ i. (went.number i, record { first = w.1 i; end = w.2 i; mark = w.3 i })) r.2)))

pub returns-in-Waiting-clause-steps : goal.returns-in-Waiting-clause-steps
returns-in-Waiting-clause-steps g c =
    let m = c.args.pass.now.pass.seat.me in let job = c.args.job in let a = c.in-Waiting.ensures.answer in let n = c.post.new.pass.seat.me in let b = c.post.new.pass.behind in
    let h = held_state a.0 (Some (Posted job)) m in let x = a.1 in let l = x.0 in let y = x.1.1 in
    let same = inside y.0 (Posted job) (same_first _ _ (Some y.0) (Some (Posted job)) [] [] (sym y.1)) in
    let is : l ≡ (paid (readied_state true h).0 (m.0.quota - 1) (Behind b (Some (Posted job))) (entry h.0 SwapIn 0 b), []) = y.2 ∙ (λ i. (paid (readied_state true h).0 (m.0.quota - 1) (Behind b (Some (same i))) (entry h.0 SwapIn 0 b), [])) in
    let stage : n.0.stage ≡ Behind b (Some (Posted job)) = ap (λ z. z.0.stage) x.2 ∙ ap (λ z. z.0.stage) is in
    let r = c.await_answer.ensures.answered job stage in let z = c.await_answer.new.pass.pass.seat.me in let answer = c.await_answer.result in
    let wl = posted_went m l (readied_state true h).0 _ _ _ _ _ [] refl refl refl refl refl is in
    let went = went_linked m l n _ (entry l.0 StoreLink (2 + 2 * l.0.number) b) wl x.2 in
    (_, steps_of g.V.Room.rooms g.J.Job.means _ r.0 job answer m n z went r.1, (a.0, b, by m.0.number StoreLink (2 + 2 * m.0.number) b ∷ r.0, (λ i. by m.0.number LoadStatus (1 + 2 * m.0.number) a.0 ∷ by m.0.number StoreLink (2 + 2 * m.0.number) 0 ∷ by m.0.number SetStatus (1 + 2 * m.0.number) 2 ∷ by m.0.number SwapIn 0 b ∷ by (wl.number i) StoreLink (2 + 2 * wl.number i) b ∷ r.0), inr (x.1.0, (r.0, refl, subst (λ (y : ℕ). Waited y c.args.self.now.chain.combine b r.0) went.number r.2))))
