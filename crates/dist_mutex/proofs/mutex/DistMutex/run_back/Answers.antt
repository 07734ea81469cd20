use Rattle.std.proofs.Common.{◌≡◌, ℕ, ◌+◌, ◌*◌, ◌<◌, List, [], ◌∷◌, ◌++◌, Option, Some, None, refl, sym, ap, ◌∙◌, subst, inl, inr, arith}
use Rattle.waiter_chain.specs.Goods.{part}
use Rattle.waiter_chain.specs.Hands.{StandsAt}
use Rattle.combine_job.specs.declared.parcel.Parcel.TheVariants.{Value, Posted, Answered}
use Rattle.combine_job.specs.Parcels.{Related}
use Rattle.combine_job.proofs.Posting.{stands_front, inside, is_there}
use Rattle.combine_job.proofs.Rooms.{may_run_own, own_early}
use Rattle.dist_mutex.specs.Owners.{Owning}
use Rattle.dist_mutex.specs.Unlocks.{Unlocks}
use Rattle.dist_mutex.proofs.Answering.{owns_back}
use Rattle.dist_mutex.proofs.mutex.DistMutex.run_back.Goals as goal

pub move_slot-value-requires-clause-held : goal.move_slot-value-requires-clause-held
move_slot-value-requires-clause-held g c =
    let m = c.args.pass.now.pass.seat.me in let d = c.requires.posted.1 in let there : List (ℕ × Option _) = (1 + 2 * m.0.number, Some (Posted c.requires.posted.0)) ∷ [] in
    ([], there, Some d.notes.value, d.hand, stands_front _ there (omega arith))

pub unwrap-requires : goal.unwrap-requires
unwrap-requires g c =
    let m = c.args.pass.now.pass.seat.me in let job = c.requires.posted.0 in let d = c.requires.posted.1 in let there : List (ℕ × Option _) = (1 + 2 * m.0.number, Some (Posted job)) ∷ [] in
    let v = c.move_slot-value.ensures.moved [] there (Some d.notes.value) d.hand (stands_front _ there (omega arith)) in
    is_there _ d.notes.value v.0

pub into_kept-kept-requires : goal.into_kept-kept-requires
into_kept-kept-requires g c =
    let m = c.args.pass.now.pass.seat.me in let job = c.requires.posted.0 in let d = c.requires.posted.1 in let there : List (ℕ × Option _) = (1 + 2 * m.0.number, Some (Posted job)) ∷ [] in
    let v = c.move_slot-value.ensures.moved [] there (Some d.notes.value) d.hand (stands_front _ there (omega arith)) in
    (d.sound.1.now, inside c.unwrap.result d.notes.value (sym c.unwrap.ensures ∙ v.0) ∙ sym d.sound.2 ∙ d.sound.1.is)

pub move_slot-posted-requires-clause-held : goal.move_slot-posted-requires-clause-held
move_slot-posted-requires-clause-held g c =
    let m = c.args.pass.now.pass.seat.me in let job = c.requires.posted.0 in let d = c.requires.posted.1 in let there : List (ℕ × Option _) = (1 + 2 * m.0.number, Some (Posted job)) ∷ [] in
    let v = c.move_slot-value.ensures.moved [] there (Some d.notes.value) d.hand (stands_front _ there (omega arith)) in
    let l = c.move_slot-value.new.pass.seat.me in let slot : ℕ = 1 + 2 * c.number.result in let mine : slot ≡ 1 + 2 * m.0.number = ap (λ (x : ℕ). 1 + 2 * x) c.number.ensures in
    let hand : l.1 ≡ ((0, None) ∷ []) ++ (slot, Some (Posted job)) ∷ [] = ap (λ z. z.1) v.1 ∙ (λ i. (0, None) ∷ (sym mine i, Some (Posted job)) ∷ []) in
    let stands : StandsAt {A = Option _} l.0.number slot ((0, None) ∷ []) [] = (omega arith, inr (inl (mine ∙ ap (λ z. 1 + 2 * z.0.number) (sym v.1), refl))) in
    ((0, None) ∷ [], [], Some (Posted job), hand, stands)

pub unwrap-requires-2 : goal.unwrap-requires-2
unwrap-requires-2 g c =
    let m = c.args.pass.now.pass.seat.me in let job = c.requires.posted.0 in let d = c.requires.posted.1 in let there : List (ℕ × Option _) = (1 + 2 * m.0.number, Some (Posted job)) ∷ [] in
    let v = c.move_slot-value.ensures.moved [] there (Some d.notes.value) d.hand (stands_front _ there (omega arith)) in
    let l = c.move_slot-value.new.pass.seat.me in let slot : ℕ = 1 + 2 * c.number.result in let mine : slot ≡ 1 + 2 * m.0.number = ap (λ (x : ℕ). 1 + 2 * x) c.number.ensures in
    let hand : l.1 ≡ ((0, None) ∷ []) ++ (slot, Some (Posted job)) ∷ [] = ap (λ z. z.1) v.1 ∙ (λ i. (0, None) ∷ (sym mine i, Some (Posted job)) ∷ []) in
    let stands : StandsAt {A = Option _} l.0.number slot ((0, None) ∷ []) [] = (omega arith, inr (inl (mine ∙ ap (λ z. 1 + 2 * z.0.number) (sym v.1), refl))) in
    is_there _ (Posted job) (c.move_slot-posted.ensures.moved ((0, None) ∷ []) [] (Some (Posted job)) hand stands).0

pub run_taken-answer-requires-clause-room : goal.run_taken-answer-requires-clause-room
run_taken-answer-requires-clause-room g c =
    let m = c.args.pass.now.pass.seat.me in let job = c.requires.posted.0 in let d = c.requires.posted.1 in let there : List (ℕ × Option _) = (1 + 2 * m.0.number, Some (Posted job)) ∷ [] in
    let v = c.move_slot-value.ensures.moved [] there (Some d.notes.value) d.hand (stands_front _ there (omega arith)) in
    let l = c.move_slot-value.new.pass.seat.me in let slot : ℕ = 1 + 2 * c.number.result in let mine : slot ≡ 1 + 2 * m.0.number = ap (λ (x : ℕ). 1 + 2 * x) c.number.ensures in
    let hand : l.1 ≡ ((0, None) ∷ []) ++ (slot, Some (Posted job)) ∷ [] = ap (λ z. z.1) v.1 ∙ (λ i. (0, None) ∷ (sym mine i, Some (Posted job)) ∷ []) in
    let stands : StandsAt {A = Option _} l.0.number slot ((0, None) ∷ []) [] = (omega arith, inr (inl (mine ∙ ap (λ z. 1 + 2 * z.0.number) (sym v.1), refl))) in
    let w = c.move_slot-posted.ensures.moved ((0, None) ∷ []) [] (Some (Posted job)) hand stands in
    let posted : c.unwrap-2.result ≡ Posted job = inside c.unwrap-2.result (Posted job) (sym c.unwrap-2.ensures ∙ w.0) in
    let kept = c.into_kept-kept.result in
    let is : d.notes.value ≡ Value kept = sym (inside c.unwrap.result d.notes.value (sym c.unwrap.ensures ∙ v.0)) ∙ c.into_kept-kept.ensures in
    let low : m.0.number < c.args.self.now.chain.table.shared.key.nodes = omega (arith, c.args.pass.now.pass.low, c.args.pass.now.pass.same.0, ap (λ z. z.slots) c.requires.own, c.args.self.now.chain.sized.1, c.args.self.now.chain.sized.3) in
    let may = may_run_own g.V.Room.rooms g.J.Job.means g.J.Job.is_ready c.args.self.now.chain.table.shared.key d.notes.value (Posted job) (part m.0.number m.0.quota m.0.own) m.0.number kept d.sound low is in
    may.0.3

pub run_taken-answer-requires-clause-count : goal.run_taken-answer-requires-clause-count
run_taken-answer-requires-clause-count g c =
    let m = c.args.pass.now.pass.seat.me in let job = c.requires.posted.0 in let d = c.requires.posted.1 in let there : List (ℕ × Option _) = (1 + 2 * m.0.number, Some (Posted job)) ∷ [] in
    let v = c.move_slot-value.ensures.moved [] there (Some d.notes.value) d.hand (stands_front _ there (omega arith)) in
    let l = c.move_slot-value.new.pass.seat.me in let slot : ℕ = 1 + 2 * c.number.result in let mine : slot ≡ 1 + 2 * m.0.number = ap (λ (x : ℕ). 1 + 2 * x) c.number.ensures in
    let hand : l.1 ≡ ((0, None) ∷ []) ++ (slot, Some (Posted job)) ∷ [] = ap (λ z. z.1) v.1 ∙ (λ i. (0, None) ∷ (sym mine i, Some (Posted job)) ∷ []) in
    let stands : StandsAt {A = Option _} l.0.number slot ((0, None) ∷ []) [] = (omega arith, inr (inl (mine ∙ ap (λ z. 1 + 2 * z.0.number) (sym v.1), refl))) in
    let w = c.move_slot-posted.ensures.moved ((0, None) ∷ []) [] (Some (Posted job)) hand stands in
    let posted : c.unwrap-2.result ≡ Posted job = inside c.unwrap-2.result (Posted job) (sym c.unwrap-2.ensures ∙ w.0) in
    let kept = c.into_kept-kept.result in
    let is : d.notes.value ≡ Value kept = sym (inside c.unwrap.result d.notes.value (sym c.unwrap.ensures ∙ v.0)) ∙ c.into_kept-kept.ensures in
    let low : m.0.number < c.args.self.now.chain.table.shared.key.nodes = omega (arith, c.args.pass.now.pass.low, c.args.pass.now.pass.same.0, ap (λ z. z.slots) c.requires.own, c.args.self.now.chain.sized.1, c.args.self.now.chain.sized.3) in
    let may = may_run_own g.V.Room.rooms g.J.Job.means g.J.Job.is_ready c.args.self.now.chain.table.shared.key d.notes.value (Posted job) (part m.0.number m.0.quota m.0.own) m.0.number kept d.sound low is in
    may.0.4

pub run_taken-answer-requires-clause-ready : goal.run_taken-answer-requires-clause-ready
run_taken-answer-requires-clause-ready g c =
    let m = c.args.pass.now.pass.seat.me in let job = c.requires.posted.0 in let d = c.requires.posted.1 in let there : List (ℕ × Option _) = (1 + 2 * m.0.number, Some (Posted job)) ∷ [] in
    let v = c.move_slot-value.ensures.moved [] there (Some d.notes.value) d.hand (stands_front _ there (omega arith)) in
    let l = c.move_slot-value.new.pass.seat.me in let slot : ℕ = 1 + 2 * c.number.result in let mine : slot ≡ 1 + 2 * m.0.number = ap (λ (x : ℕ). 1 + 2 * x) c.number.ensures in
    let hand : l.1 ≡ ((0, None) ∷ []) ++ (slot, Some (Posted job)) ∷ [] = ap (λ z. z.1) v.1 ∙ (λ i. (0, None) ∷ (sym mine i, Some (Posted job)) ∷ []) in
    let stands : StandsAt {A = Option _} l.0.number slot ((0, None) ∷ []) [] = (omega arith, inr (inl (mine ∙ ap (λ z. 1 + 2 * z.0.number) (sym v.1), refl))) in
    let w = c.move_slot-posted.ensures.moved ((0, None) ∷ []) [] (Some (Posted job)) hand stands in
    let posted : c.unwrap-2.result ≡ Posted job = inside c.unwrap-2.result (Posted job) (sym c.unwrap-2.ensures ∙ w.0) in
    let kept = c.into_kept-kept.result in
    let is : d.notes.value ≡ Value kept = sym (inside c.unwrap.result d.notes.value (sym c.unwrap.ensures ∙ v.0)) ∙ c.into_kept-kept.ensures in
    let low : m.0.number < c.args.self.now.chain.table.shared.key.nodes = omega (arith, c.args.pass.now.pass.low, c.args.pass.now.pass.same.0, ap (λ z. z.slots) c.requires.own, c.args.self.now.chain.sized.1, c.args.self.now.chain.sized.3) in
    let may = may_run_own g.V.Room.rooms g.J.Job.means g.J.Job.is_ready c.args.self.now.chain.table.shared.key d.notes.value (Posted job) (part m.0.number m.0.quota m.0.own) m.0.number kept d.sound low is in
    (may.0.0, posted ∙ may.0.1, may.0.2)

pub unlock-released-requires-clause-owner : goal.unlock-released-requires-clause-owner
unlock-released-requires-clause-owner g c =
    let m = c.args.pass.now.pass.seat.me in let job = c.requires.posted.0 in let d = c.requires.posted.1 in let there : List (ℕ × Option _) = (1 + 2 * m.0.number, Some (Posted job)) ∷ [] in
    let v = c.move_slot-value.ensures.moved [] there (Some d.notes.value) d.hand (stands_front _ there (omega arith)) in
    let l = c.move_slot-value.new.pass.seat.me in let slot : ℕ = 1 + 2 * c.number.result in let mine : slot ≡ 1 + 2 * m.0.number = ap (λ (x : ℕ). 1 + 2 * x) c.number.ensures in
    let hand : l.1 ≡ ((0, None) ∷ []) ++ (slot, Some (Posted job)) ∷ [] = ap (λ z. z.1) v.1 ∙ (λ i. (0, None) ∷ (sym mine i, Some (Posted job)) ∷ []) in
    let stands : StandsAt {A = Option _} l.0.number slot ((0, None) ∷ []) [] = (omega arith, inr (inl (mine ∙ ap (λ z. 1 + 2 * z.0.number) (sym v.1), refl))) in
    let w = c.move_slot-posted.ensures.moved ((0, None) ∷ []) [] (Some (Posted job)) hand stands in
    let posted : c.unwrap-2.result ≡ Posted job = inside c.unwrap-2.result (Posted job) (sym c.unwrap-2.ensures ∙ w.0) in
    let kept = c.into_kept-kept.result in
    let is : d.notes.value ≡ Value kept = sym (inside c.unwrap.result d.notes.value (sym c.unwrap.ensures ∙ v.0)) ∙ c.into_kept-kept.ensures in
    let low : m.0.number < c.args.self.now.chain.table.shared.key.nodes = omega (arith, c.args.pass.now.pass.low, c.args.pass.now.pass.same.0, ap (λ z. z.slots) c.requires.own, c.args.self.now.chain.sized.1, c.args.self.now.chain.sized.3) in
    let may = may_run_own g.V.Room.rooms g.J.Job.means g.J.Job.is_ready c.args.self.now.chain.table.shared.key d.notes.value (Posted job) (part m.0.number m.0.quota m.0.own) m.0.number kept d.sound low is in
    let run = c.run_taken-answer in let answer = run.result in let later = run.new.kept in let own = run.new.runs in let l2 = c.move_slot-posted.new.pass.seat.me in
    let state : l2 ≡ (m.0, (0, None) ∷ (1 + 2 * m.0.number, None) ∷ []) = w.1 ∙ (λ i. ((v.1 i).0, (0, None) ∷ (mine i, None) ∷ [])) in
    let related = subst (λ y. Related g.V.Room.rooms g.J.Job.means (Value kept) y (Answered answer) (Value later)) posted run.ensures.related in
    let due : own.count ≡ 0 = run.ensures.due ∙ c.requires.runs.1 in
    let listed : own.log.items ≡ (Posted job, Answered answer) ∷ [] = run.ensures.listed ∙ (λ i. c.requires.runs.0 i ++ (posted i, Answered answer) ∷ []) in
    subst (λ ran. Owning g.V.Room.rooms g.J.Job.means c.args.self.now.chain.table.shared.table_id.slots l2 own.count ran c.args.turn later) (sym listed)
    (owns_back g.V.Room.rooms g.J.Job.means g.J.Job.is_ready c.args.self.now.chain.table.shared.key c.args.self.now.chain.table.shared.table_id.slots job c.args.turn m l2 kept later (Answered answer) own.count d low is due state related)

pub returns-clause-answered : goal.returns-clause-answered
returns-clause-answered g c job d =
    let m = c.args.pass.now.pass.seat.me in let there : List (ℕ × Option _) = (1 + 2 * m.0.number, Some (Posted job)) ∷ [] in
    let v = c.move_slot-value.ensures.moved [] there (Some d.notes.value) d.hand (stands_front _ there (omega arith)) in
    let l = c.move_slot-value.new.pass.seat.me in let slot : ℕ = 1 + 2 * c.number.result in let mine : slot ≡ 1 + 2 * m.0.number = ap (λ (x : ℕ). 1 + 2 * x) c.number.ensures in
    let hand : l.1 ≡ ((0, None) ∷ []) ++ (slot, Some (Posted job)) ∷ [] = ap (λ z. z.1) v.1 ∙ (λ i. (0, None) ∷ (sym mine i, Some (Posted job)) ∷ []) in
    let stands : StandsAt {A = Option _} l.0.number slot ((0, None) ∷ []) [] = (omega arith, inr (inl (mine ∙ ap (λ z. 1 + 2 * z.0.number) (sym v.1), refl))) in
    let w = c.move_slot-posted.ensures.moved ((0, None) ∷ []) [] (Some (Posted job)) hand stands in
    let posted : c.unwrap-2.result ≡ Posted job = inside c.unwrap-2.result (Posted job) (sym c.unwrap-2.ensures ∙ w.0) in
    let kept = c.into_kept-kept.result in
    let is : d.notes.value ≡ Value kept = sym (inside c.unwrap.result d.notes.value (sym c.unwrap.ensures ∙ v.0)) ∙ c.into_kept-kept.ensures in
    let low : m.0.number < c.args.self.now.chain.table.shared.key.nodes = omega (arith, c.args.pass.now.pass.low, c.args.pass.now.pass.same.0, ap (λ z. z.slots) c.requires.own, c.args.self.now.chain.sized.1, c.args.self.now.chain.sized.3) in
    let may = may_run_own g.V.Room.rooms g.J.Job.means g.J.Job.is_ready c.args.self.now.chain.table.shared.key d.notes.value (Posted job) (part m.0.number m.0.quota m.0.own) m.0.number kept d.sound low is in
    let run = c.run_taken-answer in let answer = run.result in let later = run.new.kept in let own = run.new.runs in let l2 = c.move_slot-posted.new.pass.seat.me in
    let state : l2 ≡ (m.0, (0, None) ∷ (1 + 2 * m.0.number, None) ∷ []) = w.1 ∙ (λ i. ((v.1 i).0, (0, None) ∷ (mine i, None) ∷ [])) in
    let related = subst (λ y. Related g.V.Room.rooms g.J.Job.means (Value kept) y (Answered answer) (Value later)) posted run.ensures.related in
    let due : own.count ≡ 0 = run.ensures.due ∙ c.requires.runs.1 in
    let listed : own.log.items ≡ (Posted job, Answered answer) ∷ [] = run.ensures.listed ∙ (λ i. c.requires.runs.0 i ++ (posted i, Answered answer) ∷ []) in
    let u = c.unlock-released in let s = u.ensures.spent in let made = u.ensures.released in let same = ap (λ z. z.0) state in (
      made.0,
      record {
        idle = s.0;
        went = record {
          number = s.1 ∙ ap (λ z. z.number) same;
          spare = s.2 ∙ ap (λ z. z.spare) same;
          past = s.3 ∙ ap (λ z. z.past) same;
          quota = omega (arith, s.4, ap (λ z. z.quota) same, due);
          own = s.5 ∙ (λ i. (same i).own ++ listed i);
          steps = made.1 ∙ ap (λ z. z.steps ++ made.0) same;
        };
        ran = (Value kept, Value later, related);
        rises = λ p far. own_early g.V.Room.rooms g.J.Job.means g.J.Job.is_ready c.args.self.now.chain.table.shared.key d.notes.value (Posted job) (part m.0.number m.0.quota m.0.own) m.0.number kept d.sound is p (omega (arith, far, run.ensures.position));
      },
      (u.result.combined, u.result.next, subst (λ z. Unlocks z.number c.args.self.now.chain.combine c.args.turn u.result.combined made.0 u.result.next) same made.2),
    )
