-- A pass that has posted a job, and how the job is answered.
use Rattle.std.proofs.Common.{◌≡◌, ℕ, ◌+◌, ◌-◌, ◌*◌, ◌<◌, ◌≤◌, Result, Option, Some, None, List, [], ◌∷◌, ◌++◌, replicate, refl, sym, ap, ◌∙◌, subst, inl, inr, arith}
use mathlib.Core.Option.{some, Option as Maybe}
use Rattle.waiter_chain.specs.Goods.{part, Counts}
use Rattle.waiter_chain.specs.Chains.{owed}
use Rattle.waiter_chain.specs.Steps.{SeatState, Ranged, OwnHand, SoundJob, WinsBack, ownership_with, ownership_back, entry, moved, paid, collected, linked_by, SoundAnswer}
use Rattle.waiter_chain.specs.Calls.{IsIdle, WonWith}
use Rattle.waiter_chain.specs.declared.view.Opening.{Opening}
use Rattle.waiter_chain.specs.declared.view.OwnSlot.{OwnSlot}
use Rattle.waiter_chain.specs.declared.view.View.{View}
use Rattle.waiter_chain.specs.declared.view.StepEntry.{StepEntry}
use Rattle.waiter_chain.specs.declared.view.Stage.{Stage}
use Rattle.waiter_chain.specs.declared.view.Stage.TheVariants.{Owns, Done}
use Rattle.waiter_chain.specs.declared.view.StepKind.TheVariants.{LoadStatus, SetStatus}
use Rattle.waiter_chain.specs.declared.turn.Turn.{Turn}
use Rattle.waiter_chain.proofs.Turns.{same_first}
use Rattle.combine_job.specs.declared.parcel.Kept.{Kept}
use Rattle.combine_job.specs.declared.parcel.JobAnswer.{JobAnswer}
use Rattle.combine_job.specs.declared.parcel.Parcel.{Parcel}
use Rattle.combine_job.specs.declared.parcel.Parcel.TheVariants.{Value, Posted, Answered}
use Rattle.combine_job.specs.Parcels.{Related, Ruled, WasRun, places}
use Rattle.combine_job.specs.Laws.{value-injective}
use Rattle.combine_job.proofs.Rooms.{may_run_own, answer_found}
use Rattle.combine_job.proofs.Posting.{inside}
use Rattle.dist_mutex.specs.Owners.{Owning, RanOne, polled_as}
use Rattle.dist_mutex.specs.Unlocks.{by, Went, Unlocked}
use Rattle.dist_mutex.specs.Posts.{HasPosted, WasAnswered, Waited}
use Rattle.dist_mutex.proofs.Unlocking.{all_of, went_then, went_on, went_moved}

four : {A : Type 0} (xs : List A) (a b c d : A) → (((xs ++ a ∷ []) ++ b ∷ []) ++ c ∷ []) ++ d ∷ [] ≡ xs ++ a ∷ b ∷ c ∷ d ∷ []
four [] a b c d = refl
four (x ∷ xs) a b c d = ap (λ ys. x ∷ ys) (four xs a b c d)

module _ {P : Type 0} where
  pub done_inside : (i j a b : P) → ◌≡◌ {A = Stage P} (Done i a) (Done j b) → (i ≡ j) × (a ≡ b)
  done_inside i j a b e = (same_job i j a b e, same_answer i j a b e)
    where
      same_job : (i j a b : P) → ◌≡◌ {A = Stage P} (Done i a) (Done j b) → i ≡ j
      same_job i j a b e = cc

      same_answer : (i j a b : P) → ◌≡◌ {A = Stage P} (Done i a) (Done j b) → a ≡ b
      same_answer i j a b e = cc

  -- the pass has found its own status 2 so many times
  pub polled_went : (k : ℕ) (m l : SeatState P) → l ≡ polled_as 2 k m → Went 0 [] (replicate k (by m.0.number LoadStatus (1 + 2 * m.0.number) 2)) m l
  polled_went k m l is = subst (Went 0 [] (replicate k (by m.0.number LoadStatus (1 + 2 * m.0.number) 2)) m) (sym is) (record { number = refl; spare = refl; past = refl; quota = omega arith; own = all_of m.0.own; steps = refl })

  pub collected_went : (job a : P) (e : StepEntry) (m n : SeatState P) → n ≡ (collected m.0 (job, a) (m.0.steps ++ e ∷ []), []) → IsIdle n × Went 0 ((job, a) ∷ []) (e ∷ []) m n
  collected_went job a e m n is = subst (λ (z : SeatState P). IsIdle z × Went 0 ((job, a) ∷ []) (e ∷ []) m z) (sym is) ((refl, refl), record { number = refl; spare = refl; past = refl; quota = omega arith; own = refl; steps = refl })

  -- the pass has posted a job, and has paid for it
  pub posted_went : (m n : SeatState P) (v : View P) (stage : Stage P) (a b c d : StepEntry) (hand : List (ℕ × Option P)) → v.number ≡ m.0.number → v.spare ≡ m.0.spare → v.past ≡ m.0.past → v.own ≡ m.0.own → v.steps ≡ ((m.0.steps ++ a ∷ []) ++ b ∷ []) ++ c ∷ []
      → n ≡ (paid v (m.0.quota - 1) stage d, hand) → Went 1 [] (a ∷ b ∷ c ∷ d ∷ []) m n
  posted_went m n v stage a b c d hand number spare past own steps is = subst (Went 1 [] (a ∷ b ∷ c ∷ d ∷ []) m) (sym is) (record {
    number = number;
    spare = spare;
    past = past;
    quota = refl;
    own = own ∙ all_of m.0.own;
    steps = ap (λ xs. xs ++ d ∷ []) steps ∙ four m.0.steps a b c d;
  })

  -- and then it has linked
  pub went_linked : (m l n : SeatState P) (a : List StepEntry) (e : StepEntry) → Went 1 [] a m l → n ≡ (linked_by l.0 e, l.1) → Went 1 [] (a ++ e ∷ []) m n
  went_linked m l n a e w is = went_then 1 0 [] [] a (e ∷ []) m l n w (subst (Went 0 [] (e ∷ []) l) (sym is) (record { number = refl; spare = refl; past = refl; quota = omega arith; own = all_of l.0.own; steps = refl }))

module _ {V J O X : Type 0} (rooms : V → ℕ) (means : V → J → Result O X → V → Type 0) where
  pub related_of : (job : J) (answer : JobAnswer O X) → WasRun rooms means (Posted job, Answered answer) → (v : Kept V) × (w : Kept V) × Related rooms means (Value v) (Posted job) (Answered answer) (Value w)
  related_of job answer r = let t = r.2 in (t.0, t.1, subst (λ (y : Parcel V J O X × Parcel V J O X). Related rooms means y.0 (Posted job) (Answered answer) y.1) (λ i. (t.4 i, t.5 i)) t)

  -- steps before, in which nothing of its own ran
  pub answered_after : (a es : List StepEntry) (job : J) (answer : JobAnswer O X) (m l n : SeatState (Parcel V J O X)) → Went 0 [] a m l → WasAnswered rooms means job answer es l n → WasAnswered rooms means job answer (a ++ es) m n
  answered_after a es job answer m l n v w = record {
    idle = w.idle;
    went = went_on 0 ((Posted job, Answered answer) ∷ []) a es m l n v w.went;
    ran = w.ran;
    rises = λ p far. subst (λ xs. places p xs ≡ 0) (v.own ∙ sym (all_of m.0.own)) (w.rises p far);
  }

  pub ran_once : (a es : List StepEntry) (job : J) (answer : JobAnswer O X) (m l n : SeatState (Parcel V J O X)) → 1 ≤ m.0.quota → Went 1 [] a m l → WasAnswered rooms means job answer es l n → RanOne m n (Posted job) (Answered answer)
  ran_once a es job answer m l n enough v w = let t = went_then 1 0 [] ((Posted job, Answered answer) ∷ []) a es m l n v w.went in (w.idle, t.number, t.spare, t.past, omega (arith, t.quota, enough), t.own)

  pub steps_of : (a es : List StepEntry) (job : J) (answer : JobAnswer O X) (m l n : SeatState (Parcel V J O X)) → Went 1 [] a m l → WasAnswered rooms means job answer es l n → n.0.steps ≡ m.0.steps ++ (a ++ es)
  steps_of a es job answer m l n v w = (went_then 1 0 [] ((Posted job, Answered answer) ∷ []) a es m l n v w.went).steps

  pub rises_of : (a es : List StepEntry) (job : J) (answer : JobAnswer O X) (m l n : SeatState (Parcel V J O X)) → Went 1 [] a m l → WasAnswered rooms means job answer es l n → (p : ℕ) → answer.at ≤ p → places p m.0.own ≡ 0
  rises_of a es job answer m l n v w p far = subst (λ xs. places p xs ≡ 0) (v.own ∙ sym (all_of m.0.own)) (w.rises p far)

module _ {V J O X : Type 0} (rooms : V → ℕ) (means : V → J → Result O X → V → Type 0) (is_ready : J → Type 0) (o : Opening (Parcel V J O X)) where
  -- a pass with a job in its hand found the lock free
  pub won_posted : (slots : ℕ) (t : Turn) (m n : SeatState (Parcel V J O X)) (e : StepEntry) (job : J) → m.1 ≡ (1 + 2 * m.0.number, Some (Posted job)) ∷ [] → t.end ≡ t.first → t.mark ≡ t.first → WonWith (Ruled rooms means is_ready o) slots t m e n
      → HasPosted rooms means is_ready o slots job t n × (n ≡ (paid m.0 (m.0.quota - 1) n.0.stage e, n.1))
  won_posted slots t m n e job hand ends marks w =
      let y : Parcel V J O X = w.0 in let q : ℕ = m.0.quota - 1 in
      let same : w.1 ≡ Posted job = inside w.1 (Posted job) (same_first (1 + 2 * m.0.number) (1 + 2 * m.0.number) (Some w.1) (Some (Posted job)) [] [] (sym w.2 ∙ hand)) in
      let is : n ≡ (paid m.0 q (Owns (ownership_with t.first (Posted job) y)) e, (0, Some y) ∷ (1 + 2 * m.0.number, Some (Posted job)) ∷ []) = w.3 ∙ (λ i. (paid m.0 q (Owns (ownership_with t.first (same i) y)) e, (0, Some y) ∷ hand i)) in (
        subst (HasPosted rooms means is_ready o slots job t) (sym is) (record {
          notes = ownership_with t.first (Posted job) y;
          owns = refl;
          turn = (refl, sym ends, sym marks);
          next = refl;
          mine = refl;
          hand = refl;
          low = w.4;
          sound = subst (SoundJob (Ruled rooms means is_ready o) y (part m.0.number q m.0.own) m.0.number) same w.5;
        }),
        is ∙ (λ i. (paid m.0 q (sym is i).0.stage e, (sym is i).1)),
      )

  -- a pass that has posted a job was made the owner
  pub back_posted : (slots : ℕ) (t : Turn) (m n : SeatState (Parcel V J O X)) (e : StepEntry) (job : J) → m.1 ≡ [] → t.mark ≡ 1 → Ranged slots t.first t.end → WinsBack (Ruled rooms means is_ready o) m (Posted job) t.first t.end e n → HasPosted rooms means is_ready o slots job t n
  back_posted slots t m n e job empty one low w =
      let y : Parcel V J O X = w.0 in
      let is : n ≡ (moved m.0 (Owns (ownership_back t.first t.end (Posted job) y)) e, (0, Some y) ∷ (1 + 2 * m.0.number, Some (Posted job)) ∷ []) = w.1 ∙ (λ i. (moved m.0 (Owns (ownership_back t.first t.end (Posted job) y)) e, (0, Some y) ∷ (1 + 2 * m.0.number, Some (Posted job)) ∷ empty i)) in
      subst (HasPosted rooms means is_ready o slots job t) (sym is) (record {
        notes = ownership_back t.first t.end (Posted job) y;
        owns = refl;
        turn = (refl, refl, sym one);
        next = refl;
        mine = refl;
        hand = refl;
        low = low;
        sound = w.2;
      })

  -- and has then run its job on the value
  pub owns_back : (slots : ℕ) (job : J) (t : Turn) (m n : SeatState (Parcel V J O X)) (kept later : Kept V) (answer : Parcel V J O X) (due : ℕ) → (d : HasPosted rooms means is_ready o slots job t m) → m.0.number < o.nodes → d.notes.value ≡ Value kept → due ≡ 0
      → n ≡ (m.0, (0, None) ∷ (1 + 2 * m.0.number, None) ∷ []) → Related rooms means (Value kept) (Posted job) answer (Value later) → Owning rooms means slots n due ((Posted job, answer) ∷ []) t later
  owns_back slots job t m n kept later answer due d low is none e r =
      let may = may_run_own rooms means is_ready o d.notes.value (Posted job) (part m.0.number m.0.quota m.0.own) m.0.number kept d.sound low is in
      let k = value-injective {J = J} {O = O} {X = X} kept r.0 r.4 in let l = value-injective {J = J} {O = O} {X = X} later r.1 r.5 in
      let debt : owed d.notes.mine ≡ some (Posted job) = ap owed d.mine in
      let first-count : Counts (some (Posted job)) ((Posted job, answer) ∷ []) due = (omega (arith, none), (0, answer, refl)) in
      let own-hand : OwnHand d.notes.mine m.0.number ((1 + 2 * m.0.number, None) ∷ []) = subst (λ (y : OwnSlot (Parcel V J O X)). OwnHand y m.0.number ((1 + 2 * m.0.number, None) ∷ [])) (sym d.mine) (None, refl) in
      subst (λ (z : SeatState (Parcel V J O X)). Owning rooms means slots z due ((Posted job, answer) ∷ []) t later) (sym e) (record {
        notes = d.notes;
        owns = (d.owns, d.turn.0, d.turn.1, d.turn.2, refl, d.low, (d.next, own-hand));
        runs = (Value later, subst (λ (v : Parcel V J O X). Related rooms means v (Posted job) answer (Value later)) (sym is) r, refl);
        paid = subst (λ (y : Maybe (Parcel V J O X)). Counts y ((Posted job, answer) ∷ []) due) (sym debt) first-count;
        room = omega (arith, may.1, r.11, ap (λ (z : Kept V). rooms z.value) k, ap (λ (z : Kept V). rooms z.value) l, none);
        count = omega (arith, may.2, may.3, r.9, ap (λ (z : Kept V). z.ran) k, ap (λ (z : Kept V). z.ran) l, none);
        small = omega (arith, may.2, may.3);
      })

  -- a pass that polled found that its job has run, and has taken the answer
  pub waited_done : (limit found k : ℕ) (job : J) (answer : JobAnswer O X) (a job' : Parcel V J O X) (m l n z : SeatState (Parcel V J O X)) → l ≡ polled_as 2 k m → n ≡ (moved l.0 (Done (Posted job) a) (entry l.0 LoadStatus (1 + 2 * l.0.number) 3), (2 + 2 * l.0.number, Some a) ∷ l.1)
      → SoundAnswer (Ruled rooms means is_ready o) (part l.0.number l.0.quota l.0.own) (Posted job) a → n.0.stage ≡ Done job' (Answered answer) → z ≡ (collected n.0 (job', Answered answer) (n.0.steps ++ entry n.0 SetStatus (1 + 2 * n.0.number) 0 ∷ []), [])
      → (made : List StepEntry) × WasAnswered rooms means job answer made m z × Waited m.0.number limit found made
  waited_done limit found k job answer a job' m l n z polled is sound done last =
      let same = done_inside (Posted job) job' a (Answered answer) (sym (ap (λ (x : SeatState (Parcel V J O X)). x.0.stage) is) ∙ done) in
      let w₁ = polled_went k m l polled in
      let w₂ = went_moved l n _ (entry l.0 LoadStatus (1 + 2 * l.0.number) 3) _ is in
      let c = collected_went job' (Answered answer) (entry n.0 SetStatus (1 + 2 * n.0.number) 0) n z last in
      let number-n : n.0.number ≡ m.0.number = w₂.number ∙ w₁.number in
      let three : List StepEntry = by m.0.number LoadStatus (1 + 2 * m.0.number) 3 ∷ by m.0.number SetStatus (1 + 2 * m.0.number) 0 ∷ [] in
      let w₃ = went_on 0 ((job', Answered answer) ∷ []) (entry l.0 LoadStatus (1 + 2 * l.0.number) 3 ∷ []) (entry n.0 SetStatus (1 + 2 * n.0.number) 0 ∷ []) l n z w₂ c.1 in
      let w₄ = subst (λ (x : Parcel V J O X × List StepEntry). Went 0 ((x.0, Answered answer) ∷ []) x.1 l z) (λ i. (sym same.0 i, by (w₁.number i) LoadStatus (1 + 2 * w₁.number i) 3 ∷ by (number-n i) SetStatus (1 + 2 * number-n i) 0 ∷ [])) w₃ in
      let f = answer_found rooms means is_ready o (part l.0.number l.0.quota l.0.own) (Posted job) answer (subst (SoundAnswer (Ruled rooms means is_ready o) (part l.0.number l.0.quota l.0.own) (Posted job)) same.1 sound) in
      let polls : List StepEntry = replicate k (by m.0.number LoadStatus (1 + 2 * m.0.number) 2) in
      (polls ++ three, answered_after rooms means polls three job answer m l z w₁ (record { idle = c.0; went = w₄; ran = f.0; rises = f.1 }), (k, three, refl, inl refl))

  -- or it was made the owner, and ran its job itself
  pub waited_owner : (limit found k : ℕ) (t : Turn) (job : J) (answer : JobAnswer O X) (made : List StepEntry) (m l n z : SeatState (Parcel V J O X)) → l ≡ polled_as 2 k m → t.first ≡ found → t.mark ≡ 1 → WinsBack (Ruled rooms means is_ready o) l (Posted job) t.first t.end (entry l.0 LoadStatus (1 + 2 * l.0.number) (t.end + 4)) n
      → WasAnswered rooms means job answer made n z → Unlocked n.0.number limit t made → (all : List StepEntry) × WasAnswered rooms means job answer all m z × Waited m.0.number limit found all
  waited_owner limit found k t job answer made m l n z polled first one w was unlocks =
      let w₁ = polled_went k m l polled in
      let e : StepEntry = entry l.0 LoadStatus (1 + 2 * l.0.number) (t.end + 4) in
      let w₂ = went_moved l n _ e _ w.1 in
      let number-n : n.0.number ≡ m.0.number = w₂.number ∙ w₁.number in
      let polls : List StepEntry = replicate k (by m.0.number LoadStatus (1 + 2 * m.0.number) 2) in
      let later = answered_after rooms means (e ∷ []) made job answer l n z w₂ was in (
        polls ++ e ∷ made,
        answered_after rooms means polls (e ∷ made) job answer m l z w₁ later,
        (k, e ∷ made, refl, inr (t, made, first, one, (λ i. by (w₁.number i) LoadStatus (1 + 2 * w₁.number i) (t.end + 4) ∷ made), subst (λ (x : ℕ). Unlocked x limit t made) number-n unlocks)),
      )
