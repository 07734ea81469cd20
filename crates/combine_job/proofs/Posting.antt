-- What a pass has in hand as it posts a job and as it collects the answer.
use Rattle.std.proofs.Common.{◌≡◌, ◌≢◌, ℕ, ◌+◌, ◌*◌, ◌≤◌, List, [], ◌∷◌, ◌++◌, length, Option, Some, refl, sym, ap, ◌∙◌, subst, inl, inr, append_assoc, arith}
use Rattle.std.specs.Prelude.{is_some, IsSome}
use Rattle.waiter_chain.specs.declared.view.OwnSlot.{OwnSlot}
use Rattle.waiter_chain.specs.declared.view.OwnSlot.TheVariants.{Unused, InHand, Unrun}
use Rattle.waiter_chain.specs.Hands.{StandsAt}
use Rattle.waiter_chain.specs.declared.view.View.{View}
use Rattle.waiter_chain.specs.declared.view.Stage.{Stage}
use Rattle.waiter_chain.specs.declared.view.Stage.TheVariants.{Done}
use Rattle.waiter_chain.specs.declared.view.StepKind.TheVariants.{SetStatus}
use Rattle.waiter_chain.specs.declared.turn.Kind.TheVariants.{WithJob}
use Rattle.waiter_chain.specs.Steps.{SeatState, OwnHand, entry, collected}
use Rattle.waiter_chain.specs.Calls.{MayEnter, Rested}
use Rattle.combine_job.specs.declared.parcel.Parcel.{Parcel}
use Rattle.combine_job.specs.declared.parcel.Parcel.TheVariants.{Posted}
use Rattle.combine_job.specs.Combining.{held_state}

long_append : {A : Type 0} (xs ys : List A) → length (xs ++ ys) ≡ length xs + length ys
long_append [] ys = omega arith
long_append (x ∷ xs) ys = omega (arith, long_append xs ys)

module _ {P : Type 0} where
  -- a slot that is alone in a hand, under the number by which the call names it
  pub alone : (slot k : ℕ) (y : Option P) (c : List (ℕ × Option P)) → slot ≡ k → c ≡ (k, y) ∷ [] → c ≡ (slot, y) ∷ []
  alone slot k y c is hand = hand ∙ (λ t. (sym is t, y) ∷ [])

  pub stands_alone : (n slot : ℕ) → StandsAt {A = Option P} n slot [] []
  stands_alone n slot = (omega arith, inr (inr (inr (inr (refl, refl)))))

  -- slot 0, and the two slots of another node behind it and the pass's own
  pub stands_front : (n : ℕ) (after : List (ℕ × Option P)) → length after ≤ 3 → StandsAt n 0 [] after
  stands_front n after h = (omega (arith, h), inl (refl, refl))

  own_long : (y : OwnSlot P) (n : ℕ) (own : List (ℕ × Option P)) → OwnHand y n own → length own ≤ 1
  own_long Unused n own h = omega (arith, ap length h)
  own_long InHand n own h = omega (arith, ap length h.1)
  own_long (Unrun j) n own h = omega (arith, ap length h.1)

  pub front_of : (y : OwnSlot P) (n : ℕ) (own : List (ℕ × Option P)) (a j : ℕ × Option P) → OwnHand y n own → StandsAt n 0 [] (own ++ a ∷ j ∷ [])
  front_of y n own a j h = stands_front n (own ++ a ∷ j ∷ []) (omega (arith, own_long y n own h, long_append own (a ∷ j ∷ [])))

  pub job_of : (y : OwnSlot P) (n x slot : ℕ) (own : List (ℕ × Option P)) (v a : ℕ × Option P) → OwnHand y n own → slot ≡ 1 + 2 * x → n ≢ x → StandsAt n slot (v ∷ (own ++ a ∷ [])) []
  job_of y n x slot own v a h is ne = (omega (arith, own_long y n own h, long_append own (a ∷ [])), inr (inr (inl (x, is, (λ e. ne (sym e)), refl))))

  pub answer_of : (y : OwnSlot P) (n x slot : ℕ) (own : List (ℕ × Option P)) (v j : ℕ × Option P) → OwnHand y n own → slot ≡ 2 + 2 * x → StandsAt n slot (v ∷ own) (j ∷ [])
  answer_of y n x slot own v j h is = (omega (arith, own_long y n own h), inr (inr (inr (inl (x, is, refl)))))

  pub own_front : (y : OwnSlot P) (n : ℕ) (own : List (ℕ × Option P)) → OwnHand y n own → StandsAt n 0 [] own
  own_front y n own h = stands_front n own (omega (arith, own_long y n own h))

  pub split_last : (v a j : ℕ × Option P) (own : List (ℕ × Option P)) → v ∷ (own ++ a ∷ j ∷ []) ≡ (v ∷ (own ++ a ∷ [])) ++ j ∷ []
  split_last v a j own = ap (λ (c : List (ℕ × Option P)). v ∷ c) (sym (append_assoc own (a ∷ []) (j ∷ [])))

  pub inside : (x y : P) → ◌≡◌ {A = Option P} (Some x) (Some y) → x ≡ y
  inside x y e = cc

  pub is_there : (o : Option P) (x : P) → o ≡ Some x → IsSome o
  is_there o x e = ap is_some e

  pub held_told : (word slot : ℕ) (y z : Option P) (m l n : SeatState P) → slot ≡ 1 + 2 * m.0.number → l ≡ held_state word y m → n ≡ (l.0, (slot, z) ∷ []) → n ≡ held_state word z m
  held_told word slot y z m l n is h i = i ∙ ap (λ (x : SeatState P). (x.0, (slot, z) ∷ [])) h ∙ (λ t. ((held_state word y m).0, (is t, z) ∷ []))

  pub may_enter : (is_job : P → Type 0) (word : ℕ) (job : P) (m n : SeatState P) → n ≡ held_state word (Some job) m → is_job job → 1 ≤ m.0.quota → MayEnter is_job WithJob n
  may_enter is_job word job m n e good enough = subst (MayEnter is_job WithJob) (sym e) (refl, (job, refl, good), enough)

  same_answer : (j a i b : P) → ◌≡◌ {A = Stage P} (Done j a) (Done i b) → a ≡ b
  same_answer j a i b e = cc

  pub collected_told : (j a r : P) (m l n : SeatState P) → m.0.stage ≡ Done j a → l.0 ≡ m.0 → Rested l n → a ≡ r
      → (job : P) × (m.0.stage ≡ Done job r) × (n ≡ (collected m.0 (job, r) (m.0.steps ++ entry m.0 SetStatus (1 + 2 * m.0.number) 0 ∷ []), []))
  collected_told j a r m l n mine same told is =
      let t = subst (λ (v : View P). (job : P) × (answer : P) × (v.stage ≡ Done job answer) × ◌≡◌ {A = SeatState P} n (collected v (job, answer) (v.steps ++ entry v SetStatus (1 + 2 * v.number) 0 ∷ []), [])) same told in
      let answer : t.1 ≡ r = sym (same_answer j a t.0 t.1 (sym mine ∙ t.2)) ∙ is in
      (t.0, t.2 ∙ ap (λ (x : P). Done t.0 x) answer, t.3 ∙ ap (λ (x : P). (collected m.0 (t.0, x) (m.0.steps ++ entry m.0 SetStatus (1 + 2 * m.0.number) 0 ∷ []), [])) answer)

pub posted_inside : {V J O X : Type 0} (i j : J) → ◌≡◌ {A = Parcel V J O X} (Posted i) (Posted j) → i ≡ j
posted_inside i j e = cc

module _ {P : Type 0} where
  -- the pass has this slot in hand
  abbrev pub Held : ℕ → SeatState P → Type 0
  Held slot m = (before : List (ℕ × Option P)) × (after : List (ℕ × Option P)) × (y : Option P) × (m.1 ≡ before ++ (slot, y) ∷ after) × StandsAt m.0.number slot before after

  -- what a move of this slot tells
  abbrev pub Moved : ℕ → Option P → SeatState P → SeatState P → Option P → Type 0
  Moved slot z m n r = (before after : List (ℕ × Option P)) (y : Option P) → m.1 ≡ before ++ (slot, y) ∷ after → StandsAt m.0.number slot before after → (r ≡ y) × (n ≡ (m.0, before ++ (slot, z) ∷ after))

  -- the hand of an owner that has the slots of the node x: slot 0, its own, and those two
  abbrev pub full : Option P → List (ℕ × Option P) → ℕ → Option P → Option P → List (ℕ × Option P)
  full w own x a j = (0, w) ∷ (own ++ (2 + 2 * x, a) ∷ (1 + 2 * x, j) ∷ [])

module _ {P : Type 0} (y : OwnSlot P) (x : ℕ) (own : List (ℕ × Option P)) (v : View P) (h : OwnHand y v.number own) (ne : v.number ≢ x) where
  pub job_held : (slot : ℕ) (w a j : Option P) (m : SeatState P) → slot ≡ 1 + 2 * x → m ≡ (v, full w own x a j) → Held slot m
  job_held slot w a j m is e = subst (Held slot) (sym e)
      ((0, w) ∷ (own ++ (2 + 2 * x, a) ∷ []), [], j, split_last (0, w) (2 + 2 * x, a) (1 + 2 * x, j) own ∙ (λ i. ((0, w) ∷ (own ++ (2 + 2 * x, a) ∷ [])) ++ (sym is i, j) ∷ []), job_of y v.number x slot own (0, w) (2 + 2 * x, a) h is ne)

  pub job_moved : (slot : ℕ) (w a j z r : Option P) (m n : SeatState P) → slot ≡ 1 + 2 * x → m ≡ (v, full w own x a j) → Moved slot z m n r → (r ≡ j) × (n ≡ (v, full w own x a z))
  job_moved slot w a j z r m n is e moved =
      let t = subst (λ (k : SeatState P). Moved slot z k n r) e moved ((0, w) ∷ (own ++ (2 + 2 * x, a) ∷ [])) [] j
      (split_last (0, w) (2 + 2 * x, a) (1 + 2 * x, j) own ∙ (λ i. ((0, w) ∷ (own ++ (2 + 2 * x, a) ∷ [])) ++ (sym is i, j) ∷ [])) (job_of y v.number x slot own (0, w) (2 + 2 * x, a) h is ne) in
      (t.0, t.1 ∙ (λ i. (v, ((0, w) ∷ (own ++ (2 + 2 * x, a) ∷ [])) ++ (is i, z) ∷ [])) ∙ ap (λ (c : List (ℕ × Option P)). (v, c)) (sym (split_last (0, w) (2 + 2 * x, a) (1 + 2 * x, z) own)))

  pub front_held : (w a j : Option P) (m : SeatState P) → m ≡ (v, full w own x a j) → Held 0 m
  front_held w a j m e = subst (Held 0) (sym e) ([], own ++ (2 + 2 * x, a) ∷ (1 + 2 * x, j) ∷ [], w, refl, front_of y v.number own (2 + 2 * x, a) (1 + 2 * x, j) h)

  pub front_moved : (w a j z r : Option P) (m n : SeatState P) → m ≡ (v, full w own x a j) → Moved 0 z m n r → (r ≡ w) × (n ≡ (v, full z own x a j))
  front_moved w a j z r m n e moved = subst (λ (k : SeatState P). Moved 0 z k n r) e moved [] (own ++ (2 + 2 * x, a) ∷ (1 + 2 * x, j) ∷ []) w refl (front_of y v.number own (2 + 2 * x, a) (1 + 2 * x, j) h)

  pub answer_held : (slot : ℕ) (w a j : Option P) (m : SeatState P) → slot ≡ 2 + 2 * x → m ≡ (v, full w own x a j) → Held slot m
  answer_held slot w a j m is e = subst (Held slot) (sym e)
      ((0, w) ∷ own, (1 + 2 * x, j) ∷ [], a, (λ i. (0, w) ∷ (own ++ (sym is i, a) ∷ (1 + 2 * x, j) ∷ [])), answer_of y v.number x slot own (0, w) (1 + 2 * x, j) h is)

  pub answer_moved : (slot : ℕ) (w a j z r : Option P) (m n : SeatState P) → slot ≡ 2 + 2 * x → m ≡ (v, full w own x a j) → Moved slot z m n r → (r ≡ a) × (n ≡ (v, full w own x z j))
  answer_moved slot w a j z r m n is e moved =
      let t = subst (λ (k : SeatState P). Moved slot z k n r) e moved ((0, w) ∷ own) ((1 + 2 * x, j) ∷ []) a (λ i. (0, w) ∷ (own ++ (sym is i, a) ∷ (1 + 2 * x, j) ∷ [])) (answer_of y v.number x slot own (0, w) (1 + 2 * x, j) h is) in
      (t.0, t.1 ∙ (λ i. (v, (0, w) ∷ (own ++ (is i, z) ∷ (1 + 2 * x, j) ∷ []))))
